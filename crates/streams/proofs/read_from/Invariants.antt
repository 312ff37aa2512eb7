-- The buffer has its first bytes still, and no byte of the input is gone.
use Rattle.std.proofs.Common.{◌≡◌, take}
use Rattle.std.specs.Io.KnownBytes.{Keeps}
use Rattle.streams.proofs.read_from.Given as goal

abbrev pub invariant-loop : goal.invariant-loop
invariant-loop g l = (take l.from l.buffer ≡ take l.from l.initial.buffer) × Keeps (g.R.Read.remaining l.initial.input) (g.R.Read.remaining l.input)
