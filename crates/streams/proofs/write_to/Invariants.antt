-- The output has grown by the bytes that stand before the rest. Where there are none to write, the first turn is the last.
use Rattle.std.proofs.Common.{◌≡◌, ◌≤◌, ◌-◌, length, take, drop}
use Rattle.std.specs.Io.KnownBytes.{Appends}
use Rattle.streams.proofs.write_to.Given as goal

abbrev pub invariant-loop : goal.invariant-loop
invariant-loop g l =
    (length l.rest ≤ length l.bytes)
    × (l.rest ≡ drop (length l.bytes - length l.rest) l.bytes)
    × Appends (g.W.Write.contents l.initial.output) (g.W.Write.contents l.output) (take (length l.bytes - length l.rest) l.bytes)
    × (length l.bytes ≡ 0 → l.counter ≡ 0)
