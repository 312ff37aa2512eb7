use Rattle.std.proofs.Common.{◌≡◌, ◌+◌, ◌*◌, ◌-◌, None, Some}
use Rattle.tables.specs.Lookup.{number_is}
use Rattle.common.specs.Walk.{first_from}
use Rattle.tables.proofs.lookup.skip.Given as goal

abbrev pub invariant-loop-turn : goal.invariant-loop-turn
invariant-loop-turn l = first_from (number_is l.cells l.number) Some None (l.from + 8 * l.turn) (l.n - (l.from + 8 * l.turn)) ≡ first_from (number_is l.cells l.number) Some None l.from (l.n - l.from)
