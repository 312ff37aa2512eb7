use Rattle.calendar.specs.Target.{open_after}
use Rattle.std.proofs.Common.{◌≡◌}
use Rattle.calendar.proofs.periods.open_after.Given as goal

abbrev pub invariant-loop : goal.invariant-loop
invariant-loop l = open_after l.counter l.fn.day ≡ l.at
