use Rattle.calendar.specs.Target.{first_open}
use Rattle.calendar.specs.DayNumber.{calendar_days}
use Prim.Native.Nat.{◌<◌, ◌-◌}
use mathlib.Core.Path.{◌≡◌}
use Rattle.calendar.proofs.target.first_open_day.Given as goal

abbrev pub invariant-loop-d : goal.invariant-loop-d
invariant-loop-d l = (l.d < calendar_days) × (first_open l.d ≡ first_open l.fn.day)

abbrev pub decreases-loop-d : goal.decreases-loop-d
decreases-loop-d l = calendar_days - l.d
