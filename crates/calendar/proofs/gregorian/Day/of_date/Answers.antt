use Rattle.calendar.specs.DayNumber.{day_number}
use Rattle.calendar.proofs.Laws.DayNumber.{day_number_lt}
use Rattle.calendar.proofs.gregorian.Day.of_date.Goals as goal

pub invariant_of-result : goal.invariant_of-result
unfolding day_number
invariant_of-result c = rw (c.start.ensures, c.days_before.ensures) (day_number_lt c.args.x c.requires)
