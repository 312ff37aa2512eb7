use Rattle.calendar.proofs.Laws.Gregorian.{date_valid, valid_day_le}
use native.Mathlib.Omega.{arith}
use mathlib.Core.Path.{sym}
use Rattle.calendar.proofs.periods.months_after.Goals as goal

pub overflow_sub-x : goal.overflow_sub-x
overflow_sub-x c = (date_valid c.args.x (sym c.if-not-is_date.ensures)).january

pub day_of_month-requires : goal.day_of_month-requires
day_of_month-requires c =
    let v = date_valid c.args.x (sym c.if-not-is_date.ensures) in
    (omega (arith, v, c.in_ok-t.ensures), omega arith, valid_day_le v)
