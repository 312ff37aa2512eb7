-- Laws of the terms of a collect: the kept due, the time by the days. To cite: `timely_days`. Assumes nothing.
use Rattle.std.proofs.Common.{Some}
use mathlib.Core.Path.{◌≡◌}
use mathlib.Core.Bool.{not, ◌&&◌}
use Prim.Native.Nat.{ℕ, ◌+◌, ◌≤◌}
use native.Mathlib.Omega.{arith}
use lib.Dec.{ltb}
use Rattle.calendar.specs.DayNumber.{day_number, day_of}
use Rattle.calendar.specs.Target.{first_open, first_business_day}
use Rattle.calendar.proofs.Laws.Answers.{day_of_day_lem}
use Rattle.calendar.proofs.Laws.BusinessDays.{first_open_from}
use Rattle.calendar.proofs.Laws.BusinessDates.{kept_date, kept_date_number, kept_date_date, first_business_day_is}
use Rattle.calendar.proofs.Laws.Periods.{is_after_days_after, not_after_last}
use Rattle.model.specs.Deadlines.{kept_due, timely}

-- ---- kept due and time

kept_due_date : (requested x : ℕ) → first_business_day requested ≡ Some x → kept_due requested ≡ x
unfolding kept_due
kept_due_date requested x e = rw e

-- both tests by the days
pub timely_days :
    (date requested day asked : ℕ) → day_of date ≡ Some day → day_of requested ≡ Some asked → 5 ≤ asked
    → timely date requested ≡ not (ltb (day + 14) asked) && ltb (first_open day) (first_open asked)
unfolding timely
timely_days date requested day asked e f h =
    let d = day_of_day_lem date day e in
    let r = day_of_day_lem requested asked f in
    let k = kept_date_number requested r.0 in
    rw (
      is_after_days_after date requested d.0 r.0 (record { 0 = 14 }),
      kept_due_date requested (kept_date requested) (first_business_day_is requested r.0),
      not_after_last date (kept_date requested) d.0 (kept_date_date requested r.0) (omega (arith, k, r.1, first_open_from (day_number requested))),
      k,
      d.1,
      r.1,
    )
