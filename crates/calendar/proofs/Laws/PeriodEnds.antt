-- Laws of specs/Periods: where periods end. To cite: `range_days`, `first_business_day_lem`, `days_after_lem`, `business_days_after_lem`, `period_end_lem`,
-- `range_period_end` (each gives a `DateAfter`), and the laws named F-mono (a later start ends no earlier). Assumes nothing.
use Rattle.std.proofs.Common.{None, Option, Some, ℕ}
use mathlib.Core.Path.{◌≡◌, refl, sym, ◌∙◌}
use mathlib.Core.Bool.{true, cond}
use Prim.Native.Nat.{ℕ, ◌+◌, ◌*◌, ◌≤◌, ◌<◌}
use native.Mathlib.Omega.{arith}
use Rattle.calendar.specs.Gregorian.{leap, leap_day, month_length, is_date, in_range, first_date, last_date, last_year}
use Rattle.calendar.specs.DayNumber.{calendar_days, days_before, year_start, day_number, date_at, date_of}
use Rattle.calendar.specs.Target.{business_day, open_after, first_business_day}
use Rattle.calendar.specs.Periods.{days_after, business_days_after, month_count, months_after, and_then, period_end}
use Rattle.calendar.specs.declared.CalendarDays.{CalendarDays}
use Rattle.calendar.specs.declared.BusinessDays.{BusinessDays}
use Rattle.calendar.specs.declared.Period.{Period}
use Rattle.calendar.proofs.Laws.Gregorian.{date_valid, range_facts}
use Rattle.calendar.proofs.Laws.DayNumber.{day_number_lt, date_at_date, day_number_date_at, day_number_mono_le, day_number_reflects_le, date_at_mono_le}
use Rattle.calendar.proofs.Laws.Answers.{DateAfter, day_of_date, date_of_is}
use Rattle.calendar.proofs.Laws.Target.{open_at}
use Rattle.calendar.proofs.Laws.BusinessDays.{first_open_near, open_after_from, open_after_near, open_after_mono, open_after_first}
use Rattle.calendar.proofs.Laws.BusinessDates.{kept_date, last_date_date, first_business_day_is, kept_date_number, kept_date_date, kept_date_from}
use Rattle.calendar.proofs.Laws.Periods.{month_count_is, period_end_is}
use Rattle.calendar.proofs.Laws.MonthCounts.{months_after_lem, months_after_mono}

-- ---- the days of the dates in events and rows

first_day : day_number first_date ≡ 3653
unfolding day_number year_start days_before leap_day leap
first_day = refl

last_day_lem : day_number last_date ≡ 69396
unfolding day_number year_start days_before leap_day leap
last_day_lem = refl

first_is_date : is_date first_date ≡ true
unfolding is_date month_length leap_day leap
first_is_date = refl

-- ten years and more are left on either side
pub range_days : (x : ℕ) → in_range x ≡ true → (3653 ≤ day_number x) × (day_number x ≤ 69396)
range_days x r =
    let f = range_facts x r in (
      omega (arith, first_day, day_number_mono_le first_date x first_is_date f.is_date_lem f.from),
      omega (arith, last_day_lem, day_number_mono_le x last_date f.is_date_lem last_date_date f.to),
    )

-- ---- from a date to a later day

-- the answer for a later day of the calendar
later : (x k d : ℕ) → is_date x ≡ true → k < calendar_days → day_number x ≤ k → k ≤ day_number x + d → DateAfter x (cond (is_date x) (date_of k) None) d
later x k d h l a b =
    record {
      date = date_at k;
      is = rw h (date_of_is k l);
      is_date_lem = date_at_date k l;
      from = day_number_reflects_le x _ h (date_at_date k l) (rw (day_number_date_at k l) a);
      near = rw (day_number_date_at k l) b;
    }

-- answers in the order of their days
in_order : (x y j k r s : ℕ) → cond (is_date x) (date_of j) None ≡ Some r → cond (is_date y) (date_of k) None ≡ Some s → (k < calendar_days → day_number x ≤ day_number y → j ≤ k) → x ≤ y → r ≤ s
in_order x y j k r s e f m l =
    let p = day_of_date x j r e in
    let q = day_of_date y k s f in
    rw (p.is, q.is) (date_at_mono_le j k (m q.inside (day_number_mono_le x y p.is_date_lem q.is_date_lem l)) q.inside)

pub first_business_day_lem : (x : ℕ) → is_date x ≡ true → DateAfter x (first_business_day x) 4
first_business_day_lem x h =
    record {
      date = kept_date x;
      is = first_business_day_is x h;
      is_date_lem = kept_date_date x h;
      from = kept_date_from x h;
      near = rw (kept_date_number x h) (first_open_near (day_number x) (day_number_lt x h));
    }

-- ---- days_after

pub days_after_lem : (n : CalendarDays) (x : ℕ) → is_date x ≡ true → day_number x + n.0 < calendar_days → DateAfter x (days_after n x) n.0
unfolding days_after
days_after_lem n x h l = later x (day_number x + n.0) n.0 h l (omega arith) (omega arith)

pub days_after_mono : (n : CalendarDays) (x y r s : ℕ) → days_after n x ≡ Some r → days_after n y ≡ Some s → x ≤ y → r ≤ s
unfolding days_after
days_after_mono n x y r s e f l = in_order x y _ _ r s e f (λ h m. omega arith) l

-- ---- business_days_after

pub business_days_after_lem : (n : BusinessDays) (x : ℕ) → is_date x ≡ true → day_number x + 5 * n.0 < calendar_days → DateAfter x (business_days_after n x) (5 * n.0)
unfolding business_days_after
business_days_after_lem n x h l =
    let a = open_after_from n.0 (day_number x) in
    let b = open_after_near n.0 (day_number x) l in
    later x (open_after n.0 (day_number x)) (5 * n.0) h (omega arith) (omega arith) (omega arith)

pub business_days_after_mono : (n : BusinessDays) (x y r s : ℕ) → business_days_after n x ≡ Some r → business_days_after n y ≡ Some s → x ≤ y → r ≤ s
unfolding business_days_after
business_days_after_mono n x y r s e f l = in_order x y _ _ r s e f (λ h m. open_after_mono n.0 (day_number x) (day_number y) m h) l

-- what is counted in business days is one
pub business_days_after_business : (n : BusinessDays) (k x r : ℕ) → n.0 ≡ k + 1 → business_days_after n x ≡ Some r → business_day r ≡ true
unfolding business_days_after
business_days_after_business n k x r p e =
    let q = day_of_date x _ r e in
    let h : open_after (k + 1) (day_number x) < calendar_days = rw (← p) q.inside in
    rw (q.is, p) (sym (open_at _ h) ∙ (open_after_first k (day_number x) h).is_open_lem)

-- ---- period_end

-- the longest that a period takes
unfoldable pub longest : Period → ℕ
longest p = 31 * p.months.0 + p.days.0 + 5 * p.business.0

pub period_end_lem : (p : Period) (x : ℕ) → is_date x ≡ true → month_count p.months.0 x < (last_year + 1) * 12 → day_number x + longest p < calendar_days → DateAfter x (period_end p x) (longest p)
unfolding longest
period_end_lem p x h l m =
    let a = months_after_lem p.months x h l in
    let b = days_after_lem p.days a.date a.is_date_lem (omega (arith, a.near)) in
    let c = business_days_after_lem p.business b.date b.is_date_lem (omega (arith, a.near, b.near)) in
    record {
      date = c.date;
      is = period_end_is p x a.date b.date a.is b.is ∙ c.is;
      is_date_lem = c.is_date_lem;
      from = omega (arith, a.from, b.from, c.from);
      near = omega (arith, a.near, b.near, c.near);
    }

-- from every date in events and rows, up to ten years
pub range_period_end : (p : Period) (x : ℕ) → in_range x ≡ true → longest p ≤ 3652 → DateAfter x (period_end p x) (longest p)
unfolding longest
range_period_end p x r l =
    let f = range_facts x r in
    let v = date_valid x f.is_date_lem in
    let e = month_count_is p.months.0 x in
    period_end_lem p x f.is_date_lem (omega (arith, f.to)) (omega (arith, range_days x r))

record Then (a : Option ℕ) (f : ℕ → Option ℕ) (r : ℕ) : Type 0 where
  date : ℕ
  first : a ≡ Some date
  second : f date ≡ Some r

then_date : (a : Option ℕ) (f : ℕ → Option ℕ) (r : ℕ) → and_then a f ≡ Some r → Then a f r
then_date (Some x) f r e = record { date = x; first = refl; second = e }
then_date None f r e = absurd cc

pub period_end_mono : (p : Period) (x y r s : ℕ) → period_end p x ≡ Some r → period_end p y ≡ Some s → x ≤ y → r ≤ s
unfolding period_end
period_end_mono p x y r s e f l =
    let a = then_date (and_then (months_after p.months x) (days_after p.days)) (business_days_after p.business) r e in
    let b = then_date (and_then (months_after p.months y) (days_after p.days)) (business_days_after p.business) s f in
    let c = then_date (months_after p.months x) (days_after p.days) a.date a.first in
    let d = then_date (months_after p.months y) (days_after p.days) b.date b.first in
    let m = months_after_mono p.months x y c.date d.date c.first d.first l in
    let n = days_after_mono p.days c.date d.date a.date b.date c.second d.second m in
    business_days_after_mono p.business a.date b.date r s a.second b.second n
