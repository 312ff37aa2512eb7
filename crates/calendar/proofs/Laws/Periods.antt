-- Laws of specs/Periods: what the answers are.
-- To cite: the laws named F-day and F-none (from a date that there is, or is not), `months_after_is`, `period_end_is`,
-- `period_end_steps`, `period_end_day`, `is_after_date_of`, `is_after_days_after`, `not_after_last`. Assumes nothing.
use Rattle.std.proofs.Common.{None, Some}
use Rattle.std.proofs.lemmas.Option.{cond_some}
use mathlib.Core.Path.{◌≡◌, refl, sym, ap, ◌∙◌}
use mathlib.Core.Bool.{true, false, cond, not, ◌&&◌, and-false}
use Prim.Native.Nat.{ℕ, ◌+◌, ◌-◌, ◌*◌, ◌/◌, ◌%◌, ◌≤◌, ◌<◌}
use native.Mathlib.Decide.{dec_le}
use native.Mathlib.Omega.{arith}
use lib.Dec.{leb, ltb}
use borrow.Author.Tests.{le-leb, lt-leb, lt-ltb, le-ltb, ltb-true}
use Rattle.common.proofs.Tests.{and_halves}
use Rattle.calendar.specs.Gregorian.{year, month, day_of_month, date_of_parts, leap_day, month_length, is_date, last_year}
use Rattle.calendar.specs.DayNumber.{calendar_days, day_number, day_of, date_at, date_of}
use Rattle.calendar.specs.Target.{first_open, open_after, last_business_day_before}
use Rattle.calendar.specs.Periods.{days_after, days_between, business_days_after, month_count, day_of_month_count, months_after, and_then, period_end, is_after}
use Rattle.calendar.specs.declared.CalendarDays.{CalendarDays}
use Rattle.calendar.specs.declared.BusinessDays.{BusinessDays}
use Rattle.calendar.specs.declared.Months.{Months}
use Rattle.calendar.specs.declared.Period.{Period}
use Rattle.calendar.proofs.Laws.DayNumber.{day_number_lt, date_at_date, day_number_date_at, day_number_mono, day_number_mono_le, day_number_reflects, day_number_reflects_le}
use Rattle.calendar.proofs.Laws.Answers.{date_of_is, date_of_beyond, day_of_day_lem, day_of_none}
use Rattle.calendar.proofs.Laws.BusinessDays.{last_open_exists, first_before}

-- ---- days_after

pub days_after_day : (n : CalendarDays) (x d : ℕ) → day_of x ≡ Some d → days_after n x ≡ date_of (d + n.0)
unfolding days_after
days_after_day n x d e = let p = day_of_day_lem x d e in rw (p.0, p.1)

pub days_after_none : (n : CalendarDays) (x : ℕ) → day_of x ≡ None → days_after n x ≡ None
unfolding days_after
days_after_none n x e = rw (day_of_none x e)

-- ---- days_between

-- dates and their days are compared alike
leb_case : (x y : ℕ) → is_date x ≡ true → is_date y ≡ true → leb x y ≡ leb (day_number x) (day_number y)
leb_case x y v w =
    elim (dec_le x y) [
      | yes h ↦ le-leb x y h ∙ sym (le-leb (day_number x) (day_number y) (day_number_mono_le x y v w h))
      | no h ↦ lt-leb x y (omega arith) ∙ sym (lt-leb (day_number x) (day_number y) (day_number_mono y x w v (omega arith)))
    ]

module _ (x y m n : ℕ) (e : day_of x ≡ Some m) (f : day_of y ≡ Some n) where
  between : days_between x y ≡ cond (leb m n) (Some (record { 0 = n - m })) None
  unfolding days_between
  between =
      let p = day_of_day_lem x m e in
      let q = day_of_day_lem y n f in
      rw (p.0, q.0, leb_case x y p.0 q.0, ← p.1, ← q.1)

  pub days_between_days : m ≤ n → days_between x y ≡ Some (record { 0 = n - m })
  days_between_days h = between ∙ rw (le-leb m n h)

  pub days_between_later : n < m → days_between x y ≡ None
  days_between_later h = between ∙ rw (lt-leb m n h)

pub days_between_no_start : (x y : ℕ) → day_of x ≡ None → days_between x y ≡ None
unfolding days_between
days_between_no_start x y e = rw (day_of_none x e)

pub days_between_no_end : (x y : ℕ) → day_of y ≡ None → days_between x y ≡ None
unfolding days_between
days_between_no_end x y e = rw (day_of_none y e, and-false)

-- ---- business_days_after

pub business_days_after_day : (n : BusinessDays) (x d : ℕ) → day_of x ≡ Some d → business_days_after n x ≡ date_of (open_after n.0 d)
unfolding business_days_after
business_days_after_day n x d e = let p = day_of_day_lem x d e in rw (p.0, p.1)

pub business_days_after_none : (n : BusinessDays) (x : ℕ) → day_of x ≡ None → business_days_after n x ≡ None
unfolding business_days_after
business_days_after_none n x e = rw (day_of_none x e)

-- ---- day_of_month_count

module _ (t d : ℕ) where
  pub day_of_month_count_day : d ≤ month_length (leap_day (t / 12)) (t % 12 + 1) → day_of_month_count t d ≡ date_of_parts (t / 12) (t % 12 + 1) d
  unfolding day_of_month_count
  day_of_month_count_day h = omega arith

  pub day_of_month_count_last : month_length (leap_day (t / 12)) (t % 12 + 1) ≤ d → day_of_month_count t d ≡ date_of_parts (t / 12) (t % 12 + 1) (month_length (leap_day (t / 12)) (t % 12 + 1))
  unfolding day_of_month_count
  day_of_month_count_last h = omega arith

-- ---- months_after

module _ (n : Months) (x : ℕ) where
  pub months_after_is : is_date x ≡ true → month_count n.0 x < (last_year + 1) * 12 → months_after n x ≡ Some (day_of_month_count (month_count n.0 x) (day_of_month x))
  unfolding months_after
  months_after_is e h = rw (e, lt-ltb _ _ h)

  pub months_after_beyond : is_date x ≡ true → (last_year + 1) * 12 ≤ month_count n.0 x → months_after n x ≡ None
  unfolding months_after
  months_after_beyond e h = rw (e, le-ltb _ _ h)

  pub months_after_none : is_date x ≡ false → months_after n x ≡ None
  unfolding months_after
  months_after_none e = rw e

-- what an answer says
pub record MonthsDate (n : Months) (x r : ℕ) : Type 0 where
  pub is_date_lem : is_date x ≡ true
  pub inside : month_count n.0 x < (last_year + 1) * 12
  pub is : r ≡ day_of_month_count (month_count n.0 x) (day_of_month x)

pub months_after_date : (n : Months) (x r : ℕ) → months_after n x ≡ Some r → MonthsDate n x r
unfolding months_after
months_after_date n x r e =
    let p = cond_some (is_date x && ltb (month_count n.0 x) ((last_year + 1) * 12)) _ r e in
    let q = and_halves (is_date x) p.0 in
    record { is_date_lem = q.0; inside = ltb-true _ _ q.1; is = sym p.1 }

pub month_count_is : (n x : ℕ) → month_count n x ≡ year x * 12 + (month x - 1) + n
unfolding month_count
month_count_is n x = refl

-- ---- period_end

module _ (p : Period) (x : ℕ) where
  -- its three steps
  pub period_end_steps : period_end p x ≡ and_then (and_then (months_after p.months x) (days_after p.days)) (business_days_after p.business)
  unfolding period_end
  period_end_steps = refl

  pub period_end_is : (m d : ℕ) → months_after p.months x ≡ Some m → days_after p.days m ≡ Some d → period_end p x ≡ business_days_after p.business d
  unfolding period_end
  period_end_is m d e f = rw (e, f)

  pub period_end_no_months : months_after p.months x ≡ None → period_end p x ≡ None
  unfolding period_end
  period_end_no_months e = rw e

  -- by the number of the day some months after
  module _ (m : ℕ) (e : months_after p.months x ≡ Some m) (h : is_date m ≡ true) where
    pub period_end_day : day_number m + p.days.0 < calendar_days → period_end p x ≡ date_of (open_after p.business.0 (day_number m + p.days.0))
    unfolding days_after business_days_after
    period_end_day l =
        let k = day_number m + p.days.0 in
        period_end_is m (date_at k) e (rw h (date_of_is k l))
        ∙ rw (date_at_date k l, day_number_date_at k l)

    pub period_end_beyond : calendar_days ≤ day_number m + p.days.0 → period_end p x ≡ None
    unfolding period_end days_after
    period_end_beyond l = rw (e, h, date_of_beyond (day_number m + p.days.0) l)

-- ---- isAfter: a date and one that was worked out are compared as their days are

-- nothing is after what lies beyond the calendar
after_beyond : (x n : ℕ) → is_date x ≡ true → calendar_days ≤ n → is_after x (date_of n) ≡ ltb n (day_number x)
after_beyond x n h l =
    ap (is_after x) (date_of_beyond n l) ∙ sym (le-ltb n (day_number x) (omega (arith, day_number_lt x h)))

after_inside : (x n : ℕ) → is_date x ≡ true → n < calendar_days → is_after x (date_of n) ≡ ltb n (day_number x)
after_inside x n h l =
    let d = date_at_date n l in
    let e = day_number_date_at n l in
    ap (is_after x) (date_of_is n l)
    ∙ elim (dec_le (day_number x) n) [
      | yes a ↦ le-ltb (date_at n) x (day_number_reflects_le x (date_at n) h d (rw e a)) ∙ sym (le-ltb n (day_number x) a)
      | no a ↦
          lt-ltb (date_at n) x (day_number_reflects (date_at n) x d h (rw e (omega arith))) ∙ sym (lt-ltb n (day_number x) (omega arith))
    ]

pub is_after_date_of : (x n : ℕ) → is_date x ≡ true → is_after x (date_of n) ≡ ltb n (day_number x)
is_after_date_of x n h =
    elim (dec_le calendar_days n) [ yes l ↦ after_beyond x n h l | no l ↦ after_inside x n h (omega arith) ]

module _ (x y : ℕ) (v : is_date x ≡ true) (w : is_date y ≡ true) where
  pub is_after_days_after : (n : CalendarDays) → is_after y (days_after n x) ≡ ltb (day_number x + n.0) (day_number y)
  unfolding days_after
  is_after_days_after n = rw v (is_after_date_of y (day_number x + n.0) w)

  -- a date is in time for the last business day before another exactly if its own first one is before it
  pub not_after_last : 5 ≤ day_number y → not (is_after x (last_business_day_before y)) ≡ ltb (first_open (day_number x)) (day_number y)
  unfolding last_business_day_before
  not_after_last l =
      let i = last_open_exists (day_number y) l (day_number_lt y w) in
      rw (w, i.is)
      (ap not (is_after_date_of x i.day v) ∙ first_before (day_number x) (day_number y) i.day (day_number_lt x v) i.last)
