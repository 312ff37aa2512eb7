-- Laws of specs/Target for dates: what the answers are.
-- To cite: `first_business_day_is`, the laws named kept_date_F (the date to which a due date is kept), `kept_in_range` (it is in the range),
-- `kept_is` and the laws named slide_F (the days to it), `business_day_before`. Assumes nothing.
use Rattle.std.proofs.Common.{None, Some}
use mathlib.Core.Path.{◌≡◌, refl, sym, ap, ◌∙◌}
use mathlib.Core.Bool.{Bool, true, false}
use Prim.Native.Nat.{ℕ, ◌+◌, ◌-◌, ◌≤◌, ◌<◌}
use native.Mathlib.Omega.{arith}
use lib.Dec.{eqb}
use borrow.Author.Tests.{ne_eqb}
use Rattle.calendar.specs.Gregorian.{leap, leap_day, month_length, is_date, in_range, last_date}
use Rattle.calendar.specs.DayNumber.{calendar_days, days_before, year_start, day_number, day_of, date_at, date_of}
use Rattle.calendar.specs.Easter.{computus, easter_sunday}
use Rattle.calendar.specs.Target.{closed_by, closed, business_day, is_open, first_open, last_open_before, answer_date, first_business_day, kept, last_business_day_before}
use Rattle.calendar.specs.Periods.{days_after}
use Rattle.calendar.proofs.Laws.Gregorian.{range_facts, in_range_lem}
use Rattle.calendar.proofs.Laws.DayNumber.{day_number_lt, date_at_date, day_number_date_at, day_number_mono, day_number_mono_le, day_number_reflects, day_number_reflects_le}
use Rattle.calendar.proofs.Laws.Answers.{day_of_day_lem, day_of_none, date_of_is, date_of_date}
use Rattle.calendar.proofs.Laws.Target.{open_date, open_at}
use Rattle.calendar.proofs.Laws.BusinessDays.{first_open_first, first_open_lt, first_open_near, first_open_open, last_open_exists}

-- ---- first_business_day

-- by the answer for the date's day
pub first_business_day_day : (x n : ℕ) → day_of x ≡ Some n → first_business_day x ≡ date_of (first_open n)
unfolding first_business_day
first_business_day_day x n e = let p = day_of_day_lem x n e in rw (p.0, p.1)

pub first_business_day_none : (x : ℕ) → day_of x ≡ None → first_business_day x ≡ None
unfolding first_business_day
first_business_day_none x e = rw (day_of_none x e)

-- the date to which a due date is kept
pub kept_date : ℕ → ℕ
kept_date x = date_at (first_open (day_number x))

module _ (x : ℕ) (h : is_date x ≡ true) where
  pub first_business_day_is : first_business_day x ≡ Some (kept_date x)
  unfolding first_business_day kept_date
  first_business_day_is = rw h (date_of_is _ (first_open_lt _ (day_number_lt x h)))

  pub kept_date_number : day_number (kept_date x) ≡ first_open (day_number x)
  unfolding kept_date
  kept_date_number = day_number_date_at _ (first_open_lt _ (day_number_lt x h))

  pub kept_date_date : is_date (kept_date x) ≡ true
  unfolding kept_date
  kept_date_date = date_at_date _ (first_open_lt _ (day_number_lt x h))

  pub kept_date_business : business_day (kept_date x) ≡ true
  kept_date_business =
      sym (open_date (kept_date x) kept_date_date)
      ∙ ap is_open kept_date_number
      ∙ (first_open_first _ (day_number_lt x h)).is_open_lem

  pub kept_date_from : x ≤ kept_date x
  kept_date_from =
      day_number_reflects_le x (kept_date x) h kept_date_date
      (rw kept_date_number (first_open_first _ (day_number_lt x h)).from)

  -- no business day is passed over
  pub kept_date_first : (y : ℕ) → business_day y ≡ true → is_date y ≡ true → x ≤ y → kept_date x ≤ y
  kept_date_first y b d l =
      let f = first_open_first _ (day_number_lt x h) in
      let n = day_number_mono_le x y h d l in
      let o = open_date y d ∙ b in
      let p : ¬ (day_number y < first_open (day_number x)) = λ s. cc (f.shut (day_number y) n s) in
      day_number_reflects_le (kept_date x) y kept_date_date d (rw kept_date_number (omega arith))

-- the last date of events and rows is a business day
last_date_business : business_day last_date ≡ true
unfolding business_day closed closed_by is_date month_length year_start days_before leap_day leap day_number easter_sunday computus
last_date_business = refl

pub last_date_date : is_date last_date ≡ true
unfolding is_date month_length leap_day leap
last_date_date = refl

-- so a due date of the range is kept in the range
pub kept_in_range : (x : ℕ) → in_range x ≡ true → in_range (kept_date x) ≡ true
kept_in_range x r =
    let f = range_facts x r in
    let d = f.is_date_lem in
    in_range_lem (kept_date x)
    (record {
      is_date_lem = kept_date_date x d;
      from = omega (arith, f.from, kept_date_from x d);
      to = kept_date_first x d last_date last_date_business last_date_date f.to;
    })

-- ---- kept

-- by the answer for the date's day
pub kept_day : (x n date : ℕ) → day_of x ≡ Some n → Some date ≡ date_of (first_open n) → kept x ≡ Some (record { date = date; slid = record { 0 = first_open n - n } })
unfolding kept
kept_day x n date e f =
    let p = day_of_day_lem x n e in
    let q = date_of_date (first_open n) date (sym f) in
    let m : day_number date ≡ first_open n = ap day_number q.1 ∙ day_number_date_at _ q.0 in
    rw (first_business_day_day x n e ∙ sym f, m, p.1)

pub kept_none : (x : ℕ) → day_of x ≡ None → kept x ≡ None
unfolding kept
kept_none x e = rw (first_business_day_none x e)

-- the days that a due date slides
pub slide : ℕ → ℕ
slide x = first_open (day_number x) - day_number x

module _ (x : ℕ) (h : is_date x ≡ true) where
  pub kept_is : kept x ≡ Some (record { date = kept_date x; slid = record { 0 = slide x } })
  unfolding kept slide
  kept_is = rw (first_business_day_is x h, kept_date_number x h)

  -- so many days after the date lies the one to which it is kept
  pub slide_counted : days_after (record { 0 = slide x }) x ≡ Some (kept_date x)
  unfolding days_after slide kept_date
  slide_counted =
      let n = day_number_lt x h in
      let e : day_number x + (first_open (day_number x) - day_number x) ≡ first_open (day_number x) = omega (arith, (first_open_first _ n).from) in
      rw (h, e) (date_of_is _ (first_open_lt _ n))

  pub slide_near : slide x ≤ 4
  unfolding slide
  slide_near = omega (arith, first_open_near _ (day_number_lt x h))

  slide_open : (b : Bool) → is_open (day_number x) ≡ b → eqb (slide x) 0 ≡ b
  unfolding slide
  slide_open true o =
      let e : first_open (day_number x) - day_number x ≡ 0 = omega (arith, first_open_open _ o) in
      rw e
  slide_open false o =
      let f = first_open_first _ (day_number_lt x h) in
      let p : ¬ (first_open (day_number x) ≡ day_number x) = λ e. let t = ap is_open e ∙ o in cc in
      ne_eqb (first_open (day_number x) - day_number x) 0 (λ e. p (omega (arith, e, f.from)))

  -- none exactly on a business day
  pub slide_none : eqb (slide x) 0 ≡ business_day x
  slide_none = slide_open (business_day x) (open_date x h)

-- ---- last_business_day_before

pub last_business_day_day : (x n : ℕ) → day_of x ≡ Some n → last_business_day_before x ≡ answer_date (last_open_before n)
unfolding last_business_day_before
last_business_day_day x n e = let p = day_of_day_lem x n e in rw (p.0, p.1)

pub last_business_day_none : (x : ℕ) → day_of x ≡ None → last_business_day_before x ≡ None
unfolding last_business_day_before
last_business_day_none x e = rw (day_of_none x e)

-- the business day before a date that has one, not more than five days before it
pub record BusinessDayBefore (x : ℕ) : Type 0 where
  pub date : ℕ
  pub is : last_business_day_before x ≡ Some date
  pub is_date_lem : is_date date ≡ true
  pub business : business_day date ≡ true
  pub before : date < x
  pub last : (y : ℕ) → is_date y ≡ true → date < y → y < x → business_day y ≡ false
  pub near : day_number x ≤ day_number date + 5

pub business_day_before : (x : ℕ) → is_date x ≡ true → 5 ≤ day_number x → BusinessDayBefore x
unfolding last_business_day_before
business_day_before x h l =
    let n = day_number_lt x h in
    let i = last_open_exists (day_number x) l n in
    let b = i.last.before in
    let r : i.day < calendar_days = omega arith in
    let d = date_at_date i.day r in
    let e = day_number_date_at i.day r in
    record {
      date = date_at i.day;
      is = rw (h, i.is) (date_of_is i.day r);
      is_date_lem = d;
      business = sym (open_at i.day r) ∙ i.last.is_open_lem;
      before = day_number_reflects _ x d h (rw e b);
      last =
          λ y v a z.
          sym (open_date y v)
          ∙ i.last.shut (day_number y) (rw e at (day_number_mono _ y d v a)) (day_number_mono y x v h z);
      near = rw e i.near;
    }
