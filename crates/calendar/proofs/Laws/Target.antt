-- Laws of specs/Target: business days, and the first one on or after a day.
-- To cite: `open_date` and `day_business` (a day is open when its date is a business day), `open_lt`, `first_unique`. Assumes nothing.
use Rattle.std.proofs.Common.{None, Some, MatchOption}
use Rattle.std.proofs.lemmas.Bool.{cond_both}
use mathlib.Core.Path.{◌≡◌, refl, ap, ◌∙◌}
use mathlib.Core.Bool.{true, false, not}
use mathlib.Core.Logic.{⊎_elim}
use Prim.Native.Nat.{ℕ, ◌+◌, ◌≤◌, ◌<◌}
use native.Mathlib.Nat.{eq-or-lt_of_le}
use native.Mathlib.Omega.{arith}
use lib.Dec.{ltb}
use borrow.Author.Tests.{lt-ltb, le-ltb, ltb-true, ltb-false}
use Rattle.common.proofs.Tests.{and_halves}
use Rattle.calendar.specs.Gregorian.{month_day, leap, leap_day, month_length, is_date, first_year}
use Rattle.calendar.specs.DayNumber.{calendar_days, days_before, year_start, day_number, day_of, in_calendar, year_at, month_at, date_in, date_at}
use Rattle.calendar.specs.Easter.{computus, easter_sunday}
use Rattle.calendar.specs.Target.{closed_by, closed, business_day, is_open, First}
use Rattle.calendar.proofs.Laws.DayNumber.{date_at_date, day_number_date_at, year_date_at, date_at_day_number, day_number_lt}

-- ---- business_day

pub business_is : (x : ℕ) → is_date x ≡ true → business_day x ≡ not (closed x)
unfolding business_day
business_is x e = rw e

pub no_date_no_business : (x : ℕ) → is_date x ≡ false → business_day x ≡ false
unfolding business_day
no_date_no_business x e = rw e

-- ---- is_open

pub open_lt : (n : ℕ) → is_open n ≡ true → n < calendar_days
unfolding is_open
open_lt n e = ltb-true n calendar_days (and_halves (ltb n calendar_days) e).0

pub open_beyond : (n : ℕ) → calendar_days ≤ n → is_open n ≡ false
unfolding is_open
open_beyond n h = rw (le-ltb n calendar_days h)

pub open_at : (n : ℕ) → n < calendar_days → is_open n ≡ business_day (date_at n)
unfolding is_open
open_at n h = rw (lt-ltb n calendar_days h)

pub open_date : (x : ℕ) → is_date x ≡ true → is_open (day_number x) ≡ business_day x
open_date x e = open_at (day_number x) (day_number_lt x e) ∙ ap business_day (date_at_day_number x e)

-- a number is that of a business day if it is that of a day, and the day is one
pub day_open : (n : ℕ) → MatchOption (in_calendar n) (is_open n ≡ false) (λ d. is_open d ≡ is_open n)
unfolding in_calendar
day_open n =
    cond_both (ltb n calendar_days) (Some n) None (λ o. MatchOption o (is_open n ≡ false) (λ d. is_open d ≡ is_open n)) (λ e. refl)
    (λ e. open_beyond n (ltb-false n calendar_days e))

-- a date's day, if there is one, is a business day when the date is
pub day_business : (x : ℕ) → MatchOption (day_of x) (business_day x ≡ false) (λ n. is_open n ≡ business_day x)
unfolding day_of
day_business x =
    cond_both (is_date x) (Some (day_number x)) None (λ o. MatchOption o (business_day x ≡ false) (λ n. is_open n ≡ business_day x))
    (open_date x) (no_date_no_business x)

-- by the eight tests of the day itself
pub open_tests : (n : ℕ) → n < calendar_days → is_open n ≡ not (closed_by n (month_day (date_at n)) (day_number (easter_sunday (first_year + year_at n))))
unfolding closed
open_tests n h =
    open_at n h
    ∙ business_is (date_at n) (date_at_date n h)
    ∙ rw (day_number_date_at n h, year_date_at n h)

-- the calendar's last day is a business day
pub last_open : is_open 73048 ≡ true
unfolding is_open business_day closed closed_by is_date month_length date_at date_in year_at year_start month_at days_before leap_day leap day_number easter_sunday computus
last_open = refl

-- so a closed day of the calendar has a day after it
pub closed_not_last : (n : ℕ) → n < calendar_days → is_open n ≡ false → n + 1 < calendar_days
closed_not_last n h e =
    ⊎_elim (λ (p : n ≡ 73048). absurd (cc last_open)) (λ (l : n < 73048). omega arith)
    (eq-or-lt_of_le (omega arith))

-- ---- First

pub first_unique : (n r s : ℕ) → First n r → First n s → r ≡ s
first_unique n r s a b =
    let p : ¬ (r < s) = λ l. cc (b.shut r a.from l) in
    let q : ¬ (s < r) = λ l. cc (a.shut s b.from l) in
    omega arith

pub first_here : (n : ℕ) → is_open n ≡ true → First n n
first_here n e = record { from = omega arith; is_open_lem = e; shut = λ j a b. absurd (omega arith) }

pub first_later : (n r : ℕ) → is_open n ≡ false → First (n + 1) r → First n r
first_later n r e f =
    record {
      from = omega (arith, f.from);
      is_open_lem = f.is_open_lem;
      shut = λ j a b. ⊎_elim (λ (p : n ≡ j). rw (← p) e) (λ (l : n < j). f.shut j (omega arith) b) (eq-or-lt_of_le a);
    }

pub first_rest : (n r : ℕ) → is_open n ≡ false → First n r → First (n + 1) r
first_rest n r e f =
    let q : ¬ (n ≡ r) = λ i. cc in
    record { from = omega (arith, f.from); is_open_lem = f.is_open_lem; shut = λ j a b. f.shut j (omega arith) b }

-- an earlier day's first business day is not later
pub first_mono : (n m r s : ℕ) → n ≤ m → First n r → First m s → r ≤ s
first_mono n m r s h a b =
    let p : ¬ (s < r) = λ l. cc (a.shut s (omega (arith, b.from)) l) in
    omega arith
