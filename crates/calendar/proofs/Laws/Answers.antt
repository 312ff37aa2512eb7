-- What an answer says, and what the answer is: dates and days that there are, and those that there are not.
-- Names: F-is gives F where the value exists; F-date and F-day read a value out of F, F-none its absence.
-- Assumes nothing.
use Rattle.std.proofs.Common.{None, Option, Some, ℕ}
use Rattle.std.proofs.lemmas.Option.{cond_some}
use mathlib.Core.Path.{◌≡◌, refl, sym}
use mathlib.Core.Bool.{Bool, true, false, cond}
use Prim.Native.Nat.{ℕ, ◌+◌, ◌<◌, ◌≤◌}
use native.Mathlib.Omega.{arith}
use lib.Dec.{ltb}
use borrow.Author.Tests.{lt-ltb, le-ltb, ltb-true, ltb-false}
use Rattle.calendar.specs.Gregorian.{is_date}
use Rattle.calendar.specs.DayNumber.{calendar_days, day_number, day_of, date_at, date_of, in_calendar}
use Rattle.calendar.proofs.Laws.DayNumber.{day_number_lt}

-- ---- an answer under a test

pub cond_none : {A : Type 0} (b : Bool) (x : A) → cond b (Some x) None ≡ None → b ≡ false
cond_none true x e = cc
cond_none false x e = refl

-- the answer is a date, not before the date x and at most some days later
pub record DateAfter (x : ℕ) (answer : Option ℕ) (days : ℕ) : Type 0 where
  pub date : ℕ
  pub is : answer ≡ Some date
  pub is_date_lem : is_date date ≡ true
  pub from : x ≤ date
  pub near : day_number date ≤ day_number x + days

-- ---- day_of

pub day_of_is : (x : ℕ) → is_date x ≡ true → day_of x ≡ Some (day_number x)
unfolding day_of
day_of_is x e = rw e

pub day_of_day_lem : (x n : ℕ) → day_of x ≡ Some n → (is_date x ≡ true) × (n ≡ day_number x)
unfolding day_of
day_of_day_lem x n e = let p = cond_some (is_date x) (day_number x) n e in (p.0, sym p.1)

-- such days are of the calendar
pub day_lt : (x n : ℕ) → day_of x ≡ Some n → n < calendar_days
day_lt x n e = let d = day_of_day_lem x n e in omega (arith, d.1, day_number_lt x d.0)

pub day_of_none : (x : ℕ) → day_of x ≡ None → is_date x ≡ false
unfolding day_of
day_of_none x e = cond_none (is_date x) (day_number x) e

-- ---- date_of

pub date_of_is : (n : ℕ) → n < calendar_days → date_of n ≡ Some (date_at n)
unfolding date_of
date_of_is n h = rw (lt-ltb n calendar_days h)

pub date_of_beyond : (n : ℕ) → calendar_days ≤ n → date_of n ≡ None
unfolding date_of
date_of_beyond n h = rw (le-ltb n calendar_days h)

pub date_of_date : (n x : ℕ) → date_of n ≡ Some x → (n < calendar_days) × (x ≡ date_at n)
unfolding date_of
date_of_date n x e =
    let p = cond_some (ltb n calendar_days) (date_at n) x e in
    (ltb-true n calendar_days p.0, sym p.1)

-- ---- in_calendar

pub in_calendar_is : (n : ℕ) → n < calendar_days → in_calendar n ≡ Some n
unfolding in_calendar
in_calendar_is n h = rw (lt-ltb n calendar_days h)

pub in_calendar_beyond : (n : ℕ) → calendar_days ≤ n → in_calendar n ≡ None
unfolding in_calendar
in_calendar_beyond n h = rw (le-ltb n calendar_days h)

pub in_calendar_day : (n m : ℕ) → in_calendar n ≡ Some m → (n < calendar_days) × (m ≡ n)
unfolding in_calendar
in_calendar_day n m e =
    let p = cond_some (ltb n calendar_days) n m e in
    (ltb-true n calendar_days p.0, sym p.1)

pub in_calendar_none : (n : ℕ) → in_calendar n ≡ None → calendar_days ≤ n
unfolding in_calendar
in_calendar_none n e = ltb-false n calendar_days (cond_none (ltb n calendar_days) n e)

-- ---- an answer for the day of a date

pub record DayOfDate (x k r : ℕ) : Type 0 where
  pub is_date_lem : is_date x ≡ true
  pub inside : k < calendar_days
  pub is : r ≡ date_at k

pub day_of_date : (x k r : ℕ) → cond (is_date x) (date_of k) None ≡ Some r → DayOfDate x k r
day_of_date x k r e =
    let p : (is_date x ≡ true) × (date_of k ≡ Some r) = grind arith in
    let q = date_of_date k r p.1 in
    record { is_date_lem = p.0; inside = q.0; is = q.1 }
