-- Laws of specs/Gregorian. To cite: `leap_day_in`, `Valid` with `date_valid` and `valid_date` (the tests of a date, by
-- name), `InRange` with `range_facts`. Assumes nothing.
use mathlib.Core.Path.{◌≡◌, refl}
use mathlib.Core.Bool.{true, cond, not, ◌&&◌}
use Prim.Native.Nat.{ℕ, ◌+◌, ◌-◌, ◌%◌, ◌≤◌, ◌<◌}
use native.Mathlib.Omega.{arith}
use lib.Dec.{leb, eqb}
use borrow.Author.Tests.{leb-true, le-leb, eqb-true}
use Rattle.std.proofs.lemmas.Bool.{agree_below_at}
use Rattle.common.proofs.Tests.{and_halves}
use Rattle.calendar.specs.Gregorian.{year, month, day_of_month, date_of_parts, leap, leap_day, month_length, is_date, in_range, first_year, last_year, first_date, last_date}

-- ---- leap_day, month_length

pub leap_day_le : (y : ℕ) → leap_day y ≤ 1
unfolding leap_day
leap_day_le y = grind arith

-- of the calendar's years that 4 divides only 2100 is no leap year
by_four : ℕ → ℕ
by_four y = cond (eqb (y % 4) 0 && not (eqb y 2100)) 1 0

by_four_is : (k : ℕ) → k < 200 → by_four (first_year + k) ≡ leap_day (first_year + k)
unfolding by_four leap_day leap
by_four_is k h =
    eqb-true _ _ (agree_below_at (λ j. eqb (by_four (first_year + j)) (leap_day (first_year + j))) (λ j. true) 200 k refl h)

pub leap_day_in : (y : ℕ) → first_year ≤ y → y ≤ last_year → cond (eqb (y % 4) 0 && not (eqb y 2100)) 1 0 ≡ leap_day y
unfolding by_four
leap_day_in y a b =
    let e : first_year + (y - first_year) ≡ y = omega arith in
    rw e at (by_four_is (y - first_year) (omega arith))

pub month_length_le : (l m : ℕ) → l ≤ 1 → month_length l m ≤ 31
unfolding month_length
month_length_le l m h = grind arith

pub month_length_ge : (l m : ℕ) → 28 ≤ month_length l m
unfolding month_length
month_length_ge l m = grind arith

-- ---- the parts of YYYYMMDD

pub date_parts : (x : ℕ) → date_of_parts (year x) (month x) (day_of_month x) ≡ x
date_parts x = omega arith

module _ (y m d : ℕ) (hm : m ≤ 12) (hd : d ≤ 31) where
  pub year_parts : year (date_of_parts y m d) ≡ y
  year_parts = omega arith

  pub month_parts : month (date_of_parts y m d) ≡ m
  month_parts = omega arith

  pub day_parts : day_of_month (date_of_parts y m d) ≡ d
  day_parts = omega arith

-- ---- is_date

-- the parts of a date, by their limits
pub record Valid (y m d : ℕ) : Type 0 where
  pub from : first_year ≤ y
  pub to : y ≤ last_year
  pub january : 1 ≤ m
  pub december : m ≤ 12
  pub first : 1 ≤ d
  pub last : d ≤ month_length (leap_day y) m

pub date_valid : (x : ℕ) → is_date x ≡ true → Valid (year x) (month x) (day_of_month x)
unfolding is_date
date_valid x e =
    let p5 = and_halves _ e in
    let p4 = and_halves _ p5.0 in
    let p3 = and_halves _ p4.0 in
    let p2 = and_halves _ p3.0 in
    let p1 = and_halves (leb first_year (year x)) p2.0 in
    record {
      from = leb-true _ _ p1.0;
      to = leb-true _ _ p1.1;
      january = leb-true _ _ p2.1;
      december = leb-true _ _ p3.1;
      first = leb-true _ _ p4.1;
      last = leb-true _ _ p5.1;
    }

valid_is : (x : ℕ) → Valid (year x) (month x) (day_of_month x) → is_date x ≡ true
unfolding is_date
valid_is x v =
    simp (
      le-leb _ _ v.from,
      le-leb _ _ v.to,
      le-leb _ _ v.january,
      le-leb _ _ v.december,
      le-leb _ _ v.first,
      le-leb _ _ v.last,
    )

pub valid_day_le : {y m d : ℕ} → Valid y m d → d ≤ 31
valid_day_le {y} {m} {d} v = omega (arith, month_length_le (leap_day y) m (leap_day_le y))

pub valid_date : (y m d : ℕ) → Valid y m d → is_date (date_of_parts y m d) ≡ true
valid_date y m d v =
    let h = valid_day_le v in
    valid_is (date_of_parts y m d)
    (rw (year_parts y m d v.december h, month_parts y m d v.december h, day_parts y m d v.december h) v)

-- ---- inRange

pub record InRange (x : ℕ) : Type 0 where
  pub is_date_lem : is_date x ≡ true
  pub from : first_date ≤ x
  pub to : x ≤ last_date

pub range_facts : (x : ℕ) → in_range x ≡ true → InRange x
unfolding in_range
range_facts x e =
    let p = and_halves (is_date x && leb first_date x) e in
    let q = and_halves (is_date x) p.0 in
    record { is_date_lem = q.0; from = leb-true _ _ q.1; to = leb-true _ _ p.1 }

pub in_range_lem : (x : ℕ) → InRange x → in_range x ≡ true
unfolding in_range
in_range_lem x r = simp (r.is_date_lem, le-leb _ _ r.from, le-leb _ _ r.to)
