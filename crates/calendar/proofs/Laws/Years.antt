-- The year of a day. To cite: `year_start_next`, `YearOf`, `year_at_of`, `year_unique`, `by_fours`. Assumes nothing.
use mathlib.Core.Path.{◌≡◌, refl, ap, ◌∙◌}
use mathlib.Core.Bool.{Bool, true, cond, ◌&&◌}
use mathlib.Core.Logic.{⊎_elim}
use Prim.Native.Nat.{ℕ, ◌+◌, ◌-◌, ◌*◌, ◌/◌, ◌≤◌, ◌<◌}
use native.Mathlib.Omega.{arith}
use native.Mathlib.Nat.{eq-or-lt_of_le}
use native.Mathlib.Decide.{dec_le}
use lib.Dec.{leb, ltb, eqb}
use borrow.Author.Tests.{leb-true, leb-false, ltb-true, ltb-false, eqb-true}
use Rattle.std.proofs.lemmas.Bool.{agree_below_at, cond_both}
use Rattle.common.proofs.Tests.{and_halves}
use Rattle.calendar.specs.Gregorian.{leap, leap_day, first_year}
use Rattle.calendar.specs.DayNumber.{year_start, year_at, calendar_days}

-- ---- year_start

pub year_start_le : (k : ℕ) → k ≤ 200 → year_start k ≤ calendar_days
unfolding year_start
year_start_le k h = omega arith

next? : ℕ → Bool
next? k = eqb (year_start (k + 1)) (year_start k + 365 + leap_day (first_year + k))

-- each year is as long as the leap rule says
pub year_start_next : (k : ℕ) → k < 200 → year_start (k + 1) ≡ year_start k + 365 + leap_day (first_year + k)
unfolding next? year_start leap_day leap
year_start_next k h = eqb-true _ _ (agree_below_at next? (λ k. true) 200 k refl h)

year_start_end : year_start 200 ≡ calendar_days
unfolding year_start
year_start_end = refl

year_start_lt : (j k : ℕ) → j < k → year_start j ≤ year_start k
unfolding year_start
year_start_lt j k h = omega arith

pub year_start_mono : (j k : ℕ) → j ≤ k → year_start j ≤ year_start k
year_start_mono j k h =
    ⊎_elim (λ (e : j ≡ k). omega (arith, ap year_start e)) (λ (l : j < k). year_start_lt j k l) (eq-or-lt_of_le h)

-- ---- year_at

pub record YearOf (n k : ℕ) : Type 0 where
  pub in_table : k < 200
  pub from : year_start k ≤ n
  pub to : n < year_start (k + 1)

-- a year that starts at or before a day of the calendar is in the table
year_in_table : (n : ℕ) → n < calendar_days → (k : ℕ) → k ≤ 200 → year_start k ≤ n → k < 200
year_in_table n h k l f =
    ⊎_elim (λ (e : k ≡ 200). omega (arith, ap year_start e, year_start_end)) (λ (m : k < 200). m) (eq-or-lt_of_le l)

-- q = n / 366 is the year's number or one less
near? : ℕ → Bool
near? q = leb (year_start q) (366 * q) && leb (366 * (q + 1)) (year_start (q + 1 + 1))

near : (q : ℕ) → q < 200 → (year_start q ≤ 366 * q) × (366 * (q + 1) ≤ year_start (q + 1 + 1))
unfolding near? year_start
near q h =
    let p = and_halves (leb (year_start q) (366 * q)) (agree_below_at near? (λ q. true) 200 q refl h) in
    (leb-true _ _ p.0, leb-true _ _ p.1)

pub year_at_of : (n : ℕ) → n < calendar_days → YearOf n (year_at n)
unfolding year_at
year_at_of n h =
    let g = near (n / 366) (omega arith) in
    cond_both (leb (year_start (n / 366 + 1)) n) (n / 366 + 1) (n / 366) (YearOf n)
    (λ e.
    let f = leb-true (year_start (n / 366 + 1)) n e in
    record { in_table = year_in_table n h (n / 366 + 1) (omega arith) f; from = f; to = omega arith })
    (λ e. record { in_table = omega arith; from = omega arith; to = leb-false (year_start (n / 366 + 1)) n e })

not_earlier : (n j k : ℕ) → YearOf n j → YearOf n k → j < k → ⊥
not_earlier n j k a b h = omega (arith, year_start_mono (j + 1) k (omega arith))

pub year_unique : (n j k : ℕ) → YearOf n j → YearOf n k → j ≡ k
year_unique n j k a b = omega (arith, not_earlier n j k a b, not_earlier n k j b a)

-- ---- the year by fours: counted as if 2100 had a leap day too, every fourth year has one

start_by_fours : (k : ℕ) → k ≤ 100 → year_start k ≡ (1461 * k + 3) / 4
unfolding year_start
start_by_fours k h =
    eqb-true _ _ (agree_below_at (λ j. eqb (year_start j) ((1461 * j + 3) / 4)) (λ j. true) 101 k refl (omega arith))

-- j counts from 2101
from_101 : (j : ℕ) → j < 100 → year_start (101 + j) + 1 ≡ (1461 * (101 + j) + 3) / 4
unfolding year_start
from_101 j h =
    eqb-true _ _ (agree_below_at (λ i. eqb (year_start (101 + i) + 1) ((1461 * (101 + i) + 3) / 4)) (λ i. true) 100 j refl h)

later_by_fours : (k : ℕ) → 100 < k → k ≤ 200 → year_start k + 1 ≡ (1461 * k + 3) / 4
later_by_fours k h l =
    let e : 101 + (k - 101) ≡ k = omega arith in
    rw e at (from_101 (k - 101) (omega arith))

-- the year k of the day n, and the days before it
pub record ByFours (n m k : ℕ) : Type 0 where
  pub year : k ≡ year_at n
  pub day : m - (1461 * k + 3) / 4 ≡ n - year_start (year_at n)

by_year : (n m k : ℕ) → n < calendar_days → YearOf n k → m - (1461 * k + 3) / 4 ≡ n - year_start k → ByFours n m k
by_year n m k h o e =
    let y = year_unique n k (year_at n) o (year_at_of n h) in
    record { year = y; day = e ∙ ap (λ (j : ℕ). n - year_start j) y }

to_2100 : (n : ℕ) → n < 36890 → ByFours n n (4 * n / 1461)
to_2100 n h =
    let k = 4 * n / 1461 in
    let a = start_by_fours k (omega arith) in
    let next : n < year_start (k + 1) =
    elim (dec_le k 99) [
      | yes l ↦ omega (arith, start_by_fours (k + 1) (omega arith))
      | no l ↦ omega (arith, later_by_fours (k + 1) (omega arith) (omega arith))
    ]
    in
    by_year n n k (omega arith) (record { in_table = omega arith; from = omega arith; to = next }) (omega arith)

from_2101 : (n : ℕ) → 36890 ≤ n → n < calendar_days → ByFours n (n + 1) (4 * (n + 1) / 1461)
from_2101 n h l =
    let k = 4 * (n + 1) / 1461 in
    let a = later_by_fours k (omega arith) (omega arith) in
    let b = later_by_fours (k + 1) (omega arith) (omega arith) in
    by_year n (n + 1) k l (record { in_table = omega arith; from = omega arith; to = omega arith }) (omega arith)

pub by_fours : (n m : ℕ) → n < calendar_days → m ≡ cond (ltb n 36890) n (n + 1) → ByFours n m (4 * m / 1461)
by_fours n m h e =
    rw e
    (cond_both (ltb n 36890) n (n + 1) (λ m. ByFours n m (4 * m / 1461))
    (λ t. to_2100 n (ltb-true n 36890 t)) (λ f. from_2101 n (ltb-false n 36890 f) h))
