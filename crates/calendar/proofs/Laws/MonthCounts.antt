-- Laws of specs/Periods: months, one after the other. To cite: `months_after_lem` (there is a date, and how far it lies), `months_after_is_date`,
-- `months_after_mono`. Assumes nothing.
use Rattle.std.proofs.Common.{Some}
use mathlib.Core.Path.{◌≡◌, refl, ap, ◌∙◌}
use mathlib.Core.Bool.{true}
use mathlib.Core.Logic.{⊎_elim}
use Prim.Native.Nat.{ℕ, zero, suc, ◌+◌, ◌-◌, ◌*◌, ◌/◌, ◌%◌, min, ◌≤◌, ◌<◌}
use native.Mathlib.Nat.{eq-or-lt_of_le}
use native.Mathlib.Omega.{arith}
use Rattle.calendar.specs.Gregorian.{year, month, day_of_month, date_of_parts, leap_day, month_length, is_date, first_year, last_year}
use Rattle.calendar.specs.DayNumber.{days_before, year_start, day_number}
use Rattle.calendar.specs.Periods.{month_count, day_of_month_count, months_after}
use Rattle.calendar.specs.declared.Months.{Months}
use Rattle.calendar.proofs.Laws.Gregorian.{Valid, date_valid, valid_date, leap_day_le, month_length_le, month_length_ge, date_parts}
use Rattle.calendar.proofs.Laws.Months.{month_next, month_last, month_first}
use Rattle.calendar.proofs.Laws.Years.{year_start_next}
use Rattle.calendar.proofs.Laws.DayNumber.{number, day_number_parts, day_number_of_parts, day_number_reflects_le}
use Rattle.calendar.proofs.Laws.Answers.{DateAfter}
use Rattle.calendar.proofs.Laws.Periods.{months_after_is, months_after_date}

-- ---- the first day of a month

-- the length of the month that a count of months leads to, and the number of its first day
length_of : ℕ → ℕ
length_of t = month_length (leap_day (t / 12)) (t % 12 + 1)

start_of : ℕ → ℕ
start_of t = year_start (t / 12 - first_year) + days_before (leap_day (t / 12)) (t % 12 + 1)

length_bounds : (t : ℕ) → (28 ≤ length_of t) × (length_of t ≤ 31)
unfolding length_of
length_bounds t = (month_length_ge _ _, month_length_le _ _ (leap_day_le _))

-- the next month starts where this one ends: within a year, and over the year's end
module _ (t : ℕ) (from : first_year * 12 ≤ t) (to : t < (last_year + 1) * 12) where
  start_within : t % 12 < 11 → start_of (t + 1) ≡ start_of t + length_of t
  unfolding start_of length_of
  start_within h =
      let y : (t + 1) / 12 ≡ t / 12 = omega arith in
      let m : (t + 1) % 12 ≡ t % 12 + 1 = omega arith in
      rw (y, m) (omega (arith, month_next (leap_day (t / 12)) (t % 12) (leap_day_le (t / 12)) h))

  start_over : t % 12 ≡ 11 → start_of (t + 1) ≡ start_of t + length_of t
  unfolding start_of length_of
  start_over h =
      let y : (t + 1) / 12 ≡ t / 12 + 1 = omega arith in
      let m : (t + 1) % 12 ≡ 0 = omega arith in
      let k : t / 12 + 1 - first_year ≡ t / 12 - first_year + 1 = omega arith in
      let e : first_year + (t / 12 - first_year) ≡ t / 12 = omega arith in
      let n = rw e at (year_start_next (t / 12 - first_year) (omega arith)) in
      let l = month_last (leap_day (t / 12)) (leap_day_le (t / 12)) in
      let f = month_first (leap_day (t / 12 + 1)) in
      rw (y, m, k, h) (omega (arith, n, l, f))

  start_next : start_of (t + 1) ≡ start_of t + length_of t
  start_next = ⊎_elim start_over start_within (eq-or-lt_of_le (omega arith))

-- n months take at most 31 days each
start_near : (n t : ℕ) → first_year * 12 ≤ t → t + n < (last_year + 1) * 12 → start_of (t + n) ≤ start_of t + 31 * n
start_near zero t h l = let e : t + 0 ≡ t = omega arith in omega (arith, ap start_of e)
start_near (suc n) t h l =
    let i = start_near n t h (omega arith) in
    let e : t + suc n ≡ t + n + 1 = omega arith in
    omega (arith, ap start_of e, start_next (t + n) (omega arith) (omega arith), length_bounds (t + n))

-- a later month starts after every day of an earlier one
start_later : (n t : ℕ) → first_year * 12 ≤ t → t + suc n < (last_year + 1) * 12 → start_of t + length_of t ≤ start_of (t + suc n)
start_later zero t h l = let e : t + 1 ≡ t + 1 = refl in omega (arith, start_next t (omega arith) (omega arith))
start_later (suc n) t h l =
    let i = start_later n t h (omega arith) in
    let e : t + suc (suc n) ≡ t + suc n + 1 = omega arith in
    omega (arith, ap start_of e, start_next (t + suc n) (omega arith) (omega arith), length_bounds (t + suc n))

-- ---- day_of_month_count

module _ (t d : ℕ) (from : first_year * 12 ≤ t) (to : t < (last_year + 1) * 12) (first : 1 ≤ d) where
  count_valid : Valid (t / 12) (t % 12 + 1) (min d (length_of t))
  unfolding length_of
  count_valid =
      let b = month_length_ge (leap_day (t / 12)) (t % 12 + 1) in
      record {
        from = omega arith;
        to = omega arith;
        january = omega arith;
        december = omega arith;
        first = omega arith;
        last = omega arith;
      }

  pub count_date : is_date (day_of_month_count t d) ≡ true
  unfolding day_of_month_count length_of
  count_date = valid_date (t / 12) (t % 12 + 1) (min d (length_of t)) count_valid

  count_number : day_number (day_of_month_count t d) ≡ start_of t + (min d (length_of t) - 1)
  unfolding day_of_month_count length_of start_of number
  count_number = day_number_of_parts (t / 12) (t % 12 + 1) (min d (length_of t)) count_valid

-- a date is the day of its own month
module _ (x : ℕ) (h : is_date x ≡ true) where
  month_of_date : first_year * 12 ≤ month_count 0 x × month_count 0 x < (last_year + 1) * 12
  unfolding month_count
  month_of_date = let v = date_valid x h in (omega arith, omega arith)

  own_length : day_of_month x ≤ length_of (month_count 0 x)
  unfolding length_of month_count
  own_length =
      let v = date_valid x h in
      let y : (year x * 12 + (month x - 1) + 0) / 12 ≡ year x = omega arith in
      let m : (year x * 12 + (month x - 1) + 0) % 12 + 1 ≡ month x = omega arith in
      rw (y, m) v.last

  own_number : day_number x ≡ start_of (month_count 0 x) + (day_of_month x - 1)
  unfolding start_of month_count number
  own_number =
      let v = date_valid x h in
      let y : (year x * 12 + (month x - 1) + 0) / 12 ≡ year x = omega arith in
      let m : (year x * 12 + (month x - 1) + 0) % 12 + 1 ≡ month x = omega arith in
      day_number_parts x ∙ rw (y, m)

count_split : (n x : ℕ) → month_count n x ≡ month_count 0 x + n
unfolding month_count
count_split n x = omega arith

-- ---- months_after

later_day : (n x : ℕ) → is_date x ≡ true → month_count n x < (last_year + 1) * 12 → day_number x ≤ day_number (day_of_month_count (month_count n x) (day_of_month x))
later_day zero x h l =
    let v = date_valid x h in
    let r = month_of_date x h in
    omega (arith, own_number x h, own_length x h, count_number (month_count 0 x) (day_of_month x) r.0 l v.first)
later_day (suc n) x h l =
    let v = date_valid x h in
    let r = month_of_date x h in
    let e = count_split (suc n) x in
    let s = start_later n (month_count 0 x) r.0 (omega arith) in
    omega (
      arith,
      ap start_of e,
      own_number x h,
      own_length x h,
      count_number (month_count (suc n) x) (day_of_month x) (omega arith) l v.first,
    )

-- not before the date, and at most 31 days a month later
pub months_after_lem : (n : Months) (x : ℕ) → is_date x ≡ true → month_count n.0 x < (last_year + 1) * 12 → DateAfter x (months_after n x) (31 * n.0)
months_after_lem n x h l =
    let v = date_valid x h in
    let r = month_of_date x h in
    let e = count_split n.0 x in
    let d = count_date (month_count n.0 x) (day_of_month x) (omega arith) l v.first in
    record {
      date = day_of_month_count (month_count n.0 x) (day_of_month x);
      is = months_after_is n x h l;
      is_date_lem = d;
      from = day_number_reflects_le x _ h d (later_day n.0 x h l);
      near =
          omega (
            arith,
            ap start_of e,
            own_number x h,
            start_near n.0 (month_count 0 x) r.0 (omega arith),
            count_number (month_count n.0 x) (day_of_month x) (omega arith) l v.first,
          );
    }

pub months_after_is_date : (n : Months) (x r : ℕ) → months_after n x ≡ Some r → is_date r ≡ true
months_after_is_date n x r e =
    let p = months_after_date n x r e in
    let a = months_after_lem n x p.is_date_lem p.inside in
    let q : a.date ≡ r = cc in
    rw q at a.is_date_lem

-- ---- months_after keeps the order

same_month : (y m y' m' : ℕ) → 1 ≤ m → m ≤ 12 → 1 ≤ m' → m' ≤ 12 → y * 12 + (m - 1) + 0 ≡ y' * 12 + (m' - 1) + 0 → (y ≡ y') × (m ≡ m')
same_month y m y' m' a b c d e = (omega arith, omega arith)

same_day : (y m d d' : ℕ) → date_of_parts y m d ≤ date_of_parts y m d' → d ≤ d'
same_day y m d d' h = omega arith

module _ (x y : ℕ) (v : is_date x ≡ true) (w : is_date y ≡ true) (l : x ≤ y) where
  count_order : month_count 0 x ≤ month_count 0 y
  unfolding month_count
  count_order =
      let p = date_valid x v in
      let q = date_valid y w in
      omega arith

  day_order : month_count 0 x ≡ month_count 0 y → day_of_month x ≤ day_of_month y
  unfolding month_count
  day_order e =
      let p = date_valid x v in
      let q = date_valid y w in
      let s = same_month (year x) (month x) (year y) (month y) p.january p.december q.january q.december e in
      let h : date_of_parts (year x) (month x) (day_of_month x) ≤ date_of_parts (year y) (month y) (day_of_month y) =
      rw (date_parts x, date_parts y) l
      in
      same_day (year y) (month y) (day_of_month x) (day_of_month y) (rw (s.0, s.1) at h)

  -- in one month the days decide, else the months
  in_order : (n : ℕ) → month_count n y < (last_year + 1) * 12 → day_number (day_of_month_count (month_count n x) (day_of_month x)) ≤ day_number (day_of_month_count (month_count n y) (day_of_month y))
  in_order n h =
      let p = date_valid x v in
      let q = date_valid y w in
      let r = month_of_date x v in
      let o = count_order in
      let e = count_split n x in
      let f = count_split n y in
      let a = count_number (month_count n x) (day_of_month x) (omega arith) (omega arith) p.first in
      let b = count_number (month_count n y) (day_of_month y) (omega arith) h q.first in
      ⊎_elim
      (λ (s : month_count 0 x ≡ month_count 0 y).
      let g : month_count n x ≡ month_count n y = omega arith in
      omega (arith, ap start_of g, ap length_of g, day_order s))
      (λ (s : month_count 0 x < month_count 0 y).
      let k = month_count n y - month_count n x - 1 in
      let g : month_count n x + suc k ≡ month_count n y = omega arith in
      omega (arith, ap start_of g, start_later k (month_count n x) (omega arith) (omega arith)))
      (eq-or-lt_of_le o)

pub months_after_mono : (n : Months) (x y r s : ℕ) → months_after n x ≡ Some r → months_after n y ≡ Some s → x ≤ y → r ≤ s
months_after_mono n x y r s e f l =
    let p = months_after_date n x r e in
    let q = months_after_date n y s f in
    let a = date_valid x p.is_date_lem in
    let b = date_valid y q.is_date_lem in
    let t = month_of_date x p.is_date_lem in
    let u = month_of_date y q.is_date_lem in
    let g = count_split n.0 x in
    let h = count_split n.0 y in
    rw (p.is, q.is)
    (day_number_reflects_le _ _ (count_date _ _ (omega arith) p.inside a.first) (count_date _ _ (omega arith) q.inside b.first)
    (in_order x y p.is_date_lem q.is_date_lem l n.0 q.inside))
