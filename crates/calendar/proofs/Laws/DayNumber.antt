-- Laws of specs/DayNumber: from a date to its day number and back.
-- To cite: `day_number_lt`, `date_at_date`, `on_date`, `date_at_day_number`, `day_number_date_at` (inverse), `day_number_mono`,
-- `day_number_reflects`, `date_at_mono` (order). Assumes nothing.
use mathlib.Core.Path.{◌≡◌, refl, sym, ap, ◌∙◌}
use mathlib.Core.Bool.{true}
use mathlib.Core.Logic.{⊎_elim}
use Prim.Native.Nat.{ℕ, ◌+◌, ◌-◌, ◌≤◌, ◌<◌}
use native.Mathlib.Nat.{eq-or-lt_of_le}
use native.Mathlib.Decide.{dec_le}
use native.Mathlib.Omega.{arith}
use Rattle.calendar.specs.Gregorian.{year, month, day_of_month, date_of_parts, leap_day, is_date, first_year, last_year}
use Rattle.calendar.specs.DayNumber.{days_before, year_start, calendar_days, day_number, year_at, month_at, date_in, date_at}
use Rattle.calendar.proofs.Laws.Gregorian.{Valid, date_valid, valid_date, valid_day_le, leap_day_le, date_parts, year_parts, month_parts, day_parts}
use Rattle.calendar.proofs.Laws.Months.{MonthOf, month_at_of, month_unique, month_end, months_apart}
use Rattle.calendar.proofs.Laws.Years.{YearOf, year_start_le, year_start_next, year_start_mono, year_at_of, year_unique}

-- ---- the day number of a date's parts

unfoldable pub number : ℕ → ℕ → ℕ → ℕ
number y m d = year_start (y - first_year) + days_before (leap_day y) m + (d - 1)

pub day_number_parts : (x : ℕ) → day_number x ≡ number (year x) (month x) (day_of_month x)
unfolding day_number number
day_number_parts x = refl

pub day_number_of_parts : (y m d : ℕ) → Valid y m d → day_number (date_of_parts y m d) ≡ number y m d
day_number_of_parts y m d v =
    let h = valid_day_le v in
    day_number_parts (date_of_parts y m d)
    ∙ rw (year_parts y m d v.december h, month_parts y m d v.december h, day_parts y m d v.december h)

-- the day lies in its year
within_year : (y m d : ℕ) → Valid y m d → days_before (leap_day y) m + d ≤ 365 + leap_day y
within_year y m d v = omega (arith, month_end (leap_day y) m (leap_day_le y) v.january v.december)

next_year : (y : ℕ) → first_year ≤ y → y ≤ last_year → year_start (y - first_year + 1) ≡ year_start (y - first_year) + 365 + leap_day y
next_year y h1 h2 =
    let e : first_year + (y - first_year) ≡ y = omega arith in
    rw e at (year_start_next (y - first_year) (omega arith))

number_year : (y m d : ℕ) → Valid y m d → YearOf (number y m d) (y - first_year)
unfolding number
number_year y m d v =
    let b = within_year y m d v in
    let n = next_year y v.from v.to in
    record { in_table = omega arith; from = omega arith; to = omega arith }

number_lt : (y m d : ℕ) → Valid y m d → number y m d < calendar_days
number_lt y m d v =
    let o = number_year y m d v in
    omega (arith, year_start_le (y - first_year + 1) (omega arith))

pub day_number_lt : (x : ℕ) → is_date x ≡ true → day_number x < calendar_days
day_number_lt x e = rw (day_number_parts x) (number_lt (year x) (month x) (day_of_month x) (date_valid x e))

-- ---- from a date to its day and back

number_rest : (y m d : ℕ) → number y m d - year_start (y - first_year) ≡ days_before (leap_day y) m + (d - 1)
unfolding number
number_rest y m d = omega arith

date_at_number : (y m d : ℕ) → Valid y m d → date_at (number y m d) ≡ date_of_parts y m d
unfolding date_at date_in
date_at_number y m d v =
    let n = number y m d in
    let k = year_unique n (year_at n) (y - first_year) (year_at_of n (number_lt y m d v)) (number_year y m d v) in
    let e : first_year + (y - first_year) ≡ y = omega arith in
    let o : MonthOf (leap_day y) (days_before (leap_day y) m + (d - 1)) m =
    record { january = v.january; december = v.december; from = omega arith; to = omega arith }
    in
    rw (k, e, number_rest y m d, month_unique (leap_day y) (leap_day_le y) _ m o) (omega arith)

-- the same, by the year's number
pub on_date : (k m d : ℕ) → Valid (first_year + k) m d → date_at (year_start k + days_before (leap_day (first_year + k)) m + (d - 1)) ≡ date_of_parts (first_year + k) m d
unfolding number
on_date k m d v =
    let e : first_year + k - first_year ≡ k = omega arith in
    rw e at (date_at_number (first_year + k) m d v)

pub date_at_day_number : (x : ℕ) → is_date x ≡ true → date_at (day_number x) ≡ x
date_at_day_number x e =
    ap date_at (day_number_parts x) ∙ date_at_number (year x) (month x) (day_of_month x) (date_valid x e) ∙ date_parts x

-- ---- from a day to its date and back

-- the day r of the year y has a date of that year
in_year : (y r m : ℕ) → first_year ≤ y → y ≤ last_year → MonthOf (leap_day y) r m → Valid y m (r - days_before (leap_day y) m + 1)
in_year y r m h1 h2 o =
    record {
      from = h1;
      to = h2;
      january = o.january;
      december = o.december;
      first = omega arith;
      last = omega arith;
    }

-- the parts of the date of the day n, its month m and its day d of the month
pub record PartsOf (n m d : ℕ) : Type 0 where
  pub valid : Valid (first_year + year_at n) m d
  pub date : date_at n ≡ date_of_parts (first_year + year_at n) m d
  pub is : n ≡ year_start (year_at n) + days_before (leap_day (first_year + year_at n)) m + (d - 1)

pub month_of_day : ℕ → ℕ
month_of_day n = month_at (leap_day (first_year + year_at n)) (n - year_start (year_at n))

pub day_of_day : ℕ → ℕ
day_of_day n = n - year_start (year_at n) - days_before (leap_day (first_year + year_at n)) (month_of_day n) + 1

module _ (n : ℕ) (h : n < calendar_days) where
  pub rest_lt : n - year_start (year_at n) < 365 + leap_day (first_year + year_at n)
  rest_lt = let o = year_at_of n h in omega (arith, year_start_next (year_at n) o.in_table)

  month_of_day_lem : MonthOf (leap_day (first_year + year_at n)) (n - year_start (year_at n)) (month_of_day n)
  unfolding month_of_day
  month_of_day_lem = month_at_of (leap_day (first_year + year_at n)) (leap_day_le (first_year + year_at n)) (n - year_start (year_at n)) rest_lt

  pub parts_of : PartsOf n (month_of_day n) (day_of_day n)
  unfolding date_at date_in month_of_day day_of_day
  parts_of =
      let o = year_at_of n h in
      let m = month_of_day_lem in
      record {
        valid = in_year (first_year + year_at n) (n - year_start (year_at n)) (month_of_day n) (omega arith) (omega arith) m;
        date = refl;
        is = omega arith;
      }

  pub date_at_date : is_date (date_at n) ≡ true
  date_at_date = let p = parts_of in rw p.date (valid_date _ _ _ p.valid)

  pub day_number_date_at : day_number (date_at n) ≡ n
  unfolding number
  day_number_date_at =
      let p = parts_of in
      let e : first_year + year_at n - first_year ≡ year_at n = omega arith in
      ap day_number p.date ∙ day_number_of_parts _ _ _ p.valid ∙ rw e (sym p.is)

  pub year_date_at : year (date_at n) ≡ first_year + year_at n
  year_date_at = let p = parts_of in rw p.date (year_parts _ _ _ p.valid.december (valid_day_le p.valid))

-- ---- dates are in the order of their days

year_order : (y m d y' m' d' : ℕ) → Valid y m d → Valid y' m' d' → y < y' → number y m d < number y' m' d'
unfolding number
year_order y m d y' m' d' v w l =
    omega (
      arith,
      within_year y m d v,
      next_year y v.from v.to,
      year_start_mono (y - first_year + 1) (y' - first_year) (omega arith),
    )

month_order : (y m d m' d' : ℕ) → Valid y m d → Valid y m' d' → m < m' → number y m d < number y m' d'
unfolding number
month_order y m d m' d' v w l = omega (arith, months_apart (leap_day y) m m' (leap_day_le y) v.january l w.december)

day_order : (y m d d' : ℕ) → 1 ≤ d → d < d' → number y m d < number y m d'
unfolding number
day_order y m d d' a b = omega arith

number_order : (y m d y' m' d' : ℕ) → Valid y m d → Valid y' m' d' → date_of_parts y m d < date_of_parts y' m' d' → number y m d < number y' m' d'
number_order y m d y' m' d' v w l =
    let b = valid_day_le v in
    let b' = valid_day_le w in
    elim (dec_le y' y) [
      | no h ↦ year_order y m d y' m' d' v w (omega arith)
      | yes h ↦
          let e : y' ≡ y = omega arith in
          elim (dec_le m' m) [
            | no i ↦ rw e (month_order y m d m' d' v (rw e at w) (omega arith))
            | yes i ↦ let f : m' ≡ m = omega arith in rw (e, f) (day_order y m d d' v.first (omega arith))
          ]
    ]

pub day_number_mono : (x y : ℕ) → is_date x ≡ true → is_date y ≡ true → x < y → day_number x < day_number y
day_number_mono x y v w l =
    rw (day_number_parts x, day_number_parts y)
    (number_order (year x) (month x) (day_of_month x) (year y) (month y) (day_of_month y) (date_valid x v) (date_valid y w)
    (rw (date_parts x, date_parts y) l))

pub day_number_mono_le : (x y : ℕ) → is_date x ≡ true → is_date y ≡ true → x ≤ y → day_number x ≤ day_number y
day_number_mono_le x y v w l =
    ⊎_elim (λ (e : x ≡ y). omega (arith, ap day_number e)) (λ (k : x < y). omega (arith, day_number_mono x y v w k)) (eq-or-lt_of_le l)

pub day_number_reflects : (x y : ℕ) → is_date x ≡ true → is_date y ≡ true → day_number x < day_number y → x < y
day_number_reflects x y v w l =
    elim (dec_le y x) [ no h ↦ omega arith | yes h ↦ absurd (omega (arith, day_number_mono_le y x w v h)) ]

pub day_number_reflects_le : (x y : ℕ) → is_date x ≡ true → is_date y ≡ true → day_number x ≤ day_number y → x ≤ y
day_number_reflects_le x y v w l =
    elim (dec_le x y) [ yes h ↦ h | no h ↦ absurd (omega (arith, day_number_mono y x w v (omega arith))) ]

pub date_at_mono : (n m : ℕ) → n < m → m < calendar_days → date_at n < date_at m
date_at_mono n m l h =
    let h' : n < calendar_days = omega arith in
    day_number_reflects (date_at n) (date_at m) (date_at_date n h') (date_at_date m h)
    (rw (day_number_date_at n h', day_number_date_at m h) l)

pub date_at_mono_le : (n m : ℕ) → n ≤ m → m < calendar_days → date_at n ≤ date_at m
date_at_mono_le n m l h =
    ⊎_elim (λ (e : n ≡ m). omega (arith, ap date_at e)) (λ (k : n < m). omega (arith, date_at_mono n m k h)) (eq-or-lt_of_le l)
