-- A business day by its place in the year: what src/target.rt tests.
-- To cite: `near_sunday`, `weekend_shut`, `fixed_shut`, `far_open`, `near_open`. Assumes nothing.
use mathlib.Core.Path.{◌≡◌, sym, ap, ◌∙◌}
use mathlib.Core.Bool.{Bool, true, false, not, ◌&&◌}
use mathlib.Core.List.{List, [], ◌∷◌}
use mathlib.Core.Logic.{◌⊎◌, ⊎_elim}
use Prim.Native.Nat.{ℕ, ◌+◌, ◌-◌, ◌*◌, ◌≤◌, ◌<◌}
use native.Mathlib.Nat.{eq-or-lt_of_le}
use native.Mathlib.Omega.{arith}
use lib.Dec.{eqb, lit≤}
use lib.ListN.{get_or}
use borrow.Author.Tests.{eqb-true, eq-eqb, ne_eqb}
use Rattle.std.proofs.lemmas.Bool.Decides.{nat_tests}
use Rattle.common.proofs.Tests.{either, true_unless, false_unless, any_of_at, any_of_cases}
use Rattle.common.specs.Tests.{any_of}
use Rattle.calendar.specs.Gregorian.{month_day, leap_day, month_length, first_year}
use Rattle.calendar.specs.DayNumber.{calendar_days, days_before, year_start, day_number, year_at, date_at}
use Rattle.calendar.specs.Easter.{easter_sunday}
use Rattle.calendar.specs.Target.{weekday, closed_by, is_open}
use Rattle.calendar.proofs.Laws.Gregorian.{Valid, valid_day_le}
use Rattle.calendar.proofs.Laws.Years.{year_at_of}
use Rattle.calendar.proofs.Laws.DayNumber.{on_date}
use Rattle.calendar.proofs.Laws.Easter.{easter_facts}
use Rattle.calendar.proofs.Laws.Target.{open_tests}
use Rattle.calendar.proofs.Laws.Holidays.{on_day}

-- ---- the tests, by the day of the year

abbrev pub leap_in : ℕ → ℕ
leap_in n = leap_day (first_year + year_at n)

-- the day of the year, from 0
abbrev pub day_in : ℕ → ℕ
day_in n = n - year_start (year_at n)

-- the one that is Easter Sunday
abbrev pub sunday_in : ℕ → ℕ
sunday_in n = day_number (easter_sunday (first_year + year_at n)) - year_start (year_at n)

-- the four closing days that have a date, by the day r of a year with l leap days
abbrev pub fixed : ℕ → ℕ → List Bool
fixed l r = eqb r 0 ∷ eqb r (120 + l) ∷ eqb r (358 + l) ∷ eqb r (359 + l) ∷ []

-- the eight tests of `closed_by`
abbrev tests : ℕ → List Bool
tests n =
    eqb (weekday n) 5
    ∷ eqb (weekday n) 6
    ∷ eqb (day_in n) 0
    ∷ eqb (day_in n + 2) (sunday_in n)
    ∷ eqb (day_in n) (sunday_in n + 1)
    ∷ eqb (day_in n) (120 + leap_in n)
    ∷ eqb (day_in n) (358 + leap_in n)
    ∷ eqb (day_in n) (359 + leap_in n)
    ∷ []

same_test : (a b c d : ℕ) → (a ≡ b → c ≡ d) → (c ≡ d → a ≡ b) → eqb a b ≡ eqb c d
same_test a b c d f g = grind (arith, nat_tests)

module _ (n : ℕ) (h : n < calendar_days) where
  -- Easter Sunday is no earlier than 22 March and no later than 25 April
  pub near_sunday : (80 ≤ sunday_in n) × (sunday_in n ≤ 115)
  near_sunday =
      let y = year_at_of n h in
      let s : first_year + year_at n - first_year ≡ year_at n = omega arith in
      let e = easter_facts (first_year + year_at n) (omega arith) (omega (arith, y.in_table)) in
      (omega (arith, rw s at e.from), omega (arith, rw s at e.to))

  -- the date of a day of the year
  date_on : (m d : ℕ) → Valid (first_year + year_at n) m d → day_in n ≡ days_before (leap_in n) m + (d - 1) → month_day (date_at n) ≡ m * 100 + d
  date_on m d v e =
      let b = valid_day_le v in
      let c = v.december in
      let q : n ≡ year_start (year_at n) + days_before (leap_in n) m + (d - 1) = omega (arith, (year_at_of n h).from) in
      ap (λ (x : ℕ). month_day (date_at x)) q ∙ ap month_day (on_date (year_at n) m d v) ∙ omega arith

  -- the test for the date is the test for the day r of the year
  date_test : (m d r : ℕ)
      → 1 ≤ m
      → m ≤ 12
      → 1 ≤ d
      → d ≤ month_length (leap_in n) m
      → days_before (leap_in n) m + (d - 1) ≡ r
      → eqb (month_day (date_at n)) (m * 100 + d) ≡ eqb (day_in n) r
  date_test m d r a b c e i =
      let y = year_at_of n h in
      let v : Valid (first_year + year_at n) m d =
      record { from = omega arith; to = omega (arith, y.in_table); january = a; december = b; first = c; last = e }
      in
      same_test (month_day (date_at n)) (m * 100 + d) (day_in n) r (λ p. omega (arith, on_day n h m d (valid_day_le v) p))
      (λ p. date_on m d v (p ∙ sym i))

  open_in : is_open n ≡ not (any_of (tests n))
  unfolding closed_by days_before month_length
  open_in =
      let y = (year_at_of n h).from in
      let s = near_sunday in
      let e = day_number (easter_sunday (first_year + year_at n)) in
      let l = leap_in n in
      open_tests n h
      ∙ rw (
        date_test 1 1 0 (lit≤ tt) (lit≤ tt) (lit≤ tt) (lit≤ tt) (omega arith),
        same_test (n + 2) e (day_in n + 2) (sunday_in n) (λ i. omega arith) (λ i. omega arith),
        same_test n (e + 1) (day_in n) (sunday_in n + 1) (λ i. omega arith) (λ i. omega arith),
        date_test 5 1 (120 + l) (lit≤ tt) (lit≤ tt) (lit≤ tt) (lit≤ tt) (omega arith),
        date_test 12 25 (358 + l) (lit≤ tt) (lit≤ tt) (lit≤ tt) (lit≤ tt) (omega arith),
        date_test 12 26 (359 + l) (lit≤ tt) (lit≤ tt) (lit≤ tt) (lit≤ tt) (omega arith),
      )

  -- ---- closed days

  shut_by : (i : ℕ) → get_or (tests n) i false ≡ true → is_open n ≡ false
  shut_by i e = open_in ∙ ap not (true_unless (any_of (tests n)) (λ f. cc (any_of_at (tests n) i f)))

  pub weekend_shut : 5 ≤ weekday n → is_open n ≡ false
  weekend_shut w =
      ⊎_elim (λ (e : 5 ≡ weekday n). shut_by 0 (eq-eqb (weekday n) 5 (sym e)))
      (λ (m : 5 < weekday n). shut_by 1 (eq-eqb (weekday n) 6 (omega arith)))
      (eq-or-lt_of_le w)

  pub fixed_shut : any_of (fixed (leap_in n) (day_in n)) ≡ true → is_open n ≡ false
  fixed_shut = any_of_cases (is_open n ≡ false) (fixed (leap_in n) (day_in n)) (shut_by 2, (shut_by 5, (shut_by 6, (shut_by 7, tt))))

  -- ---- a weekday with no fixed closing day

  module _ (w : weekday n < 5) (f : any_of (fixed (leap_in n) (day_in n)) ≡ false) where
    open_by : eqb (day_in n + 2) (sunday_in n) ≡ false → eqb (day_in n) (sunday_in n + 1) ≡ false → is_open n ≡ true
    open_by friday monday =
        let no : (i : ℕ) → get_or (fixed (leap_in n) (day_in n)) i false ≡ false = λ i. any_of_at (fixed (leap_in n) (day_in n)) i f in
        open_in
        ∙ ap not
        (false_unless (any_of (tests n))
        (any_of_cases ⊥ (tests n) (
          λ p. omega (arith, eqb-true (weekday n) 5 p),
          (
            λ p. omega (arith, eqb-true (weekday n) 6 p),
            (
              λ p. cc (no 0),
              (λ p. cc, (λ p. cc, (λ p. cc (no 1), (λ p. cc (no 2), (λ p. cc (no 3), tt))))),
            ),
          ),
        )))

    -- far from Easter
    pub far_open : (day_in n < 78) ⊎ (116 < day_in n) → is_open n ≡ true
    far_open far =
        let s = near_sunday in
        ⊎_elim
        (λ (q : day_in n < 78). open_by (ne_eqb (day_in n + 2) (sunday_in n) (λ i. omega arith)) (ne_eqb (day_in n) (sunday_in n + 1) (λ i. omega arith)))
        (λ (q : 116 < day_in n). open_by (ne_eqb (day_in n + 2) (sunday_in n) (λ i. omega arith)) (ne_eqb (day_in n) (sunday_in n + 1) (λ i. omega arith)))
        far

    -- near it
    pub near_open : not (eqb (day_in n + 2) (sunday_in n)) && not (eqb (day_in n) (sunday_in n + 1)) ≡ is_open n
    near_open =
        either (eqb (day_in n + 2) (sunday_in n)) (λ p. rw p (sym (shut_by 3 p)))
        (λ p.
        either (eqb (day_in n) (sunday_in n + 1)) (λ q. rw (p, q) (sym (shut_by 4 q)))
        (λ q. rw (p, q) (sym (open_by p q))))
