-- Of any five days in a row one is a business day. The closing days of all years stand in one rising sequence, three of
-- which are never within five days; the weekend is two days of seven. To cite: `on_day`, `first_near`. Assumes nothing.
use mathlib.Core.Path.{◌≡◌, refl, ap}
use mathlib.Core.Bool.{Bool, true, false, ◌&&◌}
use mathlib.Core.Logic.{◌⊎◌, inl, inr, ⊎_elim}
use mathlib.Core.List.{List, [], ◌∷◌}
use Prim.Native.Nat.{ℕ, ◌+◌, ◌-◌, ◌*◌, ◌/◌, ◌%◌, ◌≤◌, ◌<◌}
use native.Mathlib.Omega.{arith}
use native.Mathlib.Numerals.{add-one}
use native.Mathlib.Decide.{le_ind, dec_le}
use lib.Dec.{leb, ltb, eqb}
use lib.ListN.{get_or}
use borrow.Author.Tests.{leb-true, ltb-true, eqb-true, not-false}
use Rattle.std.proofs.lemmas.Bool.{agree_below_at}
use Rattle.common.proofs.Tests.{and_halves, any_of_cases}
use Rattle.calendar.specs.Gregorian.{leap, leap_day, month_day, date_of_parts, first_year}
use Rattle.calendar.specs.DayNumber.{calendar_days, days_before, year_start, day_number, year_at, date_at}
use Rattle.calendar.specs.Easter.{computus, easter_sunday}
use Rattle.calendar.specs.Target.{weekday, closed_by, is_open, First}
use Rattle.calendar.proofs.Laws.Gregorian.{valid_day_le}
use Rattle.calendar.proofs.Laws.Years.{year_at_of}
use Rattle.calendar.proofs.Laws.DayNumber.{month_of_day, day_of_day, parts_of}
use Rattle.calendar.proofs.Laws.Target.{open_tests}

-- ---- the sequence of closing days

easter_day : ℕ → ℕ
easter_day k = day_number (easter_sunday (first_year + k))

-- the six closing days of the year 2000 + k, in order
closings : ℕ → List ℕ
closings k =
    year_start k  -- 1 January
    ∷ (easter_day k - 2)  -- Good Friday
    ∷ (easter_day k + 1)  -- Easter Monday
    ∷ (year_start k + (120 + leap_day (first_year + k)))  -- 1 May
    ∷ (year_start k + (358 + leap_day (first_year + k)))  -- 25 December
    ∷ (year_start k + (359 + leap_day (first_year + k)))  -- 26 December
    ∷ []

-- the closing days of all years, in order
closing : ℕ → ℕ
closing i = get_or (closings (i / 6)) (i % 6) 0

apart? : ℕ → Bool
apart? i = ltb (closing i) (closing (i + 1)) && leb (closing i + 5) (closing (i + 1 + 1))

-- one test over all years
apart : (i : ℕ) → i < 1200 → (closing i < closing (i + 1)) × (closing i + 5 ≤ closing (i + 1 + 1))
unfolding apart? closing closings easter_day year_start days_before leap_day leap day_number easter_sunday computus
apart i h =
    let p = and_halves (ltb (closing i) (closing (i + 1))) (agree_below_at apart? (λ i. true) 1200 i refl h) in
    (ltb-true _ _ p.0, leb-true _ _ p.1)

closing_mono : (i j : ℕ) → i ≤ j → j ≤ 1200 → closing i ≤ closing j
closing_mono i j l =
    le_ind (λ (m : ℕ). m ≤ 1200 → closing i ≤ closing m) (λ h. omega arith)
    (λ m a ih h. omega (arith, ih (omega arith), rw add-one at (apart m (omega arith)).0)) j l

-- a day is a closing day
record Closing (n : ℕ) : Type 0 where
  place : ℕ
  in_table : place < 1200
  is : n ≡ closing place

place_mono : (a b : ℕ) (p : Closing a) (q : Closing b) → a < b → p.place < q.place
place_mono a b p q l =
    elim (dec_le q.place p.place) [
      | yes h ↦ absurd (omega (arith, p.is, q.is, closing_mono q.place p.place h (omega arith)))
      | no h ↦ omega arith
    ]

-- three closing days take more than five days
three : (a b c : ℕ) → Closing a → Closing b → Closing c → a < b → b < c → a + 5 ≤ c
three a b c p q r l m =
    let i = place_mono a b p q l in
    let j = place_mono b c q r m in
    omega (
      arith,
      p.is,
      r.is,
      (apart p.place p.in_table).1,
      closing_mono (p.place + 1 + 1) r.place (omega arith) (omega arith),
    )

-- ---- five days in a row

-- a day is a weekend's or a closing day
Off : ℕ → Type 0
Off n = (n % 7 ≤ 1) ⊎ Closing n

-- one that is no weekend's is a closing day
weekday_off : (n : ℕ) → 2 ≤ n % 7 → Off n → Closing n
unfolding Off
weekday_off n h o = ⊎_elim (λ (l : n % 7 ≤ 1). absurd (omega arith)) (λ p. p) o

-- three of them within five days cannot be
no_three : (a b c : ℕ) → a < b → b < c → c < a + 5 → 2 ≤ a % 7 → 2 ≤ b % 7 → 2 ≤ c % 7 → Off a → Off b → Off c → ⊥
no_three a b c l m s ha hb hc oa ob oc =
    omega (arith, three a b c (weekday_off a ha oa) (weekday_off b hb ob) (weekday_off c hc oc) l m)

five : (n : ℕ) → Off n → Off (n + 1) → Off (n + 2) → Off (n + 3) → Off (n + 4) → ⊥
five n a b c d e =
    elim (dec_le (n % 7) 1) [
      | yes h ↦ no_three _ _ _ (omega arith) (omega arith) (omega arith) (omega arith) (omega arith) (omega arith) c d e
      | no h ↦
          elim (dec_le (n % 7) 4) [
            | yes i ↦ no_three _ _ _ (omega arith) (omega arith) (omega arith) (omega arith) (omega arith) (omega arith) a b c
            | no i ↦
                elim (dec_le (n % 7) 5) [
                  | yes j ↦ no_three _ _ _ (omega arith) (omega arith) (omega arith) (omega arith) (omega arith) (omega arith) a b e
                  | no j ↦ no_three _ _ _ (omega arith) (omega arith) (omega arith) (omega arith) (omega arith) (omega arith) a d e
                ]
          ]
    ]

-- ---- a day that is not open is off

module _ (n : ℕ) (h : n < calendar_days) where
  closing_at : (i : ℕ) → i < 6 → n ≡ get_or (closings (year_at n)) i 0 → Closing n
  unfolding closing
  closing_at i l e =
      let y = year_at_of n h in
      let q : (year_at n * 6 + i) / 6 ≡ year_at n = omega arith in
      let r : (year_at n * 6 + i) % 6 ≡ i = omega arith in
      record { place = year_at n * 6 + i; in_table = omega arith; is = rw (q, r) e }

  -- the day d of the month m is where the sequence has it
  pub on_day : (m d : ℕ) → d ≤ 31 → month_day (date_at n) ≡ m * 100 + d → n ≡ year_start (year_at n) + (days_before (leap_day (first_year + year_at n)) m + (d - 1))
  on_day m d hd e =
      let p = parts_of n h in
      let b = valid_day_le p.valid in
      let v = p.valid in
      let f : month_day (date_of_parts (first_year + year_at n) (month_of_day n) (day_of_day n)) ≡ m * 100 + d = rw p.date at e in
      let em : month_of_day n ≡ m = omega arith in
      let ed : day_of_day n ≡ d = omega arith in
      omega (arith, p.is, ap (days_before (leap_day (first_year + year_at n))) em)

  off_by_tests : closed_by n (month_day (date_at n)) (easter_day (year_at n)) ≡ true → Off n
  unfolding closed_by Off closings days_before
  off_by_tests e =
      let md = month_day (date_at n) in
      let k = easter_day (year_at n) in
      any_of_cases (Off n)
      (eqb (weekday n) 5 ∷ eqb (weekday n) 6 ∷ eqb md 101 ∷ eqb (n + 2) k ∷ eqb n (k + 1) ∷ eqb md 501 ∷ eqb md 1225 ∷ eqb md 1226 ∷ []) (
        λ p. inl (omega (arith, eqb-true (weekday n) 5 p)),
        (
          λ p. inl (omega (arith, eqb-true (weekday n) 6 p)),
          (
            λ p. inr (closing_at 0 (omega arith) (omega (arith, on_day 1 1 (omega arith) (eqb-true md 101 p)))),
            (
              λ p. inr (closing_at 1 (omega arith) (omega (arith, eqb-true (n + 2) k p))),
              (
                λ p. inr (closing_at 2 (omega arith) (eqb-true n (k + 1) p)),
                (
                  λ p. inr (closing_at 3 (omega arith) (omega (arith, on_day 5 1 (omega arith) (eqb-true md 501 p)))),
                  (
                    λ p. inr (closing_at 4 (omega arith) (omega (arith, on_day 12 25 (omega arith) (eqb-true md 1225 p)))),
                    (λ p. inr (closing_at 5 (omega arith) (omega (arith, on_day 12 26 (omega arith) (eqb-true md 1226 p)))), tt),
                  ),
                ),
              ),
            ),
          ),
        ),
      )
      e

  off : is_open n ≡ false → Off n
  unfolding easter_day
  off e = off_by_tests (not-false _ (rw (open_tests n h) at e))

-- ---- the first business day is near

pub first_near : (n r : ℕ) → First n r → r < calendar_days → r ≤ n + 4
first_near n r f h =
    elim (dec_le r (n + 4)) [
      | yes l ↦ l
      | no l ↦
          let o : (j : ℕ) → n ≤ j → j < r → Off j = λ j a b. off j (omega arith) (f.shut j a b) in
          absurd
          (five n (o n (omega arith) (omega arith)) (o (n + 1) (omega arith) (omega arith)) (o (n + 2) (omega arith) (omega arith))
          (o (n + 3) (omega arith) (omega arith)) (o (n + 4) (omega arith) (omega arith)))
    ]
