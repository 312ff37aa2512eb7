-- The month of a day of the year. Each law is one test that the checker computes, at both lengths of a year.
-- To cite: `MonthOf`, `month_at_of`, `month_unique`, `month_end`, `months_apart`. Assumes nothing.
use mathlib.Core.Path.{◌≡◌, refl, sym, subst}
use mathlib.Core.Bool.{Bool, true, ◌&&◌}
use mathlib.Core.Logic.{⊎_elim}
use Prim.Native.Nat.{ℕ, ◌+◌, ◌-◌, ◌≤◌, ◌<◌}
use native.Mathlib.Omega.{arith}
use native.Mathlib.Nat.{eq-or-lt_of_le}
use lib.Dec.{leb, ltb, eqb}
use lib.ListN.{get_or}
use lib.Arith.{lt-one}
use borrow.Author.Tests.{leb-true, ltb-true, eqb-true}
use Rattle.std.proofs.lemmas.Bool.{agree_below, agree_below_at}
use Rattle.common.proofs.Tests.{and_halves}
use Rattle.calendar.specs.Gregorian.{month_length}
use Rattle.calendar.specs.DayNumber.{counts, days_before, month_at}

-- ---- days_before

pub counts_le : (i : ℕ) → i < 12 → get_or counts i 0 ≤ 334
counts_le i h = leb-true (get_or counts i 0) 334 (agree_below_at (λ j. leb (get_or counts j 0) 334) (λ j. true) 12 i refl h)

pub days_before_le : (l m : ℕ) → l ≤ 1 → 1 ≤ m → m ≤ 12 → days_before l m ≤ 335
unfolding days_before
days_before_le l m hl h1 h2 = grind (arith, counts_le (m - 1) (omega arith))

-- what holds of both lengths of a year
both_years : (P : ℕ → Type 0) → P 0 → P 1 → (l : ℕ) → l ≤ 1 → P l
both_years P p q l h =
    ⊎_elim (λ (e : l ≡ 1). subst P (sym e) q) (λ (m : l < 1). subst P (sym (lt-one m)) p) (eq-or-lt_of_le h)

-- ---- month_at

-- the day r of a year with l leap days is in the month m
pub record MonthOf (l r m : ℕ) : Type 0 where
  pub january : 1 ≤ m
  pub december : m ≤ 12
  pub from : days_before l m ≤ r
  pub to : r < days_before l m + month_length l m

month_of? : ℕ → ℕ → ℕ → Bool
month_of? l r m = leb 1 m && leb m 12 && leb (days_before l m) r && ltb r (days_before l m + month_length l m)

month_of : (l r m : ℕ) → month_of? l r m ≡ true → MonthOf l r m
unfolding month_of?
month_of l r m e =
    let p3 = and_halves _ e in
    let p2 = and_halves _ p3.0 in
    let p1 = and_halves (leb 1 m) p2.0 in
    record {
      january = leb-true _ _ p1.0;
      december = leb-true _ _ p1.1;
      from = leb-true _ _ p2.1;
      to = ltb-true _ _ p3.1;
    }

pub month_at_of : (l : ℕ) → l ≤ 1 → (r : ℕ) → r < 365 + l → MonthOf l r (month_at l r)
unfolding month_of? month_at days_before month_length
month_at_of =
    both_years (λ (l : ℕ). (r : ℕ) → r < 365 + l → MonthOf l r (month_at l r))
    (λ r h. month_of 0 r (month_at 0 r) (agree_below_at (λ r. month_of? 0 r (month_at 0 r)) (λ r. true) 365 r refl h))
    (λ r h. month_of 1 r (month_at 1 r) (agree_below_at (λ r. month_of? 1 r (month_at 1 r)) (λ r. true) 366 r refl h))

-- the day d, from 0, of the month m + 1
day_of? : ℕ → ℕ → ℕ → Bool
day_of? l m d = eqb (month_at l (days_before l (m + 1) + d)) (m + 1)

days_of? : ℕ → ℕ → Bool
days_of? l m = agree_below (day_of? l m) (λ d. true) (month_length l (m + 1))

month_at_day : (l : ℕ) → l ≤ 1 → (m d : ℕ) → m < 12 → d < month_length l (m + 1) → month_at l (days_before l (m + 1) + d) ≡ m + 1
unfolding day_of? days_of? month_at days_before month_length
month_at_day =
    both_years
    (λ (l : ℕ). (m d : ℕ) → m < 12 → d < month_length l (m + 1) → month_at l (days_before l (m + 1) + d) ≡ m + 1)
    (λ m d h g.
    eqb-true _ _ (agree_below_at (day_of? 0 m) (λ d. true) (month_length 0 (m + 1)) d (agree_below_at (days_of? 0) (λ m. true) 12 m refl h) g))
    (λ m d h g.
    eqb-true _ _ (agree_below_at (day_of? 1 m) (λ d. true) (month_length 1 (m + 1)) d (agree_below_at (days_of? 1) (λ m. true) 12 m refl h) g))

pub month_unique : (l : ℕ) → l ≤ 1 → (r m : ℕ) → MonthOf l r m → month_at l r ≡ m
month_unique l hl r m o =
    let em : m - 1 + 1 ≡ m = omega arith in
    let er : days_before l m + (r - days_before l m) ≡ r = omega arith in
    let t : r - days_before l m < month_length l m = omega arith in
    rw (em, er) at (month_at_day l hl (m - 1) (r - days_before l m) (omega arith) (rw em t))

-- ---- the months of a year, one after the other

-- a month ends within the year
month_end' : (l : ℕ) → l ≤ 1 → (m : ℕ) → m < 12 → days_before l (m + 1) + month_length l (m + 1) ≤ 365 + l
unfolding days_before month_length
month_end' =
    both_years (λ (l : ℕ). (m : ℕ) → m < 12 → days_before l (m + 1) + month_length l (m + 1) ≤ 365 + l)
    (λ m h. leb-true _ _ (agree_below_at (λ m. leb (days_before 0 (m + 1) + month_length 0 (m + 1)) 365) (λ m. true) 12 m refl h))
    (λ m h. leb-true _ _ (agree_below_at (λ m. leb (days_before 1 (m + 1) + month_length 1 (m + 1)) 366) (λ m. true) 12 m refl h))

pub month_end : (l m : ℕ) → l ≤ 1 → 1 ≤ m → m ≤ 12 → days_before l m + month_length l m ≤ 365 + l
month_end l m hl h1 h2 =
    let em : m - 1 + 1 ≡ m = omega arith in
    rw em at (month_end' l hl (m - 1) (omega arith))

-- of two months the later starts after the earlier ends
later? : ℕ → ℕ → ℕ → Bool
later? l m' m = leb (days_before l (m + 1) + month_length l (m + 1)) (days_before l (m' + 1))

laters? : ℕ → ℕ → Bool
laters? l m' = agree_below (later? l m') (λ m. true) m'

months_apart' : (l : ℕ) → l ≤ 1 → (m m' : ℕ) → m < m' → m' < 12 → days_before l (m + 1) + month_length l (m + 1) ≤ days_before l (m' + 1)
unfolding later? laters? days_before month_length
months_apart' =
    both_years
    (λ (l : ℕ). (m m' : ℕ) → m < m' → m' < 12 → days_before l (m + 1) + month_length l (m + 1) ≤ days_before l (m' + 1))
    (λ m m' a b. leb-true _ _ (agree_below_at (later? 0 m') (λ m. true) m' m (agree_below_at (laters? 0) (λ m. true) 12 m' refl b) a))
    (λ m m' a b. leb-true _ _ (agree_below_at (later? 1 m') (λ m. true) m' m (agree_below_at (laters? 1) (λ m. true) 12 m' refl b) a))

pub months_apart : (l m m' : ℕ) → l ≤ 1 → 1 ≤ m → m < m' → m' ≤ 12 → days_before l m + month_length l m ≤ days_before l m'
months_apart l m m' hl h a b =
    let e : m - 1 + 1 ≡ m = omega arith in
    let e' : m' - 1 + 1 ≡ m' = omega arith in
    rw (e, e') at (months_apart' l hl (m - 1) (m' - 1) (omega arith) (omega arith))

-- a month starts where the one before ends; m counts from 0
next? : ℕ → ℕ → Bool
next? l m = eqb (days_before l (m + 1 + 1)) (days_before l (m + 1) + month_length l (m + 1))

month_next' : (l : ℕ) → l ≤ 1 → (m : ℕ) → m < 11 → days_before l (m + 1 + 1) ≡ days_before l (m + 1) + month_length l (m + 1)
unfolding next? days_before month_length
month_next' =
    both_years (λ (l : ℕ). (m : ℕ) → m < 11 → days_before l (m + 1 + 1) ≡ days_before l (m + 1) + month_length l (m + 1))
    (λ m h. eqb-true _ _ (agree_below_at (next? 0) (λ m. true) 11 m refl h))
    (λ m h. eqb-true _ _ (agree_below_at (next? 1) (λ m. true) 11 m refl h))

pub month_next : (l m : ℕ) → l ≤ 1 → m < 11 → days_before l (m + 1 + 1) ≡ days_before l (m + 1) + month_length l (m + 1)
month_next l m hl h = month_next' l hl m h

-- January starts the year, and December ends it
pub month_first : (l : ℕ) → days_before l 1 ≡ 0
unfolding days_before
month_first l = refl

pub month_last : (l : ℕ) → l ≤ 1 → days_before l 12 + month_length l 12 ≡ 365 + l
unfolding days_before month_length
month_last = both_years (λ (l : ℕ). days_before l 12 + month_length l 12 ≡ 365 + l) refl refl
