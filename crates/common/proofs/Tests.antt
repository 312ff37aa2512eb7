-- Laws of specs/Tests. Names: F-at reads one test out of F; F-true and F-false make F of its tests. Of one test and of two the laws
-- are the library's: under other names, or without the tests that the facts name. Assumes nothing.
use mathlib.Core.Path.{◌≡◌, refl}
use mathlib.Core.Bool.{Bool, true, false, cond, not, ◌&&◌, ◌||◌}
use mathlib.Core.List.{List, [], ◌∷◌}
use mathlib.Core.Logic.{⊎_elim}
use Prim.Native.Nat.{ℕ, zero, suc}
use lib.ListN.{get_or}
use Rattle.std.proofs.lemmas.Bool.{not-true, and_parts, and_from, or_cases, or_parts}
pub use Rattle.std.proofs.lemmas.Bool.{true_from_ne_false as true_unless, false_from_ne_true as false_unless}
pub use borrow.Table.Steps.{cases as either}  -- what each way that a test can go gives
use Rattle.common.specs.Tests.{and_all, all_of, or_any, any_of}

-- ---- one test

pub not_true : {b : Bool} → not b ≡ true → b ≡ false
not_true {b} e = not-true b e

-- whichever way it goes
pub same_arms : {A : Type 0} (b : Bool) (a : A) → cond b a a ≡ a
same_arms true a = refl
same_arms false a = refl

-- ---- two tests; the first is written out, since && and || compute

pub and_halves : (a : Bool) {b : Bool} → a && b ≡ true → (a ≡ true) × (b ≡ true)
and_halves a {b} e = and_parts a b e

pub and_true : {a b : Bool} → a ≡ true → b ≡ true → a && b ≡ true
and_true {a} {b} p q = and_from a b p q

-- ---- all_of

and_all_first : (a : Bool) (bs : List Bool) → and_all a bs ≡ true → a ≡ true
and_all_first a [] e = e
and_all_first a (b ∷ bs) e = (and_halves a (and_all_first (a && b) bs e)).0

and_all_at : (a : Bool) (bs : List Bool) (k : ℕ) → and_all a bs ≡ true → get_or bs k true ≡ true
and_all_at a [] k e = refl
and_all_at a (b ∷ bs) zero e = (and_halves a (and_all_first (a && b) bs e)).1
and_all_at a (b ∷ bs) (suc k) e = and_all_at (a && b) bs k e

pub all_of_at : (bs : List Bool) (k : ℕ) → all_of bs ≡ true → get_or bs k true ≡ true
all_of_at [] k e = refl
all_of_at (b ∷ bs) zero e = and_all_first b bs e
all_of_at (b ∷ bs) (suc k) e = and_all_at b bs k e

-- ---- any_of

-- what each test gives where it holds
abbrev pub Cases : Type 0 → List Bool → Type 0
Cases P [] = Unit {0}
Cases P (b ∷ bs) = (b ≡ true → P) × Cases P bs

or_any_cases : (P : Type 0) (a : Bool) (bs : List Bool) → (a ≡ true → P) → Cases P bs → or_any a bs ≡ true → P
or_any_cases P a [] f fs e = f e
or_any_cases P a (b ∷ bs) f fs e = or_any_cases P (a || b) bs (λ o. ⊎_elim f fs.0 (or_cases a b o)) fs.1 e

-- one of the tests holds, so what each gives is given
pub any_of_cases : (P : Type 0) (bs : List Bool) → Cases P bs → any_of bs ≡ true → P
any_of_cases P [] fs e = absurd cc
any_of_cases P (b ∷ bs) fs e = or_any_cases P b bs fs.0 fs.1 e

or_any_first : (a : Bool) (bs : List Bool) → or_any a bs ≡ false → a ≡ false
or_any_first a [] e = e
or_any_first a (b ∷ bs) e = (or_parts a b (or_any_first (a || b) bs e)).0

or_any_at : (a : Bool) (bs : List Bool) (k : ℕ) → or_any a bs ≡ false → get_or bs k false ≡ false
or_any_at a [] k e = refl
or_any_at a (b ∷ bs) zero e = (or_parts a b (or_any_first (a || b) bs e)).1
or_any_at a (b ∷ bs) (suc k) e = or_any_at (a || b) bs k e

-- none of the tests holds
pub any_of_at : (bs : List Bool) (k : ℕ) → any_of bs ≡ false → get_or bs k false ≡ false
any_of_at [] k e = refl
any_of_at (b ∷ bs) zero e = or_any_first b bs e
any_of_at (b ∷ bs) (suc k) e = or_any_at b bs k e
