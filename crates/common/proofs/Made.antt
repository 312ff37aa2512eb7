-- A list of tests that passes, made of its tests one by one, or of another that passes.
-- To cite: `all_of_made`, which takes a proof of each test; `all_of_set`. Assumes nothing.
use mathlib.Core.Path.{◌≡◌, refl, sym, subst, ◌∙◌}
use mathlib.Core.Bool.{Bool, true, ◌&&◌}
use mathlib.Core.List.{List, [], ◌∷◌}
use Prim.Native.Nat.{ℕ, zero, suc}
use lib.ListN.{set}
use Rattle.common.specs.Tests.{and_all, all_of}
use Rattle.common.proofs.Tests.{and_halves, and_true, all_of_at}

-- P, given each of the tests
abbrev pub Given : List Bool → Type 0 → Type 0
Given [] P = P
Given (b ∷ bs) P = b ≡ true → Given bs P

and_all_made : (a : Bool) (bs : List Bool) → a ≡ true → Given bs (and_all a bs ≡ true)
and_all_made a [] e = e
and_all_made a (b ∷ bs) e = λ p. and_all_made (a && b) bs (and_true e p)

pub all_of_made : (bs : List Bool) → Given bs (all_of bs ≡ true)
all_of_made [] = refl
all_of_made (b ∷ bs) = λ p. and_all_made b bs p

-- with another test that passes at a place, it still passes
and_all_for : (a b : Bool) (bs : List Bool) → and_all a bs ≡ true → b ≡ true → and_all b bs ≡ true
and_all_for a b bs e p = subst (λ (x : Bool). and_all x bs ≡ true) (all_of_at (a ∷ bs) 0 e ∙ sym p) e

and_all_set : (a : Bool) (bs : List Bool) (k : ℕ) (b : Bool) → and_all a bs ≡ true → b ≡ true → and_all a (set bs k b) ≡ true
and_all_set a [] k b e p = e
and_all_set a (c ∷ bs) zero b e p =
    and_all_for (a && c) (a && b) bs e (and_true (and_halves a (all_of_at ((a && c) ∷ bs) 0 e)).0 p)
and_all_set a (c ∷ bs) (suc k) b e p = and_all_set (a && c) bs k b e p

pub all_of_set : (bs : List Bool) (k : ℕ) (b : Bool) → all_of bs ≡ true → b ≡ true → all_of (set bs k b) ≡ true
all_of_set [] k b e p = e
all_of_set (c ∷ bs) zero b e p = and_all_for c b bs e p
all_of_set (c ∷ bs) (suc k) b e p = and_all_set c bs k b e p
