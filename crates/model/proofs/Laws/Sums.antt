-- The sum of what the ledger answers is the sum of its table. To cite: `sum_to_same`, `sum_to_total`. Assumes nothing.
use mathlib.Core.Path.{◌≡◌, refl, sym, ap, ◌∙◌}
use mathlib.Core.List.{List, [], ◌∷◌}
use Prim.Native.Nat.{ℕ, zero, suc, ◌≤◌}
use native.Mathlib.Omega.{arith}
use lib.IntN.{ℤ, ◌+ℤ◌, +ℤ_assoc, +ℤ_idl, +ℤ_idr}
use lib.ListN.{length}
use Rattle.positions.specs.Positions.{position, total}
use Rattle.model.specs.Promises.{sum_to}

pub sum_to_same : (f g : ℕ → ℤ) (n : ℕ) → ((i : ℕ) → 1 ≤ i → i ≤ n → f i ≡ g i) → sum_to f n ≡ sum_to g n
unfolding sum_to
sum_to_same f g zero h = refl
sum_to_same f g (suc n) h = rw (sum_to_same f g n (λ i a b. h i a (omega arith)), h (suc n) (omega arith) (omega arith))

-- the first one apart
sum_to_first : (f : ℕ → ℤ) (n : ℕ) → sum_to f (suc n) ≡ f 1 +ℤ sum_to (λ i. f (suc i)) n
unfolding sum_to
sum_to_first f zero = +ℤ_idl (f 1) ∙ sym (+ℤ_idr (f 1))
sum_to_first f (suc n) =
    ap (λ (z : ℤ). z +ℤ f (suc (suc n))) (sum_to_first f n) ∙ +ℤ_assoc (f 1) (sum_to (λ i. f (suc i)) n) (f (suc (suc n)))

shifted : (z : ℤ) (l : List ℤ) (i : ℕ) → 1 ≤ i → position (z ∷ l) (suc i) ≡ position l i
unfolding position
shifted z l zero h = absurd (omega arith)
shifted z l (suc i) h = refl

pub sum_to_total : (l : List ℤ) → sum_to (position l) (length l) ≡ total l
unfolding sum_to total position
sum_to_total [] = refl
sum_to_total (z ∷ l) =
    sum_to_first (position (z ∷ l)) (length l)
    ∙ ap (λ (s : ℤ). z +ℤ s) (sum_to_same (λ i. position (z ∷ l) (suc i)) (position l) (length l) (λ i a b. shifted z l i a) ∙ sum_to_total l)
