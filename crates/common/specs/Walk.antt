-- A walk over the numbers from i on, as a loop makes it: what is left of the walk has the answer of the whole.
-- To cite: the laws of proofs/Walk. Assumes nothing.
use Rattle.std.specs.Prelude.{Bool, true, false, cond, ℕ, zero, suc, ◌+◌}

-- the test holds at each of `left` numbers from i on
unfoldable pub all_from : (ℕ → Bool) → ℕ → ℕ → Bool
all_from t i zero = true
all_from t i (suc left) = cond (t i) (all_from t (i + 1) left) false

-- `hit` of the first of `left` numbers from i on at which the test holds, else `miss`
unfoldable pub first_from : {A : Type 0} → (ℕ → Bool) → (ℕ → A) → A → ℕ → ℕ → A
first_from t hit miss i zero = miss
first_from t hit miss i (suc left) = cond (t i) (hit i) (first_from t hit miss (i + 1) left)
