-- Laws of specs/Checks, where each check that fails is an error. To cite: `check_passes`, `judged_passes` (a list that gives no error
-- passed each of its tests). Assumes nothing.
use mathlib.Core.Path.{◌≡◌, refl}
use mathlib.Core.Bool.{Bool, true, false, cond, ◌&&◌}
use mathlib.Core.List.{List, [], ◌∷◌}
use Prim.Native.Nat.{ℕ, zero, suc}
use Rattle.std.proofs.Common.{Result, Ok, Err}
use Rattle.std.specs.Result.{is_err}
use Rattle.common.specs.Checks.{Check, judged}
use Rattle.common.proofs.Tests.{and_halves}

-- a test before an error, and what follows where it passes
pub check_passes : {A E : Type 0} (b : Bool) (x f : Result A E) {a : A} → is_err f ≡ true → cond b x f ≡ Ok a → (b ≡ true) × (x ≡ Ok a)
check_passes true x f r e = (refl, e)
check_passes false x (Ok c) r e = absurd cc
check_passes false x (Err d) r e = absurd cc

-- the tests of an ordered list, by their places
abbrev pub passes_at : {A : Type 0} → List (Check A) → ℕ → Bool
passes_at [] k = true
passes_at (c ∷ cs) zero = c.passes
passes_at (c ∷ cs) (suc k) = passes_at cs k

-- each of them gives an error where it fails
abbrev pub all_refuse : {A E : Type 0} → List (Check (Result A E)) → Bool
all_refuse [] = true
all_refuse (c ∷ cs) = is_err c.failing && all_refuse cs

pub judged_passes : {A E : Type 0} (cs : List (Check (Result A E))) {a : A} → all_refuse cs ≡ true → judged cs (Ok a) ≡ Ok a → (k : ℕ) → passes_at cs k ≡ true
judged_passes [] r e k = refl
judged_passes (c ∷ cs) r e zero = (check_passes c.passes _ _ (and_halves (is_err c.failing) r).0 e).0
judged_passes (c ∷ cs) r e (suc k) =
    let h = and_halves (is_err c.failing) r in
    judged_passes cs h.1 (check_passes c.passes _ _ h.0 e).1 k
