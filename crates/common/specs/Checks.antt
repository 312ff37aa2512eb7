-- An ordered rule is an ordered list of checks: the first that fails gives the answer.
-- Assumes nothing.
use Rattle.std.specs.Prelude.{Bool, cond, List, [], ◌∷◌}

-- a test, and the answer where it fails
pub record Check (A : Type 0) : Type 0 where
  pub passes : Bool
  pub failing : A

abbrev pub check : {A : Type 0} → Bool → A → Check A
check b a = record { passes = b; failing = a }

-- the answer of the first check that fails; a where all pass
abbrev pub judged : {A : Type 0} → List (Check A) → A → A
judged [] a = a
judged (c ∷ cs) a = cond c.passes (judged cs a) c.failing
