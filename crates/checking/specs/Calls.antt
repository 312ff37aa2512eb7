-- What an action needs and leaves: the rows of what it names, an answer, and the ledger with the action's effect where it is
-- accepted. Assumes nothing.
use Rattle.std.specs.Prelude.{◌≡◌, Bool, true, false, List, ℕ, ltb, Option, Some, None, Result}
use Rattle.tables.specs.Ledger.{Ledger}
use Rattle.tables.specs.Lookup.{existing}
use Rattle.model.specs.Step.{after_answer}
use Rattle.refusals.specs.declared.Refusal.{Refusal}

-- ---- the row of a number

abbrev pub is_found : Option ℕ → Bool
is_found (Some row) = true
is_found None = false

-- it is one of the used rows that there are
abbrev pub used_row : List ℕ → ℕ → Option ℕ → Bool
used_row cells used (Some row) = ltb row (existing cells used)
used_row cells used None = false

-- the row that was found; the first where none was
abbrev pub found_row : Option ℕ → ℕ
found_row (Some row) = row
found_row None = 0

-- ---- what is left

-- from the ledger l, which the action would make the ledger `changed`, to the ledger l'
pub record Done {A : Type 0} (answer : Result A Refusal) (l changed : Ledger) (r : Result A Refusal) (l' : Ledger) : Type 0 where
  pub answer_is : r ≡ answer
  pub after_is : l' ≡ after_answer answer changed l
