-- Lookup by number. Document 01, "What is refused": "Where unfit use left two rows of one number, the lowest row counts."
-- To cite: proofs/Laws/Lookup. Assumes nothing.
use Rattle.std.specs.Prelude.{◌≡◌, Bool, cond, List, ℕ, ◌-◌, ◌*◌, eqb, ltb, get_or, Option, Some, None}
use Rattle.common.specs.Walk.{first_from}
use Rattle.tables.specs.Limits.{stride}
use Rattle.tables.specs.Rows.{rows}

-- a row's number stands in its first cell: `mandate_at_number`, `collection_at_number`
abbrev pub number_at : List ℕ → ℕ → ℕ
number_at cells row = get_or cells (row * stride) 0

abbrev pub number_is : List ℕ → ℕ → ℕ → Bool
number_is cells number row = eqb (number_at cells row) number

-- the used rows that there are: a row past the end of the table does not exist
abbrev pub existing : List ℕ → ℕ → ℕ
existing cells used = cond (ltb used (rows cells)) used (rows cells)

-- the lowest used row of the number
unfoldable pub lookup : List ℕ → ℕ → ℕ → Option ℕ
lookup cells used number = first_from (number_is cells number) Some None 0 (existing cells used)

-- the lowest used row of the number from a row on
unfoldable pub lookup_since : List ℕ → ℕ → ℕ → ℕ → Option ℕ
lookup_since cells used number since = first_from (number_is cells number) Some None since (existing cells used - since)

-- no row before it has the number: the lookup may start there
abbrev pub MayStart : List ℕ → ℕ → ℕ → ℕ → Type 0
MayStart cells used number since = lookup_since cells used number since ≡ lookup cells used number
