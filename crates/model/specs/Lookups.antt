-- Document 01, "Records": what the ledger has under a number. Where rows share a number the lowest counts.
-- Assumes nothing.
use Rattle.std.specs.Prelude.{Bool, true, false, ℕ, Option, Some, None}
use Rattle.tables.specs.declared.Mandate.{Mandate}
use Rattle.tables.specs.declared.Collection.{Collection}
use Rattle.tables.specs.Ledger.{Ledger}
use Rattle.tables.specs.Lookup.{lookup}
use Rattle.tables.specs.Rows.{mandate_at, collection_at}

-- what is known under a number
pub data Known (A : Type 0) : Type 0 where
  unknown : Known A
  known : A → Known A

abbrev pub is_known : {A : Type 0} → Known A → Bool
is_known unknown = false
is_known (known a) = true

-- a test of what is known; what is not known has been refused before
abbrev pub of_known : {A : Type 0} → Known A → (A → Bool) → Bool
of_known unknown t = true
of_known (known a) t = t a

-- the record in the row that was found
abbrev pub in_row : {A : Type 0} → Option ℕ → (ℕ → A) → Known A
in_row None f = unknown
in_row (Some row) f = known (f row)

unfoldable pub mandate_of : Ledger → ℕ → Known Mandate
mandate_of l number = in_row (lookup l.mandates l.mandates_used number) (mandate_at l.mandates)

unfoldable pub collection_of : Ledger → ℕ → Known Collection
collection_of l number = in_row (lookup l.collections l.collections_used number) (collection_at l.collections)
