-- An index of the first rows of a table by number. Rows fall into slots by their numbers; the index has the first row of
-- each slot, for each row the next one of its slot, and the rows that it covers. It stays true while rows are added and
-- none changes its number: rows that it does not cover are walked.
-- What it is for: `IndexHolds`, proved in proofs/Laws/Following. Assumes nothing.
use Rattle.std.specs.Prelude.{◌≡◌, Bool, cond, List, [], ◌∷◌, ℕ, zero, suc, ◌+◌, ◌-◌, ◌%◌, ◌≤◌, ◌<◌, min, eqb, ltb, get_or, Option, Some, None}
use Rattle.common.specs.Limits.{collection_row_limit}
use Rattle.common.specs.Walk.{first_from}
use Rattle.index.specs.declared.Index.{Index}
use Rattle.tables.specs.Lookup.{number_at, number_is, existing, MayStart}

-- ---- what stands in an index

abbrev pub slots : ℕ
slots = 4096

-- the most rows that an index covers: those of the larger table
abbrev pub row_limit : ℕ
row_limit = collection_row_limit

abbrev pub slot_of : ℕ → ℕ
slot_of number = number % slots

abbrev pub in_slot : List ℕ → ℕ → ℕ → Bool
in_slot cells slot row = eqb (slot_of (number_at cells row)) slot

-- a row as a cell has it: 0 for none
abbrev pub marked : Option ℕ → ℕ
marked (Some row) = row + 1
marked None = 0

-- of the first n rows the first of a slot, from a row on
unfoldable pub row_from : List ℕ → ℕ → ℕ → ℕ → ℕ
row_from cells n slot row = marked (first_from (in_slot cells slot) Some None row (n - row))

-- of the first n rows the next one of a row's slot
unfoldable pub next_from : List ℕ → ℕ → ℕ → ℕ
next_from cells n row = cond (ltb row n) (row_from cells n (slot_of (number_at cells row)) (row + 1)) 0

-- f at each of some numbers from i on
unfoldable pub values_from : (ℕ → ℕ) → ℕ → ℕ → List ℕ
values_from f i zero = []
values_from f i (suc left) = f i ∷ values_from f (i + 1) left

abbrev pub covered : List ℕ → ℕ → ℕ
covered cells used = min (existing cells used) row_limit

-- the index of a table of which some rows are used: the first row of each slot, for each row the next one, and the rows covered
unfoldable pub index_of : List ℕ → ℕ → Index
index_of cells used =
    let n = covered cells used in
    record { first = values_from (λ slot. row_from cells n slot 0) 0 slots; next = values_from (next_from cells n) 0 row_limit; covered = n }

-- ---- how it is followed

-- the next row of the slot; no row lies past the limit
abbrev pub next_row : Index → ℕ → ℕ
next_row index row = get_or index.next row 0

-- from row k - 1 on, some rows at most: the first that has the number, or the first that is not covered
unfoldable pub follow : Index → List ℕ → ℕ → ℕ → ℕ → ℕ
follow index cells number zero k = index.covered
follow index cells number (suc left) k =
    cond (eqb k 0) index.covered
    (cond (number_is cells number (k - 1)) (k - 1)
    (follow index cells number left (next_row index (k - 1))))

unfoldable pub first_row : Index → List ℕ → ℕ → ℕ
first_row index cells number = follow index cells number row_limit (get_or index.first (slot_of number) 0)

-- ---- what that gives

-- the index was made of a table whose rows are still there, each with its number
pub record Indexed (index : Index) (cells : List ℕ) (used : ℕ) : Type 0 where
  pub table : List ℕ
  pub rows : ℕ
  pub made : index ≡ index_of table rows
  pub there : covered table rows ≤ existing cells used
  pub same : (row : ℕ) → row < covered table rows → number_at cells row ≡ number_at table row

-- a lookup may start at the row that the index gives
abbrev pub IndexHolds : Type 0
IndexHolds =
    (index : Index) (cells : List ℕ) (used number : ℕ) → Indexed index cells used
    → MayStart cells used number (first_row index cells number)
