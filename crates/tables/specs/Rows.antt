-- Rows in a table of cells: row r of width w is the w cells from r * w on. A cell past the end of the table reads as 0,
-- and a row that is not there whole is not written.
-- To cite: proofs/Laws/Rows. Assumes nothing.
use Rattle.std.specs.Prelude.{cond, List, [], ◌∷◌, ℕ, zero, suc, ◌+◌, ◌*◌, ◌/◌, ltb, length, get_or}
use Rattle.std.proofs.lemmas.List.Edits.{sets}
use Rattle.tables.specs.declared.Mandate.{Mandate}
use Rattle.tables.specs.declared.Collection.{Collection}
use Rattle.tables.specs.Limits.{stride}
use Rattle.tables.specs.Records.{mandate_cells, mandate_from, collection_cells, collection_from}

-- ---- rows of any width

-- the whole rows of a table
abbrev pub rows_of : ℕ → List ℕ → ℕ
rows_of w cells = length cells / w

-- the n cells from b + k on
abbrev pub cells_from : List ℕ → ℕ → ℕ → ℕ → List ℕ
cells_from cells b k zero = []
cells_from cells b k (suc n) = get_or cells (b + k) 0 ∷ cells_from cells b (k + 1) n

abbrev pub row_at : ℕ → List ℕ → ℕ → List ℕ
row_at w cells row = cells_from cells (row * w) 0 w

unfoldable pub put_row : ℕ → List ℕ → ℕ → List ℕ → List ℕ
put_row w cells row fields = cond (ltb row (rows_of w cells)) (sets cells (row * w) fields) cells

-- ---- the two tables

abbrev pub rows : List ℕ → ℕ
rows cells = rows_of stride cells

unfoldable pub mandate_at : List ℕ → ℕ → Mandate
mandate_at cells row = mandate_from (row_at stride cells row)

abbrev pub put_mandate : List ℕ → ℕ → Mandate → List ℕ
put_mandate cells row m = put_row stride cells row (mandate_cells m)

unfoldable pub collection_at : List ℕ → ℕ → Collection
collection_at cells row = collection_from (row_at stride cells row)

abbrev pub put_collection : List ℕ → ℕ → Collection → List ℕ
put_collection cells row c = put_row stride cells row (collection_cells c)
