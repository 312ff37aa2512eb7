-- Laws of specs/Rows, over the width w, the table and the fields. Names: F-put-same and F-put-other read the row that was
-- written and another one. To cite: `row_at_put_same`, `row_at_put_other`, `row_at_cell`, `length_put`, `rows_put`,
-- `put_nowhere`; of cells `cell_put_before`, `cell_put_after`, `cell_put_unused` (no cell of an unused row is written); for
-- the two tables `mandate_at_put_same`, `mandate_at_put_other`, `collection_at_put_same`, `collection_at_put_other`.
-- Assumes nothing.
use mathlib.Core.Path.{◌≡◌, refl, sym, ◌∙◌, ap}
use mathlib.Core.List.{List, [], ◌∷◌}
use mathlib.Core.Logic.{◌≢◌}
use Prim.Native.Nat.{ℕ, zero, suc, ◌+◌, ◌-◌, ◌*◌, ◌/◌, ◌≤◌, ◌<◌}
use native.Mathlib.Nat.{add-zero, zero-mul, suc-mul, mul-le-mul_right, le-div_iff_mul-le}
use native.Mathlib.Omega.{arith}
use borrow.Author.Tests.{ltb-true, ltb-false, lt-ltb, le-ltb}
use lib.Dec.{ltb}
use lib.ListN.{length, get_or, set, take, drop, length-set, length-take, length-drop}
use lib.Seq.{sets, length-sets, get_or-set_same, get_or-set_other, get_or-take, get_or-drop, ext_get_or}
use borrow.Rule.Slice.PartMut.{put_mid, Post-is}
use Rattle.std.proofs.Common.{append_assoc, ◌++◌, map}
use Rattle.std.specs.List.{range_with_len}
use Rattle.std.specs.Simd.{first_chunks}
use Rattle.std.proofs.lemmas.List.{drop-drop}
use Rattle.std.proofs.lemmas.List.Edits.{sets-eq}
use Rattle.common.proofs.Tests.{either}
use Rattle.tables.specs.declared.Mandate.{Mandate}
use Rattle.tables.specs.declared.Collection.{Collection}
use Rattle.tables.specs.Limits.{stride}
use Rattle.tables.specs.Records.{mandate_cells, mandate_from, collection_cells, collection_from}
use Rattle.tables.specs.Rows.{rows_of, cells_from, row_at, put_row, rows, mandate_at, put_mandate, collection_at, put_collection}
use Rattle.tables.proofs.Laws.Records.{mandate_from_cells, collection_from_cells}

-- ---- a run of stores

sets_below : (vs l : List ℕ) (i j : ℕ) → j < i → get_or (sets l i vs) j 0 ≡ get_or l j 0
sets_below [] l i j h = refl
sets_below (v ∷ vs) l i j h =
    sets_below vs (set l i v) (suc i) j (omega arith) ∙ get_or-set_other l i j v 0 (λ e. omega arith)

sets_above : (vs l : List ℕ) (i j : ℕ) → i + length vs ≤ j → get_or (sets l i vs) j 0 ≡ get_or l j 0
sets_above [] l i j h = refl
sets_above (v ∷ vs) l i j h =
    sets_above vs (set l i v) (suc i) j (omega arith) ∙ get_or-set_other l i j v 0 (λ e. omega arith)

sets_in : (vs l : List ℕ) (i n : ℕ) → n < length vs → i + length vs ≤ length l → get_or (sets l i vs) (i + n) 0 ≡ get_or vs n 0
sets_in [] l i n h r = absurd (omega arith)
sets_in (v ∷ vs) l i zero h r =
    rw (add-zero i) (sets_below vs (set l i v) (suc i) i (omega arith) ∙ get_or-set_same l i v 0 (omega arith))
sets_in (v ∷ vs) l i (suc n) h r =
    let e : i + suc n ≡ suc i + n = omega arith in
    rw e (sets_in vs (set l i v) (suc i) n (omega arith) (rw length-set (omega arith)))

-- ---- row_at

cells_from_at : (cells : List ℕ) (b k n j : ℕ) → j < n → get_or (cells_from cells b k n) j 0 ≡ get_or cells (b + (k + j)) 0
cells_from_at cells b k zero j h = absurd (omega arith)
cells_from_at cells b k (suc n) zero h = rw (add-zero k)
cells_from_at cells b k (suc n) (suc j) h =
    let e : k + suc j ≡ k + 1 + j = omega arith in
    rw e (cells_from_at cells b (k + 1) n j (omega arith))

cells_from_length : (cells : List ℕ) (b k n : ℕ) → length (cells_from cells b k n) ≡ n
cells_from_length cells b k zero = refl
cells_from_length cells b k (suc n) = ap suc (cells_from_length cells b (k + 1) n)

pub row_at_length : (w : ℕ) (cells : List ℕ) (row : ℕ) → length (row_at w cells row) ≡ w
row_at_length w cells row = cells_from_length cells (row * w) 0 w

-- a cell of a row, by its place in the table
pub row_at_cell : (w : ℕ) (cells : List ℕ) (row k : ℕ) → k < w → get_or (row_at w cells row) k 0 ≡ get_or cells (row * w + k) 0
row_at_cell w cells row k h =
    let e : 0 + k ≡ k = omega arith in
    cells_from_at cells (row * w) 0 w k h ∙ ap (λ (n : ℕ). get_or cells (row * w + n) 0) e

-- rows are equal by their cells
row_equal : (w : ℕ) (l r : List ℕ) → length l ≡ w → length r ≡ w → ((k : ℕ) → k < w → get_or l k 0 ≡ get_or r k 0) → l ≡ r
row_equal w l r hl hr f = ext_get_or 0 l r (hl ∙ sym hr) (λ k h. f k (rw hl at h))

-- ---- where rows lie

-- the last cell of a row comes before the first of every later one
pub row_before : (w a b : ℕ) → a < b → a * w + w ≤ b * w
row_before w a b h =
    let l : suc a * w ≤ b * w = mul-le-mul_right w h in
    rw suc-mul at l

-- a whole row has room
pub row_room : (w : ℕ) (cells : List ℕ) (row : ℕ) → 0 < w → row < rows_of w cells → row * w + w ≤ length cells
row_room w cells row p h =
    let l : suc row * w ≤ length cells = (le-div_iff_mul-le p).0 h in
    rw suc-mul at l

-- ---- the rows one after the other

-- a row as a part of the table
part_row : (w : ℕ) (cells : List ℕ) (row : ℕ) → 0 < w → row < rows_of w cells → take w (drop (row * w) cells) ≡ row_at w cells row
part_row w cells row p h =
    let room = row_room w cells row p h in
    row_equal w (take w (drop (row * w) cells)) (row_at w cells row)
    (length-take w (drop (row * w) cells) ∙ omega (arith, length-drop (row * w) cells))
    (row_at_length w cells row)
    (λ k l. get_or-take w (drop (row * w) cells) k 0 l ∙ get_or-drop (row * w) cells k 0 ∙ sym (row_at_cell w cells row k l))

chunks_from : (w : ℕ) (cells : List ℕ) (row n k : ℕ) → 0 < w → n ≤ k → row + k ≤ rows_of w cells → take n (first_chunks w k (drop (row * w) cells)) ≡ map (row_at w cells) (range_with_len row n)
chunks_from w cells row zero k p l h = refl
chunks_from w cells row (suc n) zero p l h = absurd (omega arith)
chunks_from w cells row (suc n) (suc k) p l h =
    let next : drop w (drop (row * w) cells) ≡ drop ((row + 1) * w) cells = drop-drop w (row * w) cells ∙ ap (λ (m : ℕ). drop m cells) (omega (arith, suc-mul row w)) in
    rw (part_row w cells row p (omega arith), next, chunks_from w cells (row + 1) n k p (omega arith) (omega arith))

-- the first rows as parts of the table
pub chunks_are : (w : ℕ) (cells : List ℕ) (n : ℕ) → 0 < w → n ≤ rows_of w cells → take n (first_chunks w (rows_of w cells) cells) ≡ map (row_at w cells) (range_with_len 0 n)
chunks_are w cells n p h =
    let start : drop (0 * w) cells ≡ cells = ap (λ (m : ℕ). drop m cells) (zero-mul w) in
    rw start at (chunks_from w cells 0 n (rows_of w cells) p h (omega arith))

-- ---- put_row

module _ (w : ℕ) (cells : List ℕ) (row : ℕ) (fields : List ℕ) where
  pub put_there : row < rows_of w cells → put_row w cells row fields ≡ sets cells (row * w) fields
  unfolding put_row
  put_there h = rw (lt-ltb row (rows_of w cells) h)

  -- a row that is not there whole is not written
  pub put_nowhere : rows_of w cells ≤ row → put_row w cells row fields ≡ cells
  unfolding put_row
  put_nowhere h = rw (le-ltb row (rows_of w cells) h)

  -- a row that is written over as a part of the table
  pub put_part :
      (new : List ℕ) → 0 < w → row < rows_of w cells → new ≡ fields → length new ≡ length (take (row * w + w - row * w) (drop (row * w) cells))
      → put_mid (row * w) (row * w + w - row * w) cells new ≡ put_row w cells row fields
  put_part new p h e n =
      let room = row_room w cells row p h in
      let q : row * w + w - row * w ≡ w = omega arith in
      let k : length new ≡ w = n ∙ ap (λ (m : ℕ). length (take m (drop (row * w) cells))) q ∙ length-take w (drop (row * w) cells) ∙ omega (arith, length-drop (row * w) cells) in
      let m : row * w + length fields ≡ row * w + w = ap (λ (x : ℕ). row * w + x) (sym (ap length e) ∙ k) in
      ap (λ (z : List ℕ). take (row * w) cells ++ (new ++ z)) (Post-is (row * w) (row * w + w) cells (omega arith))
      ∙ ap (λ (z : List ℕ). take (row * w) cells ++ (z ++ drop (row * w + w) cells)) e
      ∙ sym (append_assoc (take (row * w) cells) fields (drop (row * w + w) cells))
      ∙ ap (λ (x : ℕ). (take (row * w) cells ++ fields) ++ drop x cells) (sym m)
      ∙ sym (sets-eq fields cells (row * w) (omega (arith, m, room)))
      ∙ sym (put_there h)

  by_place :
      (P : List ℕ → Type 0) → (row < rows_of w cells → P (sets cells (row * w) fields)) → P cells
      → P (put_row w cells row fields)
  by_place P written kept =
      either (ltb row (rows_of w cells))
      (λ e. let h = ltb-true row (rows_of w cells) e in rw (put_there h) (written h))
      (λ e. rw (put_nowhere (ltb-false row (rows_of w cells) e)) kept)

  pub length_put : length (put_row w cells row fields) ≡ length cells
  length_put = by_place (λ (l : List ℕ). length l ≡ length cells) (λ h. length-sets cells (row * w) fields) refl

  pub rows_put : rows_of w (put_row w cells row fields) ≡ rows_of w cells
  rows_put = ap (λ (n : ℕ). n / w) length_put

  -- cells outside the row stay
  pub cell_put_before : (j : ℕ) → j < row * w → get_or (put_row w cells row fields) j 0 ≡ get_or cells j 0
  cell_put_before j h =
      by_place (λ (l : List ℕ). get_or l j 0 ≡ get_or cells j 0) (λ t. sets_below fields cells (row * w) j h) refl

  pub cell_put_after : length fields ≡ w → (j : ℕ) → row * w + w ≤ j → get_or (put_row w cells row fields) j 0 ≡ get_or cells j 0
  cell_put_after e j h =
      by_place
      (λ (l : List ℕ). get_or l j 0 ≡ get_or cells j 0)
      (λ t. sets_above fields cells (row * w) j (rw e h))
      refl

  -- a cell of an unused row is never written: the row is below the count of the rows used
  pub cell_put_unused :
      length fields ≡ w → (used j : ℕ) → row < used → used * w ≤ j
      → get_or (put_row w cells row fields) j 0 ≡ get_or cells j 0
  cell_put_unused e used j h u = cell_put_after e j (omega (arith, row_before w row used h))

  -- a cell of the row is the field
  pub cell_put_same :
      length fields ≡ w → 0 < w → row < rows_of w cells → (k : ℕ) → k < w
      → get_or (put_row w cells row fields) (row * w + k) 0 ≡ get_or fields k 0
  cell_put_same e p h k l =
      rw (put_there h) (sets_in fields cells (row * w) k (rw e l) (rw e (row_room w cells row p h)))

  -- a cell of another row stays
  pub cell_put_other :
      length fields ≡ w → (other k : ℕ) → other ≢ row → k < w
      → get_or (put_row w cells row fields) (other * w + k) 0 ≡ get_or cells (other * w + k) 0
  cell_put_other e other k ne l =
      either (ltb other row)
      (λ b. cell_put_before (other * w + k) (omega (arith, row_before w other row (ltb-true other row b))))
      (λ b.
      let after : row < other = omega (arith, ltb-false other row b, ne) in
      cell_put_after e (other * w + k) (omega (arith, row_before w row other after)))

  -- the row reads as the fields, whatever they are
  pub row_at_put_same : length fields ≡ w → 0 < w → row < rows_of w cells → row_at w (put_row w cells row fields) row ≡ fields
  row_at_put_same e p h =
      row_equal w (row_at w (put_row w cells row fields) row) fields (row_at_length w (put_row w cells row fields) row) e
      (λ k l. row_at_cell w (put_row w cells row fields) row k l ∙ cell_put_same e p h k l)

  pub row_at_put_other :
      length fields ≡ w → (other : ℕ) → other ≢ row → row_at w (put_row w cells row fields) other ≡ row_at w cells other
  row_at_put_other e other ne =
      row_equal w (row_at w (put_row w cells row fields) other) (row_at w cells other)
      (row_at_length w (put_row w cells row fields) other)
      (row_at_length w cells other)
      (λ k l.
      row_at_cell w (put_row w cells row fields) other k l
      ∙ cell_put_other e other k ne l
      ∙ sym (row_at_cell w cells other k l))

-- ---- the two tables

module _ (cells : List ℕ) (row : ℕ) where
  pub mandate_at_put_same : (m : Mandate) → row < rows cells → mandate_at (put_mandate cells row m) row ≡ m
  unfolding mandate_at
  mandate_at_put_same m h = ap mandate_from (row_at_put_same stride cells row (mandate_cells m) refl (omega arith) h) ∙ mandate_from_cells m

  pub mandate_at_put_other :
      (m : Mandate) (other : ℕ) → other ≢ row → mandate_at (put_mandate cells row m) other ≡ mandate_at cells other
  unfolding mandate_at
  mandate_at_put_other m other ne = ap mandate_from (row_at_put_other stride cells row (mandate_cells m) refl other ne)

  pub collection_at_put_same : (c : Collection) → row < rows cells → collection_at (put_collection cells row c) row ≡ c
  unfolding collection_at
  collection_at_put_same c h =
      ap collection_from (row_at_put_same stride cells row (collection_cells c) refl (omega arith) h) ∙ collection_from_cells c

  pub collection_at_put_other :
      (c : Collection) (other : ℕ) → other ≢ row
      → collection_at (put_collection cells row c) other ≡ collection_at cells other
  unfolding collection_at
  collection_at_put_other c other ne = ap collection_from (row_at_put_other stride cells row (collection_cells c) refl other ne)
