-- Laws of specs/Lookup: a row that is found is the lowest used one of its number, rows passed over, and what a written row
-- does to a lookup.
-- To cite: `Lowest` with `lookup_at` and `lookup_made`, `lookup_used`, `lookup_lent`, `lookup_nothing`, `lookup_none`, `lookup_since_lem`, `lookup_put_kept`,
-- `lookup_put_next`, `Grown` with `grown_same`, `grown_put_kept` and `grown_put_next`, `mandate_at_number`, `collection_at_number`. Assumes nothing.
use Rattle.std.proofs.Common.{None, Option, Some, ℕ, map}
use Rattle.std.specs.Option.{option_map}
use Rattle.std.specs.Simd.{first_chunks}
use Rattle.std.specs.List.{find, range_with_len}
use mathlib.Core.Path.{◌≡◌, refl, sym, ◌∙◌, ap}
use mathlib.Core.Bool.{Bool, false, cond, ◌||◌}
use mathlib.Core.List.{List, [], ◌∷◌}
use mathlib.Core.Logic.{◌≢◌}
use Prim.Native.Nat.{ℕ, zero, suc, ◌+◌, ◌-◌, ◌*◌, ◌≤◌, ◌<◌}
use native.Mathlib.Nat.{add-zero, sub-zero}
use native.Mathlib.Numerals.{add-one}
use native.Mathlib.Omega.{arith}
use borrow.Author.Tests.{ltb-true, ltb-false, eqb-true, eqb-false}
use lib.Dec.{eqb, ltb}
use lib.ListN.{length, take, get_or}
use Rattle.common.specs.Walk.{first_from}
use Rattle.common.proofs.Tests.{either, any_of_at}
use Rattle.common.proofs.Walk.{first_from_miss, first_from_cases, first_from_more, first_from_same, first_from_through}
use Rattle.tables.specs.Limits.{stride}
use Rattle.tables.specs.Records.{mandate_from, collection_from}
use Rattle.tables.specs.Rows.{rows, row_at, put_row, mandate_at, collection_at}
use Rattle.tables.specs.Lookup.{number_at, number_is, existing, lookup, lookup_since, MayStart}
use Rattle.tables.proofs.Laws.Rows.{chunks_are, rows_put, cell_put_same, cell_put_other}

-- ---- existing

module _ (cells : List ℕ) (used : ℕ) where
  existing_cases :
      (P : ℕ → Type 0) → (used < rows cells → P used) → (rows cells ≤ used → P (rows cells)) → P (existing cells used)
  existing_cases P low high =
      either (ltb used (rows cells))
      (λ e. rw e (low (ltb-true used (rows cells) e)))
      (λ e. rw e (high (ltb-false used (rows cells) e)))

  pub existing_used : existing cells used ≤ used
  existing_used = existing_cases (λ (n : ℕ). n ≤ used) (λ h. omega arith) (λ h. h)

  pub existing_rows : existing cells used ≤ rows cells
  existing_rows = existing_cases (λ (n : ℕ). n ≤ rows cells) (λ h. omega arith) (λ h. omega arith)

  -- no more rows used than lent: each of them exists
  pub existing_fit : used ≤ rows cells → existing cells used ≡ used
  existing_fit l = existing_cases (λ (n : ℕ). n ≡ used) (λ h. refl) (λ h. omega arith)

  -- the used rows that there are, as parts of the table
  pub rows_used : take (existing cells used) (first_chunks stride (rows cells) cells) ≡ map (row_at stride cells) (range_with_len 0 (existing cells used))
  rows_used = chunks_are stride cells (existing cells used) (omega arith) existing_rows

-- one row more
existing_more : (cells : List ℕ) (used : ℕ) → existing cells used ≤ existing cells (used + 1)
existing_more cells used =
    existing_cases cells (used + 1)
    (λ (n : ℕ). existing cells used ≤ n)
    (λ h. omega (arith, existing_used cells used))
    (λ h. existing_rows cells used)

-- ---- lookup

-- the row is the lowest used one of the number
pub record Lowest (cells : List ℕ) (used number row : ℕ) : Type 0 where
  pub existing_row : row < existing cells used
  pub number_row : number_at cells row ≡ number
  pub none_below : (j : ℕ) → j < row → number_at cells j ≢ number

module _ (cells : List ℕ) (used number : ℕ) where
  pub lookup_cases :
      (P : Option ℕ → Type 0) → ((row : ℕ) → Lowest cells used number row → P (Some row))
      → (((j : ℕ) → j < existing cells used → number_at cells j ≢ number) → P None) → P (lookup cells used number)
  unfolding lookup
  lookup_cases P found none =
      first_from_cases (number_is cells number) Some None P (existing cells used)
      (λ k h e below.
      found k
      (record {
        existing_row = h;
        number_row = eqb-true (number_at cells k) number e;
        none_below = λ j l. eqb-false (number_at cells j) number (below j l);
      }))
      (λ below. none (λ j l. eqb-false (number_at cells j) number (below j l)))

  -- the lookup is the walk over the used rows that there are
  pub lookup_walk : (n : ℕ) → n ≡ existing cells used → first_from (number_is cells number) Some None 0 n ≡ lookup cells used number
  unfolding lookup
  lookup_walk n e = rw e

  pub lookup_at : (row : ℕ) → lookup cells used number ≡ Some row → Lowest cells used number row
  lookup_at row =
      lookup_cases (λ (f : Option ℕ). f ≡ Some row → Lowest cells used number row)
      (λ k low e. let s : k ≡ row = cc in rw (← s) low)
      (λ none e. absurd cc)

  -- a row that is found is a used one, and lent
  pub lookup_used : (row : ℕ) → lookup cells used number ≡ Some row → row < used
  lookup_used row e = omega (arith, (lookup_at row e).existing_row, existing_used cells used)

  pub lookup_lent : (row : ℕ) → lookup cells used number ≡ Some row → row < rows cells
  lookup_lent row e = omega (arith, (lookup_at row e).existing_row, existing_rows cells used)

  pub lookup_nothing : lookup cells used number ≡ None → (j : ℕ) → j < existing cells used → number_at cells j ≢ number
  lookup_nothing =
      lookup_cases
      (λ (f : Option ℕ). f ≡ None → (j : ℕ) → j < existing cells used → number_at cells j ≢ number)
      (λ k low e. absurd cc)
      (λ none e. none)

  pub lookup_made : (row : ℕ) → Lowest cells used number row → lookup cells used number ≡ Some row
  lookup_made row r =
      lookup_cases (λ (f : Option ℕ). f ≡ Some row)
      (λ k low. ap Some (one_row k low))
      (λ none. absurd (none row r.existing_row r.number_row))
    where
      one_row : (k : ℕ) → Lowest cells used number k → k ≡ row
      one_row k low =
          either (ltb k row) (λ e. absurd (r.none_below k (ltb-true k row e) low.number_row))
          (λ e.
          either (ltb row k) (λ b. absurd (low.none_below row (ltb-true row k b) r.number_row))
          (λ b. omega (arith, ltb-false k row e, ltb-false row k b)))

  pub lookup_none : ((j : ℕ) → j < existing cells used → number_at cells j ≢ number) → lookup cells used number ≡ None
  lookup_none none =
      lookup_cases
      (λ (f : Option ℕ). f ≡ None)
      (λ k low. absurd (none k low.existing_row low.number_row))
      (λ n. refl)

-- ---- rows passed over

module _ (cells : List ℕ) (number : ℕ) where
  abbrev four_rows : ℕ → List Bool
  four_rows row = number_is cells number row ∷ number_is cells number (row + 1) ∷ number_is cells number (row + 2) ∷ number_is cells number (row + 3) ∷ []

  -- whether one of the four rows from a row on has the number
  abbrev four_have : ℕ → Bool
  four_have row = ((number_is cells number row || number_is cells number (row + 1)) || number_is cells number (row + 2)) || number_is cells number (row + 3)

  pub four_miss : (row : ℕ) (r : Bool) → r ≡ four_have row → r ≡ false → (k : ℕ) → k < 4 → number_is cells number (row + k) ≡ false
  four_miss row r p e zero h = rw (add-zero row) (any_of_at (four_rows row) 0 (sym p ∙ e))
  four_miss row r p e (suc zero) h = any_of_at (four_rows row) 1 (sym p ∙ e)
  four_miss row r p e (suc (suc zero)) h = any_of_at (four_rows row) 2 (sym p ∙ e)
  four_miss row r p e (suc (suc (suc zero))) h = any_of_at (four_rows row) 3 (sym p ∙ e)
  four_miss row r p e (suc (suc (suc (suc k)))) h = absurd (omega arith)

  -- rows in a line without the number: the walk goes on behind them
  pub walk_past :
      (i n count : ℕ) → i + count ≤ n → ((k : ℕ) → k < count → number_is cells number (i + k) ≡ false)
      → first_from (number_is cells number) Some None i (n - i) ≡ first_from (number_is cells number) Some None (i + count) (n - (i + count))
  walk_past i n zero h f = rw (add-zero i)
  walk_past i n (suc count) h f =
      let e : i + 1 + count ≡ i + suc count = omega arith in
      let next : (k : ℕ) → i + 1 + k ≡ i + suc k = λ k. omega arith in
      first_from_miss (number_is cells number) Some None i n (omega arith) (rw (add-zero i) at (f 0 (omega arith)))
      ∙ rw e at (walk_past (i + 1) n count (omega arith) (λ k l. rw (next k) (f (suc k) (omega arith))))

  -- four rows and four more, each four by a test of their own
  pub walk_past_eight :
      (a b : Bool) (i n : ℕ) → i + 8 ≤ n → a || b ≡ false
      → (a ≡ false → (k : ℕ) → k < 4 → number_is cells number (i + k) ≡ false)
      → (b ≡ false → (k : ℕ) → k < 4 → number_is cells number (i + 4 + k) ≡ false)
      → first_from (number_is cells number) Some None i (n - i) ≡ first_from (number_is cells number) Some None (i + 8) (n - (i + 8))
  walk_past_eight a b i n h none f g =
      let e : i + 4 + 4 ≡ i + 8 = omega arith in
      walk_past i n 4 (omega arith) (f (any_of_at (a ∷ b ∷ []) 0 none))
      ∙ rw e at (walk_past (i + 4) n 4 (omega arith) (g (any_of_at (a ∷ b ∷ []) 1 none)))

-- ---- a lookup from a row on

module _ (cells : List ℕ) (used number : ℕ) where
  -- the walk from a row on, over the used rows that there are
  pub since_walk : (since n : ℕ) → n ≡ existing cells used → first_from (number_is cells number) Some None since (n - since) ≡ lookup_since cells used number since
  unfolding lookup_since
  since_walk since n e = rw e

  pub lookup_since_first : MayStart cells used number 0
  unfolding lookup_since lookup
  lookup_since_first = rw (sub-zero (existing cells used))

  -- no row before it has the number: the lookup may begin there
  pub lookup_since_lem : (since : ℕ) → since ≤ existing cells used → ((j : ℕ) → j < since → number_is cells number j ≡ false) → MayStart cells used number since
  unfolding lookup_since
  lookup_since_lem since h none =
      let z : 0 + since ≡ since = omega arith in
      let a : (k : ℕ) → 0 + k ≡ k = λ k. omega arith in
      sym (rw z at (walk_past cells number 0 (existing cells used) since (omega arith) (λ k l. rw (a k) (none k l))))
      ∙ rw (sub-zero (existing cells used)) (lookup_walk cells used number (existing cells used) refl)

-- ---- a row's number in its record

pub mandate_at_number : (cells : List ℕ) (row : ℕ) → (mandate_at cells row).number ≡ number_at cells row
unfolding mandate_at mandate_from
mandate_at_number cells row = rw (add-zero (row * stride))

pub collection_at_number : (cells : List ℕ) (row : ℕ) → (collection_at cells row).number ≡ number_at cells row
unfolding collection_at collection_from
collection_at_number cells row = rw (add-zero (row * stride))

-- ---- rows that stay

-- every used row is still there, with its number; there may be more
pub record Grown (cells : List ℕ) (used : ℕ) (cells' : List ℕ) (used' : ℕ) : Type 0 where
  pub there : existing cells used ≤ existing cells' used'
  pub same : (row : ℕ) → row < existing cells used → number_at cells' row ≡ number_at cells row

pub grown_same : (cells : List ℕ) (used : ℕ) → Grown cells used cells used
grown_same cells used = record { there = omega arith; same = λ row h. refl }

-- ---- lookup after a row is written

-- the first answer, or else the second
abbrev pub or_else : Option ℕ → Option ℕ → Option ℕ
or_else (Some row) other = Some row
or_else None other = other

module _ (cells : List ℕ) (row : ℕ) (fields : List ℕ) (e : length fields ≡ stride) where
  first_cell : (r : ℕ) → r * stride + 0 ≡ r * stride
  first_cell r = add-zero (r * stride)

  pub number_at_put_same : row < rows cells → number_at (put_row stride cells row fields) row ≡ get_or fields 0 0
  number_at_put_same h = rw first_cell at (cell_put_same stride cells row fields e (omega arith) h 0 (omega arith))

  pub number_at_put_other : (other : ℕ) → other ≢ row → number_at (put_row stride cells row fields) other ≡ number_at cells other
  number_at_put_other other ne = rw first_cell at (cell_put_other stride cells row fields e other 0 ne (omega arith))

  pub number_at_put_kept :
      row < rows cells → get_or fields 0 0 ≡ number_at cells row → (j : ℕ)
      → number_at (put_row stride cells row fields) j ≡ number_at cells j
  number_at_put_kept h s j =
      either (eqb j row)
      (λ q. let p = eqb-true j row q in rw p (number_at_put_same h ∙ s))
      (λ q. number_at_put_other j (eqb-false j row q))

  -- a row that keeps its number: every lookup stays
  pub lookup_put_kept :
      row < rows cells → get_or fields 0 0 ≡ number_at cells row → (used number : ℕ)
      → lookup (put_row stride cells row fields) used number ≡ lookup cells used number
  unfolding lookup
  lookup_put_kept h s used number =
      rw (rows_put stride cells row fields)
      (first_from_same (number_is (put_row stride cells row fields) number) (number_is cells number) Some None (existing cells used)
      (λ k l. ap (λ (n : ℕ). eqb n number) (number_at_put_kept h s k)))

  -- every row stays
  pub grown_put_kept : row < rows cells → get_or fields 0 0 ≡ number_at cells row → (used : ℕ) → Grown cells used (put_row stride cells row fields) used
  grown_put_kept h s used =
      record { there = rw (rows_put stride cells row fields) (omega arith); same = λ j l. number_at_put_kept h s j }

  -- the next row
  pub grown_put_next : Grown cells row (put_row stride cells row fields) (row + 1)
  grown_put_next =
      record {
        there = rw (rows_put stride cells row fields) (existing_more cells row);
        same = λ j l. number_at_put_other j (λ e. omega (arith, existing_used cells row));
      }

  -- a row at the next place: the lookup goes on there
  pub lookup_put_next :
      row < rows cells → (number : ℕ)
      → lookup (put_row stride cells row fields) (row + 1) number ≡ or_else (lookup cells row number) (cond (eqb (get_or fields 0 0) number) (Some row) None)
  unfolding lookup
  lookup_put_next h number =
      let room : row + 1 ≤ rows (put_row stride cells row fields) = rw (rows_put stride cells row fields) (omega arith) in
      let last : Option ℕ = cond (eqb (get_or fields 0 0) number) (Some row) None in
      let t : ℕ → Bool = number_is (put_row stride cells row fields) number in
      let zero_row : 0 + row ≡ row = omega arith in
      ap (λ (n : ℕ). first_from t Some None 0 n) (existing_fit (put_row stride cells row fields) (row + 1) room ∙ add-one row)
      ∙ first_from_more t Some None 0 row
      ∙ rw (zero_row, number_at_put_same h)
      (first_from_same t (number_is cells number) Some last row
      (λ k l. ap (λ (n : ℕ). eqb n number) (number_at_put_other k (λ s. omega arith))))
      ∙ sym (first_from_through (λ (f : Option ℕ). or_else f last) (number_is cells number) Some None 0 row)
      ∙ ap (λ (n : ℕ). or_else (first_from (number_is cells number) Some None 0 n) last) (sym (existing_fit cells row (omega arith)))

-- ---- a search of a range by an iterator's `find`

first_of_range : (t : ℕ → Bool) (i n : ℕ) → find t (range_with_len i n) ≡ first_from t Some None i n
unfolding first_from
first_of_range t i zero = refl
first_of_range t i (suc n) = ap (λ (r : Option ℕ). cond (t i) (Some i) r) (first_of_range t (i + 1) n)

pub found_in_range : (t : ℕ → Bool) (i n : ℕ) (r : Option ℕ) → option_map (λ x. x) r ≡ find t (range_with_len i n) → r ≡ first_from t Some None i n
found_in_range t i n None e = e ∙ first_of_range t i n
found_in_range t i n (Some x) e = e ∙ first_of_range t i n
