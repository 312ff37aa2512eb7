-- What the rows have moved, summed row by row by the tags of their states. To cite: `tag_small`, `sum_by_rows`, `sum_small`.
-- Assumes nothing.
use Rattle.std.proofs.Common.{map}
use Rattle.std.specs.List.{sum_by, range_with_len}
use Rattle.std.proofs.lemmas.List.FromFn.{sum_by-map-range_with_len_more}
use mathlib.Core.Path.{◌≡◌, refl, sym, ap, ◌∙◌}
use mathlib.Core.Bool.{Bool, true, false, cond}
use mathlib.Core.List.{List, []}
use Prim.Native.Nat.{ℕ, zero, suc, ◌*◌, ◌^◌, ◌≤◌, ◌<◌}
use native.Mathlib.Numerals.{add-one}
use native.Mathlib.Omega.{arith}
use borrow.Author.Tests.{lt-leb, ne_eqb}
use lib.Dec.{eqb}
use lib.IntN.{pos}
use lib.ListN.{get_or}
use Rattle.common.specs.Limits.{collection_row_limit}
use Rattle.positions.specs.Limits.{row_move}
use Rattle.tables.specs.declared.State.TheVariants.{Undone}
use Rattle.tables.specs.declared.Undoing.TheVariants.{Return, Refund, Reversal}
use Rattle.tables.specs.Limits.{stride}
use Rattle.tables.specs.CollectionColumn
use Rattle.tables.specs.Records.{state_of, collection_from}
use Rattle.tables.specs.Rows.{row_at, collection_at}
use Rattle.tables.specs.Ledger.{Ledger}
use Rattle.model.specs.Bounds.{sum_rows, moved, moved_at, spent}
use Rattle.model.proofs.Laws.Spent.{spent_limit}
use Rattle.safety.specs.Safety.{tag_moved}

-- no row has moved more
pub tag_small : (tag : ℕ) → tag_moved tag ≤ row_move
tag_small zero = omega arith
tag_small (suc zero) = omega arith
tag_small (suc (suc zero)) = omega arith
tag_small (suc (suc (suc n))) = rw (lt-leb (suc (suc (suc n))) 1 (omega arith), lt-leb (suc (suc (suc n))) 2 (omega arith)) (omega arith)

-- however a row was undone
undone_moved : (a b : Bool) (day : ℕ) → moved (cond a (Undone day Return) (cond b (Undone day Refund) (Undone day Reversal))) ≡ row_move
undone_moved true b day = refl
undone_moved false true day = refl
undone_moved false false day = refl

-- the tag of a state says what its row has moved
moved_state : (tag day : ℕ) → moved (state_of tag day) ≡ tag_moved tag
moved_state zero day = refl
moved_state (suc zero) day = refl
moved_state (suc (suc zero)) day = refl
moved_state (suc (suc (suc n))) day =
    let tag = suc (suc (suc n)) in
    rw (
      ne_eqb tag 0 (λ e. omega arith),
      ne_eqb tag 1 (λ e. omega arith),
      ne_eqb tag 2 (λ e. omega arith),
      lt-leb tag 1 (omega arith),
      lt-leb tag 2 (omega arith),
    )
    (undone_moved (eqb tag 3) (eqb tag 4) day)

abbrev row_moved : List ℕ → ℕ
row_moved fields = tag_moved (get_or fields CollectionColumn.state 0)

module _ (cells : List ℕ) where
  tag_moved_lem : (row : ℕ) → tag_moved (get_or (row_at stride cells row) CollectionColumn.state 0) ≡ moved_at cells row
  unfolding collection_at collection_from
  tag_moved_lem row = sym (moved_state (get_or (row_at stride cells row) CollectionColumn.state 0) (get_or (row_at stride cells row) CollectionColumn.day 0))

  -- the rows one after the other
  pub sum_by_rows : (n : ℕ) → sum_by (λ fields. tag_moved (get_or fields CollectionColumn.state 0)) (map (row_at stride cells) (range_with_len 0 n)) ≡ sum_rows (moved_at cells) n
  unfolding sum_rows
  sum_by_rows zero = refl
  sum_by_rows (suc n) =
      ap (λ (m : ℕ). sum_by row_moved (map (row_at stride cells) (range_with_len 0 m))) (sym (add-one n))
      ∙ sum_by-map-range_with_len_more row_moved (row_at stride cells) 0 n n (omega arith)
      ∙ rw (sum_by_rows n, tag_moved_lem n)

  -- the tables of which only the collections count
  of_rows : ℕ → Ledger
  of_rows used =
      record {
        latest = 0;
        mandates_used = 0;
        collections_used = used;
        compensation = pos 0;
        mandates = [];
        collections = cells;
        creditors = [];
        creditor_positions = [];
        debtor_positions = [];
        bank_positions = [];
      }

  sum_limit : (used : ℕ) → sum_rows (moved_at cells) used ≤ used * row_move
  unfolding spent of_rows
  sum_limit used = spent_limit (of_rows used)

  -- the rows that may be lent move less than 64 bits hold, signed too
  pub sum_small : (used : ℕ) → used ≤ collection_row_limit → sum_rows (moved_at cells) used < 2 ^ 63
  sum_small used h = omega (arith, sum_limit used)
