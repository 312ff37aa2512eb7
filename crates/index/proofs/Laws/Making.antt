-- An index made from the last row that it covers to the first. To cite: `Linked` with `linked_start`, `linked_row`,
-- `linked_end`; of what stands in an index `index_slot`, `index_row`, `index_covered`. Assumes nothing.
use Rattle.std.proofs.Common.{map}
use Rattle.std.specs.List.{range_with_len}
use Rattle.std.proofs.lemmas.List.FromFn.{get_or-map-range_with_len, fill_by_all}
use mathlib.Core.Path.{◌≡◌, refl, sym, ap, ◌∙◌}
use mathlib.Core.List.{List, ◌∷◌}
use mathlib.Core.Logic.{◌≢◌}
use Prim.Native.Nat.{ℕ, zero, suc, ◌+◌, ◌≤◌, ◌<◌}
use native.Mathlib.Nat.{zero-add}
use native.Mathlib.Omega.{arith}
use borrow.Author.Tests.{lt-ltb, ltb-true, ltb-false, eqb-true, eqb-false, eq-eqb, ne_eqb}
use lib.Dec.{eqb, ltb}
use lib.ListN.{length, get_or, set, replicate, length-set, length-replicate, get_or-replicate}
use lib.Seq.{get_or-set_same, get_or-set_other}
use Rattle.common.proofs.Tests.{either}
use Rattle.common.proofs.Walk.{first_from_hit, first_from_miss, first_from_end}
use Rattle.tables.specs.Lookup.{number_at}
use Rattle.index.specs.Index.{slots, row_limit, slot_of, in_slot, row_from, next_from, values_from, covered, index_of}

-- ---- a list of values

values_map : (f : ℕ → ℕ) (i n : ℕ) → values_from f i n ≡ map f (range_with_len i n)
unfolding values_from
values_map f i zero = refl
values_map f i (suc n) = ap (λ (l : List ℕ). f i ∷ l) (values_map f (i + 1) n)

values_are : (f : ℕ → ℕ) (n k : ℕ) → k < n → get_or (values_from f 0 n) k 0 ≡ f k
values_are f n k h = rw values_map (get_or-map-range_with_len f 0 n k k 0 h (zero-add k))

-- a list that has f at each of its places
is_values : (f : ℕ → ℕ) (n : ℕ) (l : List ℕ) → length l ≡ n → ((k : ℕ) → k < n → get_or l k 0 ≡ f k) → l ≡ values_from f 0 n
is_values f n l long at = rw values_map (fill_by_all f l n 0 long at)

-- ---- what stands in an index

module _ (cells : List ℕ) (used : ℕ) where
  -- the first row of a slot
  pub index_slot : (s : ℕ) → s < slots → get_or (index_of cells used).first s 0 ≡ row_from cells (covered cells used) s 0
  unfolding index_of
  index_slot s h = values_are (λ slot. row_from cells (covered cells used) slot 0) slots s h

  -- the next row of a row's slot
  pub index_row : (row : ℕ) → row < covered cells used → get_or (index_of cells used).next row 0 ≡ row_from cells (covered cells used) (slot_of (number_at cells row)) (row + 1)
  unfolding index_of next_from
  index_row row h = values_are (next_from cells (covered cells used)) row_limit row (omega arith) ∙ rw (lt-ltb row (covered cells used) h)

  pub index_covered : (index_of cells used).covered ≡ covered cells used
  unfolding index_of
  index_covered = refl

-- ---- made row by row

-- the rows from i on are linked
pub record Linked (cells : List ℕ) (n i : ℕ) (first next : List ℕ) : Type 0 where
  pub slots_long : length first ≡ slots
  pub rows_long : length next ≡ row_limit
  pub inside : i ≤ n
  pub slot : (s : ℕ) → s < slots → get_or first s 0 ≡ row_from cells n s i
  pub row : (r : ℕ) → i ≤ r → r < n → get_or next r 0 ≡ row_from cells n (slot_of (number_at cells r)) (r + 1)
  pub after : (r : ℕ) → n ≤ r → r < row_limit → get_or next r 0 ≡ 0

module _ (cells : List ℕ) (n : ℕ) (few : n ≤ row_limit) where
  pub linked_start : Linked cells n n (replicate slots 0) (replicate row_limit 0)
  unfolding row_from
  linked_start =
      record {
        slots_long = length-replicate {A = ℕ} slots 0;
        rows_long = length-replicate {A = ℕ} row_limit 0;
        inside = omega arith;
        slot = λ s h. get_or-replicate {A = ℕ} slots s 0 0 h ∙ sym (rw (first_from_end (in_slot cells s) _ _ n n (omega arith)));
        row = λ r h k. absurd (omega arith);
        after = λ r h k. get_or-replicate {A = ℕ} row_limit r 0 0 k;
      }

  -- the row q, the one before those that are linked
  module _ (q : ℕ) (first next : List ℕ) (l : Linked cells n (q + 1) first next) where
    abbrev mine : ℕ
    mine = slot_of (number_at cells q)

    pub linked_row : mine < slots → Linked cells n q (set first mine (q + 1)) (set next q (get_or first mine 0))
    unfolding row_from
    linked_row h =
        record {
          slots_long = length-set first mine (q + 1) ∙ l.slots_long;
          rows_long = length-set next q (get_or first mine 0) ∙ l.rows_long;
          inside = omega (arith, l.inside);
          slot = λ s b. either (eqb s mine) (λ e. own s (eqb-true s mine e)) (λ e. other s b (eqb-false s mine e));
          row =
              λ r lo hi.
              either (eqb r q)
              (λ e. let p = eqb-true r q e in rw p own_row)
              (λ e. get_or-set_other next q r _ 0 (eqb-false r q e) ∙ l.row r (omega (arith, eqb-false r q e)) hi);
          after = λ r b c. get_or-set_other next q r _ 0 (λ e. omega (arith, l.inside)) ∙ l.after r b c;
        }
      where
        own_row : get_or (set next q (get_or first mine 0)) q 0 ≡ row_from cells n mine (q + 1)
        own_row = get_or-set_same next q (get_or first mine 0) 0 (omega (arith, l.rows_long, l.inside)) ∙ l.slot mine h

        own : (s : ℕ) → s ≡ mine → get_or (set first mine (q + 1)) s 0 ≡ row_from cells n s q
        own s e =
            rw e
            (get_or-set_same first mine (q + 1) 0 (omega (arith, l.slots_long))
            ∙ sym (rw (first_from_hit (in_slot cells mine) _ _ q n (omega (arith, l.inside)) (eq-eqb mine mine refl))))

        other : (s : ℕ) → s < slots → s ≢ mine → get_or (set first mine (q + 1)) s 0 ≡ row_from cells n s q
        other s b ne =
            get_or-set_other first mine s (q + 1) 0 ne
            ∙ l.slot s b
            ∙ sym (rw (first_from_miss (in_slot cells s) _ _ q n (omega (arith, l.inside)) (ne_eqb mine s (λ e. ne (sym e)))))

-- all rows are linked
pub linked_end : (cells : List ℕ) (used : ℕ) (first next : List ℕ)
    → Linked cells (covered cells used) 0 first next
    → record { first = first; next = next; covered = covered cells used } ≡ index_of cells used
unfolding index_of next_from
linked_end cells used first next l =
    let n = covered cells used in
    let f : first ≡ values_from (λ slot. row_from cells n slot 0) 0 slots = is_values (λ slot. row_from cells n slot 0) slots first l.slots_long l.slot in
    let g : next ≡ values_from (next_from cells n) 0 row_limit =
    is_values (next_from cells n) row_limit next l.rows_long
    (λ r h.
    either (ltb r n)
    (λ e. rw e (l.row r (omega arith) (ltb-true r n e)))
    (λ e. rw e (l.after r (ltb-false r n e) h))) in
    rw (f, g)
