-- An index followed. To cite: `index_holds`, which is `IndexHolds`; `indexed_made`, `indexed_kept`; for a loop
-- `follow_start`, `follow_none`, `follow_end`, `follow_hit`, `follow_next`. Assumes nothing.
use Rattle.std.proofs.Common.{None, Option, Some, ℕ}
use mathlib.Core.Path.{◌≡◌, refl, sym, ap, ◌∙◌}
use mathlib.Core.Bool.{true, false}
use mathlib.Core.List.{List}
use mathlib.Core.Logic.{◌≢◌, ⊎_elim}
use Prim.Native.Nat.{ℕ, zero, suc, ◌+◌, ◌-◌, ◌≤◌, ◌<◌}
use native.Mathlib.Nat.{eq-or-lt_of_le, le_of_suc-le-suc}
use native.Mathlib.Numerals.{add-one}
use native.Mathlib.Omega.{arith}
use borrow.Author.Tests.{ltb-true, ltb-false, eqb-true, eqb-false, eq-eqb, ne_eqb}
use lib.Dec.{ltb}
use lib.ListN.{get_or}
use Rattle.common.proofs.Tests.{either}
use Rattle.common.proofs.Walk.{cases_from}
use Rattle.tables.specs.Lookup.{number_at, number_is}
use Rattle.tables.proofs.Laws.Lookup.{Grown, lookup_since_lem}
use Rattle.index.specs.Index.{row_limit, slot_of, in_slot, marked, row_from, covered, index_of, next_row, follow, first_row, Indexed, IndexHolds}
use Rattle.index.specs.declared.Index.{Index}
use Rattle.index.proofs.Laws.Making.{index_slot, index_row, index_covered}

-- ---- the steps of a loop that follows

module _ (index : Index) (cells : List ℕ) (number : ℕ) where
  pub follow_start : (k : ℕ) → k ≡ get_or index.first (slot_of number) 0 → first_row index cells number ≡ follow index cells number row_limit k
  unfolding first_row
  follow_start k e = rw e

  -- no row is left
  pub follow_none : (left : ℕ) → follow index cells number left 0 ≡ index.covered
  unfolding follow
  follow_none zero = refl
  follow_none (suc left) = refl

  -- no turn is left
  pub follow_end : (k : ℕ) → follow index cells number 0 k ≡ index.covered
  unfolding follow
  follow_end k = refl

  module _ (left k : ℕ) (more : 0 < left) (there : 0 < k) where
    one_less : left ≡ suc (left - 1)
    one_less = omega arith

    pub follow_hit : number_at cells (k - 1) ≡ number → follow index cells number left k ≡ k - 1
    unfolding follow
    follow_hit e =
        ap (λ (n : ℕ). follow index cells number n k) one_less
        ∙ rw (ne_eqb k 0 (λ z. omega arith), eq-eqb (number_at cells (k - 1)) number e)

    pub follow_next : number_at cells (k - 1) ≢ number → follow index cells number left k ≡ follow index cells number (left - 1) (next_row index (k - 1))
    unfolding follow
    follow_next ne =
        ap (λ (n : ℕ). follow index cells number n k) one_less
        ∙ rw (ne_eqb k 0 (λ z. omega arith), ne_eqb (number_at cells (k - 1)) number ne)

-- ---- an index made of the first rows of a table

-- of a row that an index gives
pub record Passed (cells : List ℕ) (number n row : ℕ) : Type 0 where
  pub inside : row ≤ n
  pub none : (j : ℕ) → j < row → number_is cells number j ≡ false

module _ (table cells : List ℕ) (rows number : ℕ)
    (same : (row : ℕ) → row < covered table rows → number_at cells row ≡ number_at table row) where
  abbrev n : ℕ
  n = covered table rows

  abbrev index : Index
  index = index_of table rows

  -- a row of another slot has another number
  other_slot : (j : ℕ) → j < n → in_slot table (slot_of number) j ≡ false → number_is cells number j ≡ false
  other_slot j h f =
      ne_eqb (number_at cells j) number (λ e. eqb-false (slot_of (number_at table j)) (slot_of number) f (ap slot_of (sym (same j h) ∙ e)))

  -- none before i, and none of its slot from i up to q: none before q
  none_up : (i q : ℕ) → q ≤ n
      → ((j : ℕ) → j < i → number_is cells number j ≡ false)
      → ((j : ℕ) → i ≤ j → j < q → in_slot table (slot_of number) j ≡ false)
      → (j : ℕ) → j < q → number_is cells number j ≡ false
  none_up i q h below between j b =
      either (ltb j i) (λ e. below j (ltb-true j i e)) (λ e. other_slot j (omega arith) (between j (ltb-false j i e) b))

  none_left : (i : ℕ) → n ≤ i → ((j : ℕ) → j < i → number_is cells number j ≡ false) → Passed cells number n index.covered
  none_left i h below =
      rw (index_covered table rows) (record { inside = omega arith; none = λ j b. below j (omega arith) })

  -- from the first row of the slot from i on
  passed_from : (left i : ℕ) → n ≤ i + left
      → ((j : ℕ) → j < i → number_is cells number j ≡ false)
      → Passed cells number n (follow index cells number left (row_from table n (slot_of number) i))
  unfolding row_from
  passed_from zero i h below = rw (follow_end index cells number (row_from table n (slot_of number) i)) (none_left i (omega arith) below)
  passed_from (suc left) i h below =
      cases_from (in_slot table (slot_of number)) Some None
      (λ (f : Option ℕ). Passed cells number n (follow index cells number (suc left) (marked f)))
      i (n - i)
      (λ q lo hi own between.
      let b : q < n = omega arith in
      let up = none_up i q (omega arith) below between in
      either (number_is cells number q)
      (λ e. rw (hit_at left q (eqb-true (number_at cells q) number e)) (record { inside = omega arith; none = up }))
      (λ e.
      rw (next_at left q (eqb-false (number_at cells q) number e), next_is q b own)
      (passed_from left (q + 1) (omega arith) (λ j l. ⊎_elim (λ s. rw s e) (λ s. up j s) (eq-or-lt_of_le (le_of_suc-le-suc (rw (add-one q) at l)))))))
      (λ between.
      rw (follow_none index cells number (suc left))
      (none_left n (omega arith) (none_up i n (omega arith) below (λ j lo hi. between j lo (omega arith)))))
    where
      hit_at : (left q : ℕ) → number_at cells q ≡ number → follow index cells number (suc left) (q + 1) ≡ q
      hit_at left q e =
          let b : q + 1 - 1 ≡ q = omega arith in
          rw b at (follow_hit index cells number (suc left) (q + 1) (omega arith) (omega arith) (rw b e))

      next_at : (left q : ℕ) → number_at cells q ≢ number → follow index cells number (suc left) (q + 1) ≡ follow index cells number left (next_row index q)
      next_at left q ne =
          let b : q + 1 - 1 ≡ q = omega arith in
          let d : suc left - 1 ≡ left = omega arith in
          rw (b, d) at (follow_next index cells number (suc left) (q + 1) (omega arith) (omega arith) (rw b ne))

      next_is : (q : ℕ) → q < n → in_slot table (slot_of number) q ≡ true → next_row index q ≡ row_from table n (slot_of number) (q + 1)
      next_is q b own =
          index_row table rows q b
          ∙ ap (λ (s : ℕ). row_from table n s (q + 1)) (eqb-true (slot_of (number_at table q)) (slot_of number) own)

  pub first_passed : Passed cells number n (first_row index cells number)
  unfolding first_row
  first_passed =
      rw (index_slot table rows (slot_of number) (omega arith))
      (passed_from row_limit 0 (omega arith) (λ j b. absurd (omega arith)))

pub index_holds : IndexHolds
index_holds index cells used number d =
    rw d.made
    (let p = first_passed d.table cells d.rows number d.same in
    lookup_since_lem cells used number _ (omega (arith, p.inside, d.there)) p.none)

-- ---- what keeps it

pub indexed_made : (cells : List ℕ) (used : ℕ) → Indexed (index_of cells used) cells used
indexed_made cells used =
    record { table = cells; rows = used; made = refl; there = omega arith; same = λ row h. refl }

pub indexed_kept : (index : Index) (cells cells' : List ℕ) (used used' : ℕ) → Indexed index cells used → Grown cells used cells' used' → Indexed index cells' used'
indexed_kept index cells cells' used used' d g =
    record {
      table = d.table;
      rows = d.rows;
      made = d.made;
      there = omega (arith, d.there, g.there);
      same = λ row h. g.same row (omega (arith, d.there)) ∙ d.same row h;
    }
