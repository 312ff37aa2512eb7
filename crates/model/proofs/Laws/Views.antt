-- What is known under a number, after a row is written: the row that was found, or the next one.
-- To cite: `mandate_of_keep`, `mandate_of_add`, `collection_of_keep`, `collection_of_add`; `mandate_row`, `collection_row` (the row of what is known).
-- Assumes nothing.
use Rattle.std.proofs.Common.{None, Option, Some, ℕ}
use mathlib.Core.Path.{◌≡◌, refl, sym, ap, ◌∙◌}
use mathlib.Core.Bool.{Bool, false, cond}
use mathlib.Core.Logic.{◌≢◌}
use mathlib.Core.List.{List}
use Prim.Native.Nat.{ℕ, ◌+◌, ◌<◌}
use native.Mathlib.Omega.{arith}
use lib.Dec.{eqb}
use lib.ListN.{length, get_or}
use borrow.Author.Tests.{eqb-true, eqb-false, eq-eqb, ne_eqb}
use Rattle.common.proofs.Tests.{either}
use Rattle.tables.specs.Limits.{stride}
use Rattle.tables.specs.Ledger.{Ledger}
use Rattle.tables.specs.Lookup.{lookup, number_at}
use Rattle.tables.specs.Records.{mandate_cells, collection_cells}
use Rattle.tables.specs.Rows.{rows, put_row, mandate_at, collection_at}
use Rattle.tables.specs.declared.Mandate.{Mandate}
use Rattle.tables.specs.declared.Collection.{Collection}
use Rattle.tables.proofs.Laws.Lookup.{lookup_at, existing_rows, existing_used, or_else, lookup_put_kept, lookup_put_next}
use Rattle.tables.proofs.Laws.Rows.{mandate_at_put_same, mandate_at_put_other, collection_at_put_same, collection_at_put_other}
use Rattle.model.specs.Lookups.{in_row, mandate_of, collection_of}
use Rattle.model.specs.Lookups.Known.{unknown, known}
use Rattle.model.specs.Effects.{keep_mandate, add_mandate, keep_collection, add_collection}

-- ---- any table: `at` reads a row

module _ {A : Type 0} (at : List ℕ → ℕ → A) (cells : List ℕ) (used n : ℕ) where
  -- the row that was found, and what stands in it
  pub record Held (a : A) : Type 0 where
    pub row : ℕ
    pub found : lookup cells used n ≡ Some row
    pub is : a ≡ at cells row
    pub used_row_lem : row < used
    pub lent_row : row < rows cells

  held_case : (f : Option ℕ) → lookup cells used n ≡ f → (a : A) → in_row f (at cells) ≡ known a → Held a
  held_case None e a k = absurd cc
  held_case (Some row) e a k =
      let low = (lookup_at cells used n row e).existing_row in
      record {
        row = row;
        found = e;
        is = cc;
        used_row_lem = omega (arith, existing_used cells used);
        lent_row = omega (arith, existing_rows cells used);
      }

  pub held : (a : A) → in_row (lookup cells used n) (at cells) ≡ known a → Held a
  held a k = held_case (lookup cells used n) refl a k

  nothing_case : (f : Option ℕ) → in_row f (at cells) ≡ unknown → f ≡ None
  nothing_case None e = refl
  nothing_case (Some row) e = absurd cc

  pub nothing_held : in_row (lookup cells used n) (at cells) ≡ unknown → lookup cells used n ≡ None
  nothing_held e = nothing_case (lookup cells used n) e

  -- after a row with a number is written
  module _ (row : ℕ) (fields : List ℕ) (len : length fields ≡ stride) (number : get_or fields 0 0 ≡ n) (a : A)
      (same : at (put_row stride cells row fields) row ≡ a)
      (other : (r : ℕ) → r ≢ row → at (put_row stride cells row fields) r ≡ at cells r) where
    -- another number is found where it was
    elsewhere : (k : ℕ) (f : Option ℕ) → ((r : ℕ) → f ≡ Some r → r ≢ row) → in_row f (at (put_row stride cells row fields)) ≡ in_row f (at cells)
    elsewhere k None d = refl
    elsewhere k (Some r) d = ap known (other r (d r refl))

    kept : lookup cells used n ≡ Some row → (k : ℕ) → in_row (lookup (put_row stride cells row fields) used k) (at (put_row stride cells row fields)) ≡ cond (eqb k n) (known a) (in_row (lookup cells used k) (at cells))
    kept e k =
        let low = lookup_at cells used n row e in
        let lent : row < rows cells = omega (arith, low.existing_row, existing_rows cells used) in
        let same-lookup = lookup_put_kept cells row fields len lent (number ∙ sym low.number_row) used k in
        either (eqb k n)
        (λ q.
        let p = eqb-true k n q in
        rw (same-lookup, p, e, eq-eqb n n refl) (ap known same))
        (λ q.
        let p = eqb-false k n q in
        rw (same-lookup, q)
        (elsewhere k (lookup cells used k)
        (λ r f i. p (sym (lookup_at cells used k r f).number_row ∙ ap (number_at cells) i ∙ low.number_row))))

  -- after the next row is written
  module _ (fields : List ℕ) (len : length fields ≡ stride) (number : get_or fields 0 0 ≡ n) (a : A)
      (same : at (put_row stride cells used fields) used ≡ a)
      (other : (r : ℕ) → r ≢ used → at (put_row stride cells used fields) r ≡ at cells r) where
    next_case : (k : ℕ) (f : Option ℕ) → lookup cells used k ≡ f → eqb k n ≡ false → in_row (or_else f (cond (eqb n k) (Some used) None)) (at (put_row stride cells used fields)) ≡ in_row f (at cells)
    next_case k None e q = let p = eqb-false k n q in rw (ne_eqb n k (λ i. p (sym i)))
    next_case k (Some r) e q =
        let low = (lookup_at cells used k r e).existing_row in
        ap known (other r (λ i. omega (arith, existing_used cells used)))

    next : used < rows cells → lookup cells used n ≡ None → (k : ℕ) → in_row (lookup (put_row stride cells used fields) (used + 1) k) (at (put_row stride cells used fields)) ≡ cond (eqb k n) (known a) (in_row (lookup cells used k) (at cells))
    next lent e k =
        let there = lookup_put_next cells used fields len lent k in
        either (eqb k n)
        (λ q.
        let p = eqb-true k n q in
        rw (there, p, e, number, eq-eqb n n refl) (ap known same))
        (λ q.
        rw (there, number)
        (next_case k (lookup cells used k) refl q
        ∙ sym (ap (λ (b : Bool). cond b (known a) (in_row (lookup cells used k) (at cells))) q)))

-- ---- the two tables of a ledger

module _ (l : Ledger) (n : ℕ) where
  pub mandate_row : (m : Mandate) → mandate_of l n ≡ known m → Held mandate_at l.mandates l.mandates_used n m
  unfolding mandate_of
  mandate_row m e = held mandate_at l.mandates l.mandates_used n m e

  pub collection_row : (c : Collection) → collection_of l n ≡ known c → Held collection_at l.collections l.collections_used n c
  unfolding collection_of
  collection_row c e = held collection_at l.collections l.collections_used n c e

-- the row that was found is written anew, with its number
module _ (l : Ledger) (row : ℕ) where
  pub mandate_of_keep : (m : Mandate) → row < rows l.mandates → lookup l.mandates l.mandates_used m.number ≡ Some row → (k : ℕ) → mandate_of (keep_mandate l row m) k ≡ cond (eqb k m.number) (known m) (mandate_of l k)
  unfolding mandate_of
  mandate_of_keep m h e k =
      kept mandate_at l.mandates l.mandates_used m.number row (mandate_cells m) refl refl m
      (mandate_at_put_same l.mandates row m h) (mandate_at_put_other l.mandates row m) e k

  pub collection_of_keep : (c : Collection) → row < rows l.collections → lookup l.collections l.collections_used c.number ≡ Some row → (k : ℕ) → collection_of (keep_collection l row c) k ≡ cond (eqb k c.number) (known c) (collection_of l k)
  unfolding collection_of
  collection_of_keep c h e k =
      kept collection_at l.collections l.collections_used c.number row (collection_cells c) refl refl c
      (collection_at_put_same l.collections row c h) (collection_at_put_other l.collections row c) e k

-- the next row is written, with a number that no row has
module _ (l : Ledger) where
  pub mandate_of_add : (m : Mandate) → l.mandates_used < rows l.mandates → mandate_of l m.number ≡ unknown → (k : ℕ) → mandate_of (add_mandate l m) k ≡ cond (eqb k m.number) (known m) (mandate_of l k)
  unfolding mandate_of
  mandate_of_add m h e k =
      next mandate_at l.mandates l.mandates_used m.number (mandate_cells m) refl refl m
      (mandate_at_put_same l.mandates l.mandates_used m h) (mandate_at_put_other l.mandates l.mandates_used m) h
      (nothing_held mandate_at l.mandates l.mandates_used m.number e) k

  pub collection_of_add : (c : Collection) → l.collections_used < rows l.collections → collection_of l c.number ≡ unknown → (k : ℕ) → collection_of (add_collection l c) k ≡ cond (eqb k c.number) (known c) (collection_of l k)
  unfolding collection_of
  collection_of_add c h e k =
      next collection_at l.collections l.collections_used c.number (collection_cells c) refl refl c
      (collection_at_put_same l.collections l.collections_used c h)
      (collection_at_put_other l.collections l.collections_used c) h
      (nothing_held collection_at l.collections l.collections_used c.number e) k
