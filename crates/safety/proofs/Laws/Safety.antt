-- Laws of specs/Safety: the test passes exactly where the tables are `Safe`, as a list of events keeps them.
-- To cite: `safe_facts`, `safe_made`; for the code `unfit_unsafe`, `fit_bounded`, `bounded_tested`, `fit_rows`,
-- `spent_small`, `rows_few`, `rows_spent`. Assumes nothing.
use mathlib.Core.Path.{◌≡◌, sym, ◌∙◌, ap}
use mathlib.Core.Bool.{Bool, true, false, ◌&&◌}
use mathlib.Core.List.{List, [], ◌∷◌}
use Prim.Native.Nat.{ℕ, suc, ◌^◌, ◌≤◌, ◌<◌}
use native.Mathlib.Omega.{arith}
use lib.IntN.{ℤ, pos, neg_ℤ, nat_abs}
use lib.ListN.{length, get_or}
use Rattle.std.proofs.Common.{map}
use Rattle.std.specs.List.{sum_by, range_with_len}
use Rattle.std.proofs.lemmas.List.FromFn.{length-map-range_with_len}
use Rattle.common.specs.Limits.{collection_row_limit}
use Rattle.common.specs.Tests.{all_of}
use Rattle.common.proofs.Tests.{and_halves, and_true, all_of_at}
use Rattle.common.proofs.Made.{all_of_made}
use Rattle.common.proofs.Walk.{all_from_at, all_from_made}
use Rattle.positions.specs.Positions.{position, in_limit, InLimit}
use Rattle.positions.proofs.Laws.Integers.{within_size, size_within}
use Rattle.tables.specs.Ledger.{Ledger}
use Rattle.tables.specs.Limits.{stride}
use Rattle.tables.specs.CollectionColumn
use Rattle.tables.specs.Rows.{rows, row_at}
use Rattle.tables.specs.Lookup.{existing}
use Rattle.tables.proofs.Laws.Lookup.{existing_fit}
use Rattle.fitness.specs.Fitness.{fit}
use Rattle.fitness.proofs.Laws.Fitness.{fit_facts, compensation_facts}
use Rattle.model.specs.Bounds.{spent, Bounded, Safe}
use Rattle.model.proofs.Laws.Bounds.{entries_within}
use Rattle.safety.specs.Safety.{within_at, within_spent, bounded, is_safe, tag_moved, between, all_between}
use Rattle.safety.proofs.Laws.Sums.{sum_by_rows, sum_small}

-- ---- a table

module _ (m : ℕ) (positions : List ℤ) where
  pub within_facts : within_spent m positions ≡ true → InLimit m positions
  unfolding within_spent
  within_facts e =
      entries_within m positions
      (λ i h. within_size m (get_or positions i (pos 0)) (all_from_at (within_at m positions) (length positions) e i h))

  pub within_made : InLimit m positions → within_spent m positions ≡ true
  unfolding within_spent position
  within_made w =
      all_from_made (within_at m positions) (length positions) (λ i h. size_within m (get_or positions i (pos 0)) (w (suc i)))

-- ---- the ledger

module _ (l : Ledger) where
  bound_tests : List Bool
  bound_tests =
      within_spent (spent l) l.creditor_positions
      ∷ within_spent (spent l) l.debtor_positions
      ∷ within_spent (spent l) l.bank_positions
      ∷ in_limit (spent l) l.compensation
      ∷ []

  bounded_facts : fit l ≡ true → bounded l ≡ true → Bounded l
  unfolding bounded bound_tests
  bounded_facts f e =
      let paid = compensation_facts l.compensation (fit_facts l f).header.cents in
      record {
        creditors = within_facts (spent l) l.creditor_positions (all_of_at bound_tests 0 e);
        debtors = within_facts (spent l) l.debtor_positions (all_of_at bound_tests 1 e);
        banks = within_facts (spent l) l.bank_positions (all_of_at bound_tests 2 e);
        cents = nat_abs l.compensation;
        paid = sym paid.cents;
        cents_le = within_size (spent l) l.compensation (all_of_at bound_tests 3 e);
      }

  bounded_made : Bounded l → bounded l ≡ true
  unfolding bounded bound_tests
  bounded_made b =
      all_of_made bound_tests
      (within_made (spent l) l.creditor_positions b.creditors)
      (within_made (spent l) l.debtor_positions b.debtors)
      (within_made (spent l) l.bank_positions b.banks)
      (size_within (spent l) l.compensation (omega (arith, ap nat_abs b.paid, b.cents_le)))

  -- memory that passes the test is safe
  pub safe_facts : is_safe l ≡ true → Safe l
  unfolding is_safe
  safe_facts e =
      let h = and_halves (fit l) e in
      record { fits = h.0; bounded = bounded_facts h.0 h.1 }

  -- and safe memory passes it
  pub safe_made : Safe l → is_safe l ≡ true
  unfolding is_safe
  safe_made s = and_true s.fits (bounded_made s.bounded)

  -- ---- as the code tests it

  pub unfit_unsafe : fit l ≡ false → is_safe l ≡ false
  unfolding is_safe
  unfit_unsafe e = ap (λ (b : Bool). b && bounded l) e

  pub fit_bounded : fit l ≡ true → is_safe l ≡ bounded l
  unfolding is_safe
  fit_bounded e = ap (λ (b : Bool). b && bounded l) e

  -- the tests by their two bounds
  pub bounded_tested :
      (low high : ℤ) → low ≡ neg_ℤ (pos (spent l)) → high ≡ pos (spent l)
      → all_of
      (all_between low high l.creditor_positions
      ∷ all_between low high l.debtor_positions
      ∷ all_between low high l.bank_positions
      ∷ between low high l.compensation
      ∷ [])
      ≡ bounded l
  unfolding bounded within_spent all_between
  bounded_tested low high p q = rw (p, q)

  -- the used rows of fit memory are there, and no more than may be lent
  pub fit_rows : fit l ≡ true → (l.collections_used ≤ rows l.collections) × (l.collections_used ≤ collection_row_limit)
  fit_rows e =
      let f = fit_facts l e in
      (f.header.collections_lent, omega (arith, f.header.collections_lent, f.sizes.collection_rows_lem.to))

  -- a sum of 64 bits holds what they have moved
  pub spent_small : fit l ≡ true → spent l < 2 ^ 63
  unfolding spent
  spent_small e = sum_small l.collections l.collections_used (fit_rows e).1

  -- the used rows one after the other
  module _ (e : fit l ≡ true) (lent : List (List ℕ)) (r : lent ≡ map (row_at stride l.collections) (range_with_len 0 (existing l.collections l.collections_used))) where
    all_lent : lent ≡ map (row_at stride l.collections) (range_with_len 0 l.collections_used)
    all_lent = r ∙ ap (λ (n : ℕ). map (row_at stride l.collections) (range_with_len 0 n)) (existing_fit l.collections l.collections_used (fit_rows e).0)

    pub rows_few : length lent ≤ collection_row_limit
    rows_few = rw (all_lent, length-map-range_with_len (row_at stride l.collections) 0 l.collections_used) (fit_rows e).1

    pub rows_spent : sum_by (λ fields. tag_moved (get_or fields CollectionColumn.state 0)) lent ≡ spent l
    unfolding spent
    rows_spent = rw all_lent (sum_by_rows l.collections l.collections_used)
