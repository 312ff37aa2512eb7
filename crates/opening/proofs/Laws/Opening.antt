-- Laws of specs/Opening: what is answered, and that an opened ledger is fit. To cite: `opening_done`, `opening_refused`,
-- `opened_fit`, `opened_mandates`, `opened_collections`. Assumes nothing.
use mathlib.Core.Path.{◌≡◌, refl, ◌∙◌, ap}
use mathlib.Core.Bool.{true, false}
use mathlib.Core.List.{List}
use Prim.Native.Nat.{ℕ, ◌<◌}
use native.Mathlib.Omega.{arith}
use lib.ListN.{length, replicate, length-replicate, get_or-replicate}
use lib.IntN.{ℤ, pos}
use Rattle.common.proofs.Tests.{either}
use Rattle.tables.specs.Limits.{creditor_count, debtor_count, bank_count}
use Rattle.tables.specs.Ledger.{Ledger, ledger}
use Rattle.fitness.specs.Fitness.{position_fit, sizes_fit, mandate_fit, collection_fit, creditor_fit, creditors_fit, positions_fit, fit}
use Rattle.opening.specs.Opening.{fresh, open_result, opened, opening}
use Rattle.fitness.proofs.Laws.Fitness.{Sizes, sizes_facts, HeaderFit, rows_fit_made, creditors_fit_made, positions_fit_made, fit_made}

-- ---- tables of zeros

no_positions : (n : ℕ) → positions_fit (replicate n (pos 0)) ≡ true
no_positions n =
    positions_fit_made (replicate n (pos 0))
    (λ i h. ap position_fit (get_or-replicate n i (pos 0) (pos 0) (rw length-replicate at h)))

zero_creditor : creditor_fit 0 (pos 0) ≡ true
unfolding creditor_fit
zero_creditor = refl

no_creditors : creditors_fit (replicate creditor_count 0) (replicate creditor_count (pos 0)) ≡ true
no_creditors =
    creditors_fit_made (replicate creditor_count 0) (replicate creditor_count (pos 0))
    (λ i h.
    let g : i < creditor_count = rw length-replicate at h in
    rw (get_or-replicate {A = ℕ} creditor_count i 0 0 g, get_or-replicate creditor_count i (pos 0) (pos 0) g) zero_creditor)

-- ---- opening

module _ (l : Ledger) where
  pub opening_refused : sizes_fit l ≡ false → opening l ≡ open_result 2 l
  unfolding opening opened
  opening_refused e = rw e

  pub opening_done : sizes_fit l ≡ true → opening l ≡ open_result 0 (fresh l)
  unfolding opening opened
  opening_done e = rw e

  -- tables filled with zeros, under a header of zeros, are the fresh ledger's
  pub opening_filled :
      (cr : List ℕ) (cp dp bp : List ℤ) → sizes_fit l ≡ true
      → cr ≡ replicate (length l.creditors) 0
      → cp ≡ replicate (length l.creditor_positions) (pos 0)
      → dp ≡ replicate (length l.debtor_positions) (pos 0)
      → bp ≡ replicate (length l.bank_positions) (pos 0)
      → open_result 0 (ledger (record { latest = 0; mandates = 0; collections = 0; compensation = pos 0 }) l.mandates l.collections cr cp dp bp) ≡ opening l
  unfolding fresh
  opening_filled cr cp dp bp e creditors own debtors banks =
      let s = sizes_facts l e in
      rw (opening_done e, creditors, own, debtors, banks, s.creditor_table, s.creditor_positions_lem, s.debtor_positions_lem, s.bank_positions_lem)

  pub opened_done : sizes_fit l ≡ true → opened l ≡ fresh l
  unfolding opened
  opened_done e = rw e

  -- the cells of the rows stay, whatever is answered
  pub fresh_mandates : (fresh l).mandates ≡ l.mandates
  unfolding fresh
  fresh_mandates = refl

  pub fresh_collections : (fresh l).collections ≡ l.collections
  unfolding fresh
  fresh_collections = refl

  pub opened_mandates : (opened l).mandates ≡ l.mandates
  unfolding opened
  opened_mandates = either (sizes_fit l) (λ e. rw e fresh_mandates) (λ e. rw e)

  pub opened_collections : (opened l).collections ≡ l.collections
  unfolding opened
  opened_collections = either (sizes_fit l) (λ e. rw e fresh_collections) (λ e. rw e)

  fresh_sizes : Sizes l → Sizes (fresh l)
  unfolding fresh
  fresh_sizes s =
      record {
        mandate_rows_lem = s.mandate_rows_lem;
        collection_rows_lem = s.collection_rows_lem;
        creditor_table = length-replicate {A = ℕ} creditor_count 0;
        creditor_positions_lem = length-replicate creditor_count (pos 0);
        debtor_positions_lem = length-replicate debtor_count (pos 0);
        bank_positions_lem = length-replicate bank_count (pos 0);
      }

  fresh_header_lem : HeaderFit (fresh l)
  unfolding fresh
  fresh_header_lem = record { mandates_lent = omega arith; collections_lent = omega arith; latest_date = refl; cents = refl }

  -- a fresh ledger is fit
  pub fresh_fit : sizes_fit l ≡ true → fit (fresh l) ≡ true
  unfolding fresh
  fresh_fit e =
      fit_made (fresh l)
      (record {
        sizes = fresh_sizes (sizes_facts l e);
        header = fresh_header_lem;
        mandates = rows_fit_made (mandate_fit (fresh l).creditors) l.mandates 0 (λ row h. absurd (omega arith));
        collections = rows_fit_made (collection_fit 0 (fresh l).creditors) l.collections 0 (λ row h. absurd (omega arith));
        creditors = no_creditors;
        debtors = no_positions debtor_count;
        banks = no_positions bank_count;
      })

  pub opened_fit : sizes_fit l ≡ true → fit (opened l) ≡ true
  opened_fit e = ap fit (opened_done e) ∙ fresh_fit e

-- what `open_ledger` answers and leaves
pub ruleset opening_steps = (opening_refused, opening_filled)
