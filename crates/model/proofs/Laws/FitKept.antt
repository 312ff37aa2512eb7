-- Every accepted event keeps the tables fit, as long as the positions stay within their limit.
-- To cite: `fit_creditor`, `fit_mandate_added`, `fit_change`, `fit_collect`, `fit_kept`, `fit_posted`. Assumes nothing.
use mathlib.Core.Path.{◌≡◌, refl, ap, ◌∙◌}
use mathlib.Core.Bool.{Bool, true, ◌&&◌}
use mathlib.Core.Logic.{◌≢◌}
use mathlib.Core.List.{List}
use Prim.Native.Nat.{ℕ, suc, ◌-◌, ◌≤◌, ◌<◌}
use native.Mathlib.Omega.{arith}
use lib.Dec.{eqb, leb}
use lib.IntN.{ℤ, pos, nat_abs, ◌+ℤ◌}
use lib.ListN.{get_or, set, length-set}
use borrow.Author.Tests.{le-leb}
use Rattle.std.proofs.lemmas.Bool.{or_right}
use Rattle.calendar.specs.Gregorian.{in_range}
use Rattle.positions.specs.Positions.{position, posted}
use Rattle.positions.proofs.Laws.Positions.{length_posted, posted_index, position_index, position_posted_same}
use Rattle.positions.proofs.Laws.Limits.{moves_within_limit}
use Rattle.positions.specs.declared.Postings.{Postings}
use Rattle.tables.specs.Limits.{stride, creditor_count, bank_count, position_limit, mandate_row_limit, collection_row_limit}
use Rattle.tables.specs.Ledger.{Ledger, bank_of, added}
use Rattle.tables.specs.Records.{mandate_cells, collection_cells, state_tag, state_day}
use Rattle.tables.specs.Rows.{rows, put_row}
use Rattle.fitness.specs.Fitness.{none_or_date, compensation_fit, day_fit, rows_fit, mandate_fit, collection_fit, creditors_fit, positions_fit, fit}
use Rattle.tables.specs.declared.Mandate.{Mandate}
use Rattle.tables.specs.declared.Collection.{Collection}
use Rattle.tables.specs.declared.Standing.{Standing}
use Rattle.tables.proofs.Laws.Ledger.{added_facts, bank_of_at}
use Rattle.tables.proofs.Laws.Rows.{length_put, rows_put}
use Rattle.fitness.proofs.Laws.Fitness.{Within, RowCount, MandateFit, CollectionFit, Fit, fit_facts, fit_made, position_made, compensation_made, rows_fit_implies, rows_fit_put_used, rows_fit_put_next, mandate_made, collection_made, mandate_fit_added, collection_fit_added, collection_fit_later, creditors_fit_added, creditors_fit_bank, creditors_fit_posted, positions_fit_made, day_made}
use Rattle.model.specs.declared.Change.{Change}
use Rattle.model.specs.declared.Presentation.{Presentation}
use Rattle.model.specs.declared.Treatment.{Treatment}
use Rattle.model.specs.declared.Action.TheVariants.{AddCreditor, AddMandate, ChangeMandate, Collect}
use Rattle.model.specs.declared.Change.TheVariants.{NewBank, NewCreditor, Cancel}
use Rattle.model.specs.declared.Treatment.TheVariants.{Settle, Reject, Undo}
use Rattle.model.specs.declared.Way.TheVariants.{ByReturn, ByRefund, ByReversal}
use Rattle.model.specs.Checks.{change_names}
use Rattle.model.specs.Deadlines.{kept_due}
use Rattle.model.specs.Effects.{dated, keep_mandate, add_collection, keep_collection, with_postings, remade, changed, presented_on, new_collection, treated, state_after, effect}
use Rattle.model.proofs.Laws.Sound.{SoundCreditor, SoundMandate, SoundChange, SoundPresentation}
use Rattle.model.proofs.Laws.Effects.{MandateThere, CollectionThere, creditor_entry, effect_change, effect_collect}
use Rattle.model.proofs.Laws.Limits.{kept_found}
use Rattle.model.specs.Bounds.{spent, Bounded}
use Rattle.model.proofs.Laws.Spent.{spent_limit}

-- ---- dates

date_fits : (x : ℕ) → in_range x ≡ true → none_or_date x ≡ true
date_fits x e = or_right (eqb x 0) _ e

-- ---- sizes

put_count : (most : ℕ) (cells fields : List ℕ) (row : ℕ) → RowCount most cells → RowCount most (put_row stride cells row fields)
put_count most cells fields row r =
    let e = length_put stride cells row fields in
    let s = rows_put stride cells row fields in
    record { whole = rw e r.whole; from = rw s r.from; to = rw s r.to }

module _ (l : Ledger) (f : fit l ≡ true) (date : ℕ) (range : in_range date ≡ true) (order : l.latest ≤ date) where
  facts : Fit l
  facts = fit_facts l f

  -- the collections' days are not after the later date either
  later_collections : rows_fit (collection_fit date l.creditors) l.collections l.collections_used ≡ true
  later_collections =
      rows_fit_implies (collection_fit l.latest l.creditors) (collection_fit date l.creditors) l.collections l.collections_used
      (λ fields e. collection_fit_later l.latest l.creditors fields e date order) facts.collections

  -- ---- event 1

  pub fit_creditor : (a b : ℕ) → SoundCreditor a b → fit (effect l date (AddCreditor a b)) ≡ true
  unfolding effect
  fit_creditor a b s =
      let h = facts in
      let ne : b ≢ 0 = λ z. omega (arith, s.bank.from) in
      fit_made (effect l date (AddCreditor a b))
      (record {
        sizes =
            record {
              mandate_rows_lem = h.sizes.mandate_rows_lem;
              collection_rows_lem = h.sizes.collection_rows_lem;
              creditor_table = length-set l.creditors (a - 1) b ∙ h.sizes.creditor_table;
              creditor_positions_lem = h.sizes.creditor_positions_lem;
              debtor_positions_lem = h.sizes.debtor_positions_lem;
              bank_positions_lem = h.sizes.bank_positions_lem;
            };
        header =
            record {
              mandates_lent = h.header.mandates_lent;
              collections_lent = h.header.collections_lent;
              latest_date = date_fits date range;
              cents = h.header.cents;
            };
        mandates =
            rows_fit_implies (mandate_fit l.creditors) (mandate_fit (set l.creditors (a - 1) b)) l.mandates l.mandates_used
            (mandate_fit_added l.creditors (a - 1) b ne) h.mandates;
        collections =
            rows_fit_implies (collection_fit date l.creditors) (collection_fit date (set l.creditors (a - 1) b)) l.collections
            l.collections_used (λ fields e. collection_fit_added date l.creditors fields e (a - 1) b ne) later_collections;
        creditors =
            creditors_fit_added l.creditors l.creditor_positions (a - 1) b h.creditors s.bank.from s.bank.to;
        debtors = h.debtors;
        banks = h.banks;
      })

  -- ---- a mandate row is written

  mandate_fits : (m : Mandate) → SoundMandate m → added l.creditors m.creditor ≡ true → MandateFit l.creditors m
  mandate_fits m s a =
      record {
        number_fit = s.number;
        creditor_fit_lem = s.creditor;
        creditor_added = a;
        debtor_fit = s.debtor;
        bank_fit = s.bank;
        signed_date = s.signed;
        code_fit = s.code;
        presented_date = ap none_or_date s.nothing;
      }

  -- ---- event 2

  pub fit_mandate_added : (m : Mandate) → SoundMandate m → added l.creditors m.creditor ≡ true → l.mandates_used < rows l.mandates → fit (effect l date (AddMandate m)) ≡ true
  unfolding effect
  fit_mandate_added m s a r =
      let h = facts in
      fit_made (effect l date (AddMandate m))
      (record {
        sizes =
            record {
              mandate_rows_lem = put_count mandate_row_limit l.mandates (mandate_cells m) l.mandates_used h.sizes.mandate_rows_lem;
              collection_rows_lem = h.sizes.collection_rows_lem;
              creditor_table = h.sizes.creditor_table;
              creditor_positions_lem = h.sizes.creditor_positions_lem;
              debtor_positions_lem = h.sizes.debtor_positions_lem;
              bank_positions_lem = h.sizes.bank_positions_lem;
            };
        header =
            record {
              mandates_lent = rw (rows_put stride l.mandates l.mandates_used (mandate_cells m)) (omega arith);
              collections_lent = h.header.collections_lent;
              latest_date = date_fits date range;
              cents = h.header.cents;
            };
        mandates =
            rows_fit_put_next (mandate_fit l.creditors) l.mandates l.mandates_used (mandate_cells m) refl h.mandates
            (mandate_made l.creditors m (mandate_fits m s a)) r;
        collections = later_collections;
        creditors = h.creditors;
        debtors = h.debtors;
        banks = h.banks;
      })

  -- a mandate is written to its row
  kept_fits : (row : ℕ) (m : Mandate) → row < rows l.mandates → MandateFit l.creditors m → Fit (keep_mandate (dated l date) row m)
  kept_fits row m r fits =
      let h = facts in
      record {
        sizes =
            record {
              mandate_rows_lem = put_count mandate_row_limit l.mandates (mandate_cells m) row h.sizes.mandate_rows_lem;
              collection_rows_lem = h.sizes.collection_rows_lem;
              creditor_table = h.sizes.creditor_table;
              creditor_positions_lem = h.sizes.creditor_positions_lem;
              debtor_positions_lem = h.sizes.debtor_positions_lem;
              bank_positions_lem = h.sizes.bank_positions_lem;
            };
        header =
            record {
              mandates_lent = rw (rows_put stride l.mandates row (mandate_cells m)) h.header.mandates_lent;
              collections_lent = h.header.collections_lent;
              latest_date = date_fits date range;
              cents = h.header.cents;
            };
        mandates =
            rows_fit_put_used (mandate_fit l.creditors) l.mandates l.mandates_used row (mandate_cells m) refl h.mandates
            (mandate_made l.creditors m fits) r;
        collections = later_collections;
        creditors = h.creditors;
        debtors = h.debtors;
        banks = h.banks;
      }

  -- ---- events 3 and 4

  -- a fit mandate with another creditor, debtor bank, standing, mark or last presented
  remade_fits : (m : Mandate) (creditor bank : ℕ) (standing : Standing) (first : Bool) (presented : ℕ)
      → Within 1 creditor_count creditor → added l.creditors creditor ≡ true → Within 1 bank_count bank → none_or_date presented ≡ true
      → MandateFit l.creditors m → MandateFit l.creditors (remade m creditor bank standing first presented)
  remade_fits m creditor bank standing first presented c a b p h =
      record {
        number_fit = h.number_fit;
        creditor_fit_lem = c;
        creditor_added = a;
        debtor_fit = h.debtor_fit;
        bank_fit = b;
        signed_date = h.signed_date;
        code_fit = h.code_fit;
        presented_date = p;
      }

  changed_fits : (c : Change) (m : Mandate) → SoundChange c → change_names l.creditors c ≡ true → MandateFit l.creditors m → MandateFit l.creditors (changed c m)
  unfolding changed
  changed_fits (NewBank b) m s a h = remade_fits m _ b _ _ _ h.creditor_fit_lem h.creditor_added s h.presented_date h
  changed_fits (NewCreditor c) m s a h = remade_fits m c _ _ _ _ s a h.bank_fit h.presented_date h
  changed_fits Cancel m s a h = remade_fits m _ _ _ _ _ h.creditor_fit_lem h.creditor_added h.bank_fit h.presented_date h

  pub fit_change : (n : ℕ) (c : Change) (t : MandateThere l n) → SoundChange c → change_names l.creditors c ≡ true → fit (effect l date (ChangeMandate n c)) ≡ true
  fit_change n c t s a =
      rw (effect_change l date n c t)
      (fit_made (keep_mandate (dated l date) t.row (changed c t.mandate))
      (kept_fits t.row (changed c t.mandate) t.lent_row (changed_fits c t.mandate s a t.fits)))

  -- ---- event 5

  presented_fits : (p : Presentation) (m : Mandate) → in_range p.requested ≡ true → MandateFit l.creditors m → MandateFit l.creditors (presented_on p m)
  unfolding presented_on
  presented_fits p m r h =
      remade_fits m _ _ _ _ _ h.creditor_fit_lem h.creditor_added h.bank_fit (date_fits (kept_due p.requested) (kept_found p.requested r)) h

  -- the bank of a creditor that is added is one of the banks
  bank_fits : (c : ℕ) → added l.creditors c ≡ true → Within 1 bank_count (bank_of l.creditors c)
  bank_fits c a =
      let e = added_facts l.creditors c a in
      let ne = e.1 in
      record {
        from = rw (bank_of_at l.creditors c e.0) (omega (arith, ne));
        to = creditors_fit_bank l.creditors l.creditor_positions facts.creditors c;
      }

  new_fits : (p : Presentation) (m : Mandate) → SoundPresentation p → MandateFit l.creditors m → CollectionFit date l.creditors (new_collection l.creditors p m)
  unfolding new_collection
  new_fits p m s h =
      record {
        number_fit = s.collection;
        creditor_fit_lem = h.creditor_fit_lem;
        creditor_added = h.creditor_added;
        debtor_fit = h.debtor_fit;
        cbank_fit = bank_fits m.creditor h.creditor_added;
        dbank_fit = h.bank_fit;
        amount_fit = s.amount;
        due_date = kept_found p.requested s.requested;
        state_fit = refl;
      }

  pub fit_collect : (p : Presentation) (t : MandateThere l p.mandate) → SoundPresentation p → l.collections_used < rows l.collections → fit (effect l date (Collect p)) ≡ true
  fit_collect p t s r =
      let m = presented_on p t.mandate in
      let k = new_collection l.creditors p t.mandate in
      let h = kept_fits t.row m t.lent_row (presented_fits p t.mandate s.requested t.fits) in
      rw (effect_collect l date p t)
      (fit_made (add_collection (keep_mandate (dated l date) t.row m) k)
      (record {
        sizes =
            record {
              mandate_rows_lem = h.sizes.mandate_rows_lem;
              collection_rows_lem = put_count collection_row_limit l.collections (collection_cells k) l.collections_used h.sizes.collection_rows_lem;
              creditor_table = h.sizes.creditor_table;
              creditor_positions_lem = h.sizes.creditor_positions_lem;
              debtor_positions_lem = h.sizes.debtor_positions_lem;
              bank_positions_lem = h.sizes.bank_positions_lem;
            };
        header =
            record {
              mandates_lent = h.header.mandates_lent;
              collections_lent = rw (rows_put stride l.collections l.collections_used (collection_cells k)) (omega arith);
              latest_date = h.header.latest_date;
              cents = h.header.cents;
            };
        mandates = h.mandates;
        collections =
            rows_fit_put_next (collection_fit date l.creditors) l.collections l.collections_used (collection_cells k) refl h.collections
            (collection_made date l.creditors k (new_fits p t.mandate s t.fits)) r;
        creditors = h.creditors;
        debtors = h.debtors;
        banks = h.banks;
      }))

  -- ---- events 6 to 10

  day_fits : leb date date ≡ true → in_range date && leb date date ≡ true
  day_fits e = day_made date date (record { date = range; to = omega arith })

  state_fits_lem : (tr : Treatment) → day_fit date (state_tag (state_after tr date)) (state_day (state_after tr date)) ≡ true
  state_fits_lem Settle = day_fits (le-leb date date (omega arith))
  state_fits_lem Reject = refl
  state_fits_lem (Undo ByReturn) = day_fits (le-leb date date (omega arith))
  state_fits_lem (Undo (ByRefund rate authorisation)) = day_fits (le-leb date date (omega arith))
  state_fits_lem (Undo ByReversal) = day_fits (le-leb date date (omega arith))

  treated_fits : (tr : Treatment) (k : Collection) → CollectionFit l.latest l.creditors k → CollectionFit date l.creditors (treated tr date k)
  unfolding treated
  treated_fits tr k h =
      record {
        number_fit = h.number_fit;
        creditor_fit_lem = h.creditor_fit_lem;
        creditor_added = h.creditor_added;
        debtor_fit = h.debtor_fit;
        cbank_fit = h.cbank_fit;
        dbank_fit = h.dbank_fit;
        amount_fit = h.amount_fit;
        due_date = h.due_date;
        state_fit = state_fits_lem tr;
      }

  module _ (n : ℕ) (t : CollectionThere l n) (tr : Treatment) where
    -- the collection is written to its row
    kept_collection : Fit (keep_collection (dated l date) t.row (treated tr date t.collection))
    kept_collection =
        let h = facts in
        let c = treated tr date t.collection in
        record {
          sizes =
              record {
                mandate_rows_lem = h.sizes.mandate_rows_lem;
                collection_rows_lem = put_count collection_row_limit l.collections (collection_cells c) t.row h.sizes.collection_rows_lem;
                creditor_table = h.sizes.creditor_table;
                creditor_positions_lem = h.sizes.creditor_positions_lem;
                debtor_positions_lem = h.sizes.debtor_positions_lem;
                bank_positions_lem = h.sizes.bank_positions_lem;
              };
          header =
              record {
                mandates_lent = h.header.mandates_lent;
                collections_lent = rw (rows_put stride l.collections t.row (collection_cells c)) h.header.collections_lent;
                latest_date = date_fits date range;
                cents = h.header.cents;
              };
          mandates = h.mandates;
          collections =
              rows_fit_put_used (collection_fit date l.creditors) l.collections l.collections_used t.row (collection_cells c) refl
              later_collections (collection_made date l.creditors c (treated_fits tr t.collection t.fits)) t.lent_row;
          creditors = h.creditors;
          debtors = h.debtors;
          banks = h.banks;
        }

    pub fit_kept : fit (keep_collection (dated l date) t.row (treated tr date t.collection)) ≡ true
    fit_kept = fit_made (keep_collection (dated l date) t.row (treated tr date t.collection)) kept_collection

    -- and posts, within the limit
    module _ (p : Postings) (b : Bounded (with_postings (keep_collection (dated l date) t.row (treated tr date t.collection)) t.collection p)) where
      within_limit : (size : ℕ) → size ≤ spent (with_postings (keep_collection (dated l date) t.row (treated tr date t.collection)) t.collection p) → size ≤ position_limit
      within_limit size h =
          moves_within_limit l.collections_used size
          (omega (arith, facts.header.collections_lent, facts.sizes.collection_rows_lem.to))
          (omega (arith, spent_limit (with_postings (keep_collection (dated l date) t.row (treated tr date t.collection)) t.collection p)))

      positions_fit_lem : (table : List ℤ) → ((i : ℕ) → nat_abs (position table i) ≤ position_limit) → positions_fit table ≡ true
      unfolding position
      positions_fit_lem table h = positions_fit_made table (λ i l. position_made (get_or table i (pos 0)) (h (suc i)))

      creditor_fit_lem : creditors_fit l.creditors (posted l.creditor_positions t.collection.creditor p.creditor) ≡ true
      creditor_fit_lem =
          let c = t.collection.creditor in
          let w = t.fits.creditor_fit_lem in
          let a = added_facts l.creditors c t.fits.creditor_added in
          let ne = a.1 in
          let e = creditor_entry l facts.sizes n t in
          let same = position_posted_same l.creditor_positions c p.creditor e in
          let z : nat_abs (position l.creditor_positions c +ℤ p.creditor) ≤ position_limit =
          rw same at (within_limit _ (b.creditors c))
          in
          rw (posted_index l.creditor_positions c p.creditor w.from)
          (creditors_fit_posted l.creditors l.creditor_positions (c - 1) _ facts.creditors
          (omega (arith, e.high, e.low)) (omega (arith, ne))
          (position_made (get_or l.creditor_positions (c - 1) (pos 0) +ℤ p.creditor) (rw (position_index l.creditor_positions c w.from) at z)))

      pub fit_posted : fit (with_postings (keep_collection (dated l date) t.row (treated tr date t.collection)) t.collection p) ≡ true
      fit_posted =
          let h = kept_collection in
          let k = t.collection in
          let c = compensation_made b.cents (within_limit b.cents b.cents_le) in
          fit_made (with_postings (keep_collection (dated l date) t.row (treated tr date t.collection)) t.collection p)
          (record {
            sizes =
                record {
                  mandate_rows_lem = h.sizes.mandate_rows_lem;
                  collection_rows_lem = h.sizes.collection_rows_lem;
                  creditor_table = h.sizes.creditor_table;
                  creditor_positions_lem = length_posted l.creditor_positions k.creditor p.creditor ∙ h.sizes.creditor_positions_lem;
                  debtor_positions_lem = length_posted l.debtor_positions k.debtor p.debtor ∙ h.sizes.debtor_positions_lem;
                  bank_positions_lem =
                      length_posted (posted l.bank_positions k.dbank p.dbank) k.cbank p.cbank
                      ∙ length_posted l.bank_positions k.dbank p.dbank
                      ∙ h.sizes.bank_positions_lem;
                };
            header =
                record {
                  mandates_lent = h.header.mandates_lent;
                  collections_lent = h.header.collections_lent;
                  latest_date = h.header.latest_date;
                  cents = ap compensation_fit b.paid ∙ c;
                };
            mandates = h.mandates;
            collections = h.collections;
            creditors = creditor_fit_lem;
            debtors = positions_fit_lem _ (λ i. within_limit _ (b.debtors i));
            banks = positions_fit_lem _ (λ i. within_limit _ (b.banks i));
          })
