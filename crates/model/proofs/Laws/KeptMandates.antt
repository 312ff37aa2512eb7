-- Events 1 to 5 keep a ledger and a journal in agreement, from whatever base the figures are counted.
-- To cite: `agrees_creditor`, `agrees_mandate`, `agrees_change`, `agrees_collect`. Assumes nothing.
use mathlib.Core.Path.{◌≡◌, refl, sym, ap, ◌∙◌}
use mathlib.Core.Bool.{false, cond}
use mathlib.Core.List.{List}
use Prim.Native.Nat.{ℕ, ◌-◌, ◌≤◌, ◌<◌}
use native.Mathlib.Omega.{arith}
use lib.Dec.{eqb}
use lib.ListN.{length, set}
use lib.Seq.{get_or-set_same, get_or-set_other}
use borrow.Author.Tests.{eqb-true, eqb-false}
use Rattle.common.proofs.Tests.{either, not_true}
use Rattle.tables.specs.Limits.{creditor_count}
use Rattle.tables.specs.Ledger.{Ledger, bank_of}
use Rattle.tables.specs.Rows.{rows}
use Rattle.tables.specs.declared.Mandate.{Mandate}
use Rattle.tables.proofs.Laws.Ledger.{bank_of_zero, bank_of_at}
use Rattle.fitness.proofs.Laws.Fitness.{Within}
use Rattle.model.specs.declared.Change.{Change}
use Rattle.model.specs.declared.Presentation.{Presentation}
use Rattle.model.specs.declared.Action.TheVariants.{AddCreditor, AddMandate, ChangeMandate, Collect}
use Rattle.model.specs.declared.Change.TheVariants.{NewBank, NewCreditor, Cancel}
use Rattle.model.specs.Lookups.{mandate_of, collection_of}
use Rattle.model.specs.Lookups.Known.{unknown, known}
use Rattle.model.specs.Effects.{dated, keep_mandate, changed, presented_on, new_collection, effect}
use Rattle.model.specs.Journal.{Journal, NotedMandate, noted, with_mandate, with_collection}
use Rattle.model.specs.Noted.{noted_of, noted_known, SameCollection}
use Rattle.model.specs.Promises.{Agrees}
use Rattle.model.proofs.Laws.Views.{mandate_of_add, collection_of_add}
use Rattle.model.proofs.Laws.Effects.{MandateThere, changed_number, presented_number, effect_change, effect_collect, mandates_kept}
use Rattle.model.proofs.Laws.Wordings.{change_of, present_of, collection_noted, note_of}
use Rattle.model.proofs.Laws.Agree.{noted_mandate, same_cond}

-- ---- event 1

bank_of_set : (creditors : List ℕ) (a b : ℕ) → 1 ≤ a → a ≤ length creditors → (n : ℕ) → bank_of (set creditors (a - 1) b) n ≡ cond (eqb n a) b (bank_of creditors n)
bank_of_set creditors a b low high n =
    either (eqb n a)
    (λ q.
    let p = eqb-true n a q in
    rw q
    (bank_of_at (set creditors (a - 1) b) n (λ z. omega arith)
    ∙ rw p (get_or-set_same creditors (a - 1) b 0 (omega arith))))
    (λ q.
    let p = eqb-false n a q in
    rw q
    (either (eqb n 0)
    (λ z. bank_of_zero (set creditors (a - 1) b) n (eqb-true n 0 z) ∙ sym (bank_of_zero creditors n (eqb-true n 0 z)))
    (λ z.
    let ne = eqb-false n 0 z in
    bank_of_at (set creditors (a - 1) b) n ne
    ∙ get_or-set_other creditors (a - 1) (n - 1) b 0 (λ i. p (omega (arith, ne)))
    ∙ sym (bank_of_at creditors n ne))))

module _ (base l : Ledger) (j : Journal) (date : ℕ) (g : Agrees base l j) where
  pub agrees_creditor : (a b : ℕ) → Within 1 creditor_count a → length l.creditors ≡ creditor_count → Agrees base (effect l date (AddCreditor a b)) (note_of j date (AddCreditor a b))
  unfolding effect note_of mandate_of collection_of
  agrees_creditor a b w len =
      record {
        banks =
            λ k.
            bank_of_set l.creditors a b w.from (rw len w.to) k
            ∙ ap (λ (x : ℕ). cond (eqb k a) b x) (g.banks k);
        mandates = g.mandates;
        collections = g.collections;
        figures = g.figures;
      }

  -- ---- event 2

  -- a mandate anew, where the journal has the others as they are noted
  noted_anew_lem : (m : Mandate) (x : NotedMandate) → noted_of m ≡ x → (n k : ℕ) → noted_known (cond (eqb k n) (known m) (mandate_of l k)) ≡ noted j.mandates n (known x) k
  noted_anew_lem m x e n k = either (eqb k n) (λ b. rw b (ap known e)) (λ b. rw b (g.mandates k))

  pub agrees_mandate : (m : Mandate) → l.mandates_used < rows l.mandates → mandate_of l m.number ≡ unknown → Agrees base (effect l date (AddMandate m)) (note_of j date (AddMandate m))
  unfolding effect note_of mandate_of collection_of
  agrees_mandate m h u =
      record {
        banks = g.banks;
        mandates = λ k. ap noted_known (mandate_of_add l m h u k) ∙ noted_anew_lem m (noted_of m) refl m.number k;
        collections = g.collections;
        figures = g.figures;
      }

  -- ---- events 3 and 4

  noted_changed : (c : Change) (m : Mandate) → noted_of (changed c m) ≡ change_of c (noted_of m)
  unfolding changed noted_of change_of
  noted_changed (NewBank b) m = refl
  noted_changed (NewCreditor a) m = refl
  noted_changed Cancel m = refl

  note_change : (n : ℕ) (c : Change) (h : MandateThere l n) → note_of j date (ChangeMandate n c) ≡ with_mandate j n (change_of c (noted_of h.mandate))
  unfolding note_of
  note_change n c h = rw (noted_mandate base l j g n h.mandate h.is)

  pub agrees_change : (n : ℕ) (c : Change) (h : MandateThere l n) → Agrees base (effect l date (ChangeMandate n c)) (note_of j date (ChangeMandate n c))
  unfolding collection_of
  agrees_change n c h =
      let m = changed c h.mandate in
      rw (effect_change l date n c h, note_change n c h)
      (record {
        banks = g.banks;
        mandates =
            λ k.
            ap noted_known (mandates_kept l date n h m (changed_number c h.mandate ∙ h.number) k)
            ∙ noted_anew_lem m (change_of c (noted_of h.mandate)) (noted_changed c h.mandate) n k;
        collections = g.collections;
        figures = g.figures;
      })

  -- ---- event 5

  noted_presented : (p : Presentation) (m : Mandate) → noted_of (presented_on p m) ≡ present_of p (noted_of m)
  unfolding presented_on noted_of present_of
  noted_presented p m = refl

  -- the creditor of a fit mandate has its bank noted
  bank_noted : (n : ℕ) (h : MandateThere l n) → eqb (j.banks (noted_of h.mandate).creditor) 0 ≡ false
  unfolding noted_of
  bank_noted n h =
      ap (λ (b : ℕ). eqb b 0) (sym (g.banks h.mandate.creditor)) ∙ not_true h.fits.creditor_added

  note_collect_lem : (p : Presentation) (h : MandateThere l p.mandate) → note_of j date (Collect p) ≡ with_collection (with_mandate j p.mandate (present_of p (noted_of h.mandate))) p.collection (collection_noted j p (noted_of h.mandate))
  unfolding note_of
  note_collect_lem p h = rw (noted_mandate base l j g p.mandate h.mandate h.is, bank_noted p.mandate h)

  -- the new collection is noted as it is kept
  same_new : (p : Presentation) (m : Mandate) → SameCollection (new_collection l.creditors p m) (collection_noted j p (noted_of m))
  unfolding new_collection collection_noted noted_of
  same_new p m =
      record {
        creditor = refl;
        debtor = refl;
        cbank = g.banks m.creditor;
        dbank = refl;
        amount = refl;
        settled = λ s e. absurd cc;
      }

  pub agrees_collect : (p : Presentation) (h : MandateThere l p.mandate) → l.collections_used < rows l.collections → collection_of l p.collection ≡ unknown → Agrees base (effect l date (Collect p)) (note_of j date (Collect p))
  unfolding mandate_of collection_of new_collection
  agrees_collect p h r u =
      let m = presented_on p h.mandate in
      let k = new_collection l.creditors p h.mandate in
      rw (effect_collect l date p h, note_collect_lem p h)
      (record {
        banks = g.banks;
        mandates =
            λ n.
            ap noted_known (mandates_kept l date p.mandate h m (presented_number p h.mandate ∙ h.number) n)
            ∙ noted_anew_lem m (present_of p (noted_of h.mandate)) (noted_presented p h.mandate) p.mandate n;
        collections =
            λ c.
            rw (collection_of_add (keep_mandate (dated l date) h.row m) k r u c)
            (same_cond (eqb c p.collection) k (collection_noted j p (noted_of h.mandate)) (collection_of l c) (j.collections c)
            (same_new p h.mandate) (g.collections c));
        figures = g.figures;
      })
