-- Events 6 to 10 keep a ledger and a journal in agreement, from whatever base the figures are counted.
-- To cite: `agrees_settle`, `agrees_reject`, `agrees_undo`. Assumes nothing.
use mathlib.Core.Path.{◌≡◌, refl, sym, ap, subst, ◌∙◌}
use mathlib.Core.Logic.{◌≢◌}
use mathlib.Core.List.{List}
use Prim.Native.Nat.{ℕ}
use lib.Dec.{eqb}
use lib.IntN.{ℤ, ◌+ℤ◌, +ℤ_assoc}
use borrow.Author.Tests.{eqb-true, eqb-false, eq-eqb, ne_eqb}
use Rattle.std.proofs.lemmas.Bool.{cond_both}
use Rattle.common.proofs.Tests.{either}
use Rattle.positions.specs.declared.Postings.{Postings}
use Rattle.positions.specs.Postings.{settlement}
use Rattle.positions.specs.Positions.{HasEntry, position, posted}
use Rattle.positions.proofs.Laws.Positions.{entry_posted, position_posted_same, position_posted_other}
use Rattle.tables.specs.Ledger.{Ledger}
use Rattle.tables.specs.declared.Collection.{Collection}
use Rattle.tables.specs.declared.State.{State}
use Rattle.tables.specs.declared.State.TheVariants.{Settled}
use Rattle.fitness.proofs.Laws.Fitness.{Sizes}
use Rattle.model.specs.declared.Treatment.{Treatment}
use Rattle.model.specs.declared.Way.{Way}
use Rattle.model.specs.declared.Action.TheVariants.{Treat}
use Rattle.model.specs.declared.Treatment.TheVariants.{Settle, Reject, Undo}
use Rattle.model.specs.Lookups.{Known, mandate_of, collection_of}
use Rattle.model.specs.Lookups.Known.{known}
use Rattle.model.specs.Checks.{settled_on}
use Rattle.model.specs.Effects.{dated, keep_collection, with_postings, state_after, treated, undone, effect}
use Rattle.model.specs.Step.{figure_of}
use Rattle.model.specs.Journal.{Journal, NotedCollection, noted, plus, with_collection, noted_settled, figure_in}
use Rattle.model.specs.Noted.{SameCollection, SameKnown}
use Rattle.model.specs.Promises.{Agrees}
use Rattle.model.proofs.Laws.Effects.{CollectionThere, creditor_entry, debtor_entry, dbank_entry, cbank_entry, treated_number, effect_treat, collections_kept}
use Rattle.model.proofs.Laws.Wordings.{with_figures, note_of}
use Rattle.model.proofs.Laws.Agree.{figures_made, NotedAs, noted_collection_lem}

-- ---- figures

-- a position is that of the base and a figure together, and stays so when both get the same amount
figure_posted : (table : List ℤ) (b f : ℕ → ℤ) (k k' : ℕ) (x x' : ℤ) → HasEntry table k → ((n : ℕ) → position table n ≡ b n +ℤ f n) → k ≡ k' → x ≡ x' → (n : ℕ) → position (posted table k x) n ≡ b n +ℤ plus f k' x' n
figure_posted table b f k k' x x' e g p q n =
    either (eqb n k')
    (λ t.
    let s : n ≡ k = eqb-true n k' t ∙ sym p in
    rw t (rw s (position_posted_same table k x e ∙ rw (g k, q) (+ℤ_assoc (b k) (f k) x'))))
    (λ t.
    let i = eqb-false n k' t in
    rw t (position_posted_other table k n x (λ s. i (s ∙ p)) ∙ g n))

module _ (base l : Ledger) (j : Journal) (date : ℕ) (g : Agrees base l j) (z : Sizes l) (n : ℕ) (h : CollectionThere l n) where
  -- the collection as the journal has it noted
  noted_there : NotedAs h.collection (j.collections n)
  noted_there = noted_collection_lem base l j g n h.collection h.is

  -- the treated collection, in its row, is the same as what a map has under its number, where the map is the journal's elsewhere
  same_kept : (tr : Treatment) (x' : NotedCollection) (y : ℕ → Known NotedCollection) → SameCollection (treated tr date h.collection) x' → y n ≡ known x' → ((c : ℕ) → c ≢ n → y c ≡ j.collections c) → (c : ℕ) → SameKnown (collection_of (keep_collection (dated l date) h.row (treated tr date h.collection)) c) (y c)
  same_kept tr x' y s e o c =
      let k' = treated tr date h.collection in
      subst (λ (w : Known Collection). SameKnown w (y c)) (sym (collections_kept l date n h k' (treated_number tr date h.collection ∙ h.number) c))
      (cond_both (eqb c n) (known k') (collection_of l c) (λ x. SameKnown x (y c)) (λ b. rw (eqb-true c n b, e) s) (λ b. rw (o c (eqb-false c n b)) (g.collections c)))

  -- the collection with its new state is noted as it was, where the new state is not settled, or S is noted
  same_treated : (tr : Treatment) (x : NotedCollection) (settled : ℕ) → SameCollection h.collection x → ((s : ℕ) → state_after tr date ≡ Settled s → settled ≡ s) → SameCollection (treated tr date h.collection) (noted_settled x settled)
  unfolding treated noted_settled
  same_treated tr x settled s f =
      record {
        creditor = s.creditor;
        debtor = s.debtor;
        cbank = s.cbank;
        dbank = s.dbank;
        amount = s.amount;
        settled = f;
      }

  -- the figures after a posting that both make
  module _ (p p' : Postings) (x : NotedCollection) (s : SameCollection h.collection x) (e : p ≡ p') where
    banks_after : (i : ℕ) → position (posted (posted l.bank_positions h.collection.dbank p.dbank) h.collection.cbank p.cbank) i ≡ position base.bank_positions i +ℤ plus (plus j.bank_figure x.dbank p'.dbank) x.cbank p'.cbank i
    banks_after =
        figure_posted (posted l.bank_positions h.collection.dbank p.dbank) (position base.bank_positions)
        (plus j.bank_figure x.dbank p'.dbank) _ _ p.cbank p'.cbank
        (entry_posted l.bank_positions h.collection.dbank h.collection.cbank p.dbank (cbank_entry l z n h))
        (figure_posted l.bank_positions (position base.bank_positions) j.bank_figure _ _ p.dbank p'.dbank (dbank_entry l z n h) (g.figures 3) s.dbank
        (ap (λ (q : Postings). q.dbank) e))
        s.cbank (ap (λ (q : Postings). q.cbank) e)

    figures_after : (tr : Treatment) (kind number : ℕ) → figure_of (with_postings (keep_collection (dated l date) h.row (treated tr date h.collection)) h.collection p) kind number ≡ figure_of base kind number +ℤ figure_in (with_figures j x p') kind number
    figures_after tr =
        figures_made base (with_postings (keep_collection (dated l date) h.row (treated tr date h.collection)) h.collection p) (with_figures j x p')
        (figure_posted l.creditor_positions (position base.creditor_positions) j.creditor_figure _ _ p.creditor p'.creditor
        (creditor_entry l z n h) (g.figures 1) s.creditor (ap (λ (q : Postings). q.creditor) e))
        (figure_posted l.debtor_positions (position base.debtor_positions) j.debtor_figure _ _ p.debtor p'.debtor
        (debtor_entry l z n h) (g.figures 2) s.debtor (ap (λ (q : Postings). q.debtor) e))
        banks_after
        (ap (λ (i : ℤ). i +ℤ p.compensation) (g.figures 4 0)
        ∙ +ℤ_assoc base.compensation j.compensation p.compensation
        ∙ ap (λ (q : Postings). base.compensation +ℤ (j.compensation +ℤ q.compensation)) e)

  -- ---- event 6

  note_settle_lem : note_of j date (Treat n Settle) ≡ with_figures (with_collection j n (noted_settled noted_there.value date)) noted_there.value (settlement noted_there.value.amount)
  unfolding note_of
  note_settle_lem = rw noted_there.is

  pub agrees_settle : Agrees base (effect l date (Treat n Settle)) (note_of j date (Treat n Settle))
  unfolding mandate_of collection_of
  agrees_settle =
      let x = noted_there.value in
      let s = noted_there.same in
      rw (effect_treat l date n Settle h, note_settle_lem)
      (record {
        banks = g.banks;
        mandates = g.mandates;
        collections =
            same_kept Settle (noted_settled x date) (noted j.collections n (known (noted_settled x date)))
            (same_treated Settle x date s (λ i e. (cc))) (rw (eq-eqb n n refl)) (λ i ne. rw (ne_eqb i n ne));
        figures = figures_after (settlement h.collection.amount) (settlement x.amount) x s (ap settlement s.amount) Settle;
      })

  -- ---- event 7

  note_reject : note_of j date (Treat n Reject) ≡ j
  unfolding note_of
  note_reject = rw noted_there.is

  pub agrees_reject : Agrees base (effect l date (Treat n Reject)) (note_of j date (Treat n Reject))
  unfolding mandate_of collection_of noted_settled
  agrees_reject =
      let x = noted_there.value in
      rw (effect_treat l date n Reject h, note_reject)
      (record {
        banks = g.banks;
        mandates = g.mandates;
        collections =
            same_kept Reject x j.collections (same_treated Reject x x.settled noted_there.same (λ i e. absurd cc))
            noted_there.is (λ i ne. refl);
        figures = g.figures;
      })

  -- ---- events 8, 9 and 10

  module _ (way : Way) (day : ℕ) (st : h.collection.state ≡ Settled day) (real : day ≢ 0) where
    note_undo : note_of j date (Treat n (Undo way)) ≡ with_figures j noted_there.value (undone way noted_there.value.amount day date)
    unfolding note_of
    note_undo =
        let e = noted_there.same.settled day st in
        rw (noted_there.is, e, ne_eqb day 0 real)

    undo_postings : undone way h.collection.amount (settled_on h.collection.state) date ≡ undone way noted_there.value.amount day date
    undo_postings =
        ap (λ (s : State). undone way h.collection.amount (settled_on s) date) st
        ∙ ap (λ (a : ℕ). undone way a day date) noted_there.same.amount

    pub agrees_undo : Agrees base (effect l date (Treat n (Undo way))) (note_of j date (Treat n (Undo way)))
    unfolding mandate_of collection_of noted_settled
    agrees_undo =
        let x = noted_there.value in
        let s = noted_there.same in
        rw (effect_treat l date n (Undo way) h, note_undo)
        (record {
          banks = g.banks;
          mandates = g.mandates;
          collections =
              same_kept (Undo way) x j.collections (same_treated (Undo way) x x.settled s (λ i e. absurd cc))
              noted_there.is (λ i ne. refl);
          figures = figures_after _ _ x s undo_postings (Undo way);
        })
