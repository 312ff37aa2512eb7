-- Laws of the call for an event: acting on it by the rows of what it names is the model's step. To cite: `found_for`, `acted_taken`, `acted_from`,
-- `taken_from`, `taken_first`, `taken_unfit`, `taken_refused`. Assumes nothing.
use Rattle.std.proofs.Common.{Err, None, Ok, Option, ℕ, Result}
use mathlib.Core.Path.{◌≡◌, refl, sym, ◌∙◌, ap, subst}
use mathlib.Core.Bool.{true, false, cond}
use Prim.Native.Nat.{ℕ, ◌≤◌}
use native.Mathlib.Omega.{arith}
use Rattle.refusals.specs.declared.Refusal.{Refusal}
use Rattle.refusals.specs.declared.Refusal.TheVariants.{UnfitMemory}
use Rattle.events.specs.declared.Event.{Event}
use Rattle.events.specs.Limits.{checked}
use Rattle.events.proofs.Laws.Limits.{checked_facts, creditor_facts, refund_facts, kind_cases}
use Rattle.positions.specs.Compensation.{rate_limit}
use Rattle.tables.specs.Ledger.{Ledger}
use Rattle.tables.specs.Lookup.{lookup, lookup_since, MayStart}
use Rattle.tables.proofs.Laws.Lookup.{lookup_since_first}
use Rattle.fitness.specs.Fitness.{fit}
use Rattle.fitness.proofs.Laws.Fitness.{fit_facts}
use Rattle.model.specs.declared.Action.{Action}
use Rattle.model.specs.declared.Action.TheVariants.{Treat}
use Rattle.model.specs.declared.Change.TheVariants.{Cancel}
use Rattle.model.specs.declared.Treatment.{Treatment}
use Rattle.model.specs.declared.Treatment.TheVariants.{Settle, Reject, Undo}
use Rattle.model.specs.declared.Way.{Way}
use Rattle.model.specs.declared.Way.TheVariants.{ByReturn, ByRefund, ByReversal}
use Rattle.model.specs.Actions.{new_mandate, amendment, presentation, authorisation, action_of}
use Rattle.model.specs.Checks.{ruled}
use Rattle.model.specs.declared.HandedOn.{HandedOn}
use Rattle.model.specs.Step.{answer_number, answer_value, answer, after, handed_on, outcome}
use Rattle.model.proofs.Laws.Handed.{verdict_number, event_values}
use Rattle.model.proofs.Laws.Actions.{action_creditor, action_mandate, action_amend, action_cancel, action_collect, action_settle, action_reject, action_return, action_refund, action_reversal}
use Rattle.model.proofs.Laws.Answers.{event_numbers}
use Rattle.checking.proofs.Laws.Calls.{AsRuled, after_verdict}
use Rattle.records.proofs.Laws.Records.{creditor_ruled, mandate_ruled, change_ruled, collect_ruled}
use Rattle.treatments.proofs.Laws.Ready.{rate_of, treat_ruled}
use Rattle.book.specs.Acting.{names_mandate, names_collection, mandate_found, collection_found, ActedOn, ActedFrom}
use Rattle.book.specs.Events.{Taken}

-- ---- the rows of what an event names

pub record FoundFor (e : Event) (l : Ledger) (mandate collection : Option ℕ) : Type 0 where
  pub mandate_is : names_mandate e.kind ≡ true → mandate ≡ lookup l.mandates l.mandates_used e.mandate
  pub collection_is : names_collection e.kind ≡ true → collection ≡ lookup l.collections l.collections_used e.a

pub found_for :
    (e : Event) (l : Ledger) (mandate collection : Option ℕ) (mandateSince collectionSince : ℕ)
    → (names_mandate e.kind ≡ true → MayStart l.mandates l.mandates_used e.mandate mandateSince)
    → (names_collection e.kind ≡ true → MayStart l.collections l.collections_used e.a collectionSince)
    → mandate ≡ cond (names_mandate e.kind) (lookup_since l.mandates l.mandates_used e.mandate mandateSince) None
    → collection ≡ cond (names_collection e.kind) (lookup_since l.collections l.collections_used e.a collectionSince) None
    → FoundFor e l mandate collection
found_for e l mandate collection mandateSince collectionSince s t m c = record {
  mandate_is = λ n. m ∙ rw n (s n);
  collection_is = λ n. c ∙ rw n (t n);
}

-- ---- acting on the event is the model's answer and effect

module _ (l : Ledger) (e : Event) (mandate collection : Option ℕ) (r : Result HandedOn Refusal) (l' : Ledger)
    (f : fit l ≡ true) (w : checked e ≡ (Ok tt)) (n : FoundFor e l mandate collection) where
  abbrev Ruled : Action → Type 0
  Ruled a = ActedOn mandate collection l e.date a r l' → AsRuled l e.date a r l'

  -- an event of a kind that asks for the action a
  asks : (a : Action) → action_of e ≡ a → Ruled a → Ruled (action_of e)
  asks a q h = subst Ruled (sym q) h

  names_mandate_lem : (k : ℕ) → e.kind ≡ k → names_mandate k ≡ true → mandate ≡ lookup l.mandates l.mandates_used e.mandate
  names_mandate_lem k q h = n.mandate_is (ap names_mandate q ∙ h)

  names_collection_lem : (k : ℕ) → e.kind ≡ k → names_collection k ≡ true → collection ≡ lookup l.collections l.collections_used e.a
  names_collection_lem k q h = n.collection_is (ap names_collection q ∙ h)

  treats : (k : ℕ) (t : Treatment) → e.kind ≡ k → names_collection k ≡ true → ((way : Way) → t ≡ Undo way → rate_of way ≤ rate_limit) → action_of e ≡ Treat e.a t → Ruled (action_of e)
  treats k t i c rated q =
      asks (Treat e.a t) q
      (treat_ruled l e.date e.a t f (record { in_range_lem = (checked_facts e w).date; rated = rated }) r l' collection (names_collection_lem k i c))

  free : (way : Way) → rate_of way ≡ 0 → (x : Way) → Undo way ≡ Undo x → rate_of x ≤ rate_limit
  free way z x q = let p : way ≡ x = cc in let s : rate_of x ≡ 0 = ap rate_of (sym p) ∙ z in omega arith

  pub acted_ruled : Ruled (action_of e)
  unfolding new_mandate
  acted_ruled =
      let m = checked_facts e w in
      kind_cases (Ruled (action_of e)) e.kind m.kind (
        λ i. asks _ (action_creditor e i) (creditor_ruled l e.date r l' e.a e.b (creditor_facts e m i).creditor.from (omega (arith, (creditor_facts e m i).creditor.to, (fit_facts l f).sizes.creditor_table))),
        (
          λ i. asks _ (action_mandate e i) (mandate_ruled l e.date r l' mandate (new_mandate e) (names_mandate_lem 2 i refl)),
          (
            λ i. asks _ (action_amend e i) (change_ruled l e.date r l' mandate e.mandate (amendment e) (names_mandate_lem 3 i refl)),
            (
              λ i. asks _ (action_cancel e i) (change_ruled l e.date r l' mandate e.mandate Cancel (names_mandate_lem 4 i refl)),
              (
                λ i. asks _ (action_collect e i) (collect_ruled l e.date r l' mandate collection (presentation e) (names_mandate_lem 5 i refl) (names_collection_lem 5 i refl)),
                (
                  λ i. treats 6 Settle i refl (λ way q. absurd cc) (action_settle e i),
                  (
                    λ i. treats 7 Reject i refl (λ way q. absurd cc) (action_reject e i),
                    (
                      λ i. treats 8 (Undo ByReturn) i refl (free ByReturn refl) (action_return e i),
                      (
                        λ i. treats 9 (Undo (ByRefund e.b (authorisation e.code))) i refl
                            (λ way q. let p : ByRefund e.b (authorisation e.code) ≡ way = cc in subst (λ (x : Way). rate_of x ≤ rate_limit) p (refund_facts e m i).rate.to)
                            (action_refund e i),
                        (
                          λ i. treats 10 (Undo ByReversal) i refl (free ByReversal refl) (action_reversal e i),
                          tt,
                        ),
                      ),
                    ),
                  ),
                ),
              ),
            ),
          ),
        ),
      )

-- ---- the call

module _ (l : Ledger) (e : Event) where
  made : (r : Result HandedOn Refusal) (l' : Ledger) → r ≡ outcome l e → l' ≡ after l e → Taken l e r l'
  unfolding outcome
  made r l' a b = record {
    outcome_is = a;
    number_is = ap (λ (x : Result HandedOn Refusal). answer_number x) a ∙ verdict_number (answer l e) (handed_on (action_of e)) ∙ event_numbers l e;
    value_is = ap answer_value a ∙ event_values l e;
    after_is = b;
  }

  pub taken_unfit : fit l ≡ false → Taken l e (Err UnfitMemory) l
  unfolding outcome answer after
  taken_unfit f = made (Err UnfitMemory) l (rw f) (rw f)

  pub taken_refused : (r : Refusal) → fit l ≡ true → checked e ≡ Err r → Taken l e (Err r) l
  unfolding outcome answer after
  taken_refused r f c = made (Err r) l (rw (f, c)) (rw (f, c))

  pub acted_taken :
      (mandate collection : Option ℕ) (r : Result HandedOn Refusal) (l' : Ledger) → fit l ≡ true → checked e ≡ (Ok tt) → FoundFor e l mandate collection
      → ActedOn mandate collection l e.date (action_of e) r l' → Taken l e r l'
  unfolding outcome answer after
  acted_taken mandate collection r l' f w n d =
      let s = acted_ruled l e mandate collection r l' f w n d in
      made r l' (rw (f, w) s.answer_is) (rw (f, w) (s.after_is ∙ after_verdict (ruled l e.date (action_of e)) (handed_on (action_of e)) _ l))

  -- by the rows that are found from a row on in each table
  pub acted_from :
      (mandate collection : Option ℕ) (i j : ℕ) (r : Result HandedOn Refusal) (l' : Ledger) → mandate ≡ mandate_found e l i → collection ≡ collection_found e l j
      → ActedOn mandate collection l e.date (action_of e) r l' → ActedFrom i j l e r l'
  acted_from mandate collection i j r l' m c d =
      subst (λ (x : Option ℕ). ActedOn x (collection_found e l j) l e.date (action_of e) r l') m
      (subst (λ (x : Option ℕ). ActedOn mandate x l e.date (action_of e) r l') c d)

  pub taken_from :
      (i j : ℕ) (r : Result HandedOn Refusal) (l' : Ledger) → fit l ≡ true → checked e ≡ (Ok tt)
      → (names_mandate e.kind ≡ true → MayStart l.mandates l.mandates_used e.mandate i)
      → (names_collection e.kind ≡ true → MayStart l.collections l.collections_used e.a j)
      → ActedFrom i j l e r l' → Taken l e r l'
  taken_from i j r l' f w s t d = acted_taken _ _ r l' f w (found_for e l _ _ i j s t refl refl) d

  -- and from the first row
  pub taken_first : (r : Result HandedOn Refusal) (l' : Ledger) → fit l ≡ true → checked e ≡ (Ok tt) → ActedFrom 0 0 l e r l' → Taken l e r l'
  taken_first r l' f w d =
      taken_from 0 0 r l' f w
      (λ n. lookup_since_first l.mandates l.mandates_used e.mandate)
      (λ n. lookup_since_first l.collections l.collections_used e.a) d
