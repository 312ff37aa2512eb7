-- The journal's words and the step's say the same. `note_of` is what an action asks the journal to note by the step's own rules
-- (`closes`, `undone`, `kept_due`); an event within its limits is noted as its action asks, `note_action`. `treats` counts actions as the
-- promises count events by their kinds, `counted_action`. The invariant keeps these and cites both laws once. Assumes nothing.
use Rattle.std.proofs.Common.{None, Ok, Option, Some, ℕ}
use Rattle.std.proofs.lemmas.Bool.{ltb-true, ltb-false}
use mathlib.Core.Path.{◌≡◌, refl, sym, ap, ◌∙◌}
use mathlib.Core.Bool.{Bool, true, false, cond, ◌&&◌, and-false}
use mathlib.Core.List.{List}
use Prim.Native.Nat.{ℕ, zero, suc, ◌≤◌}
use native.Mathlib.Omega.{arith}
use lib.Dec.{eqb, ltb}
use lib.IntN.{pos, neg_ℤ-neg_ℤ}
use Rattle.common.proofs.Tests.{either}
use Rattle.calendar.specs.Target.{first_business_day}
use Rattle.positions.specs.Compensation.{compensation as compensationFor, interest, half_up, half_even}
use Rattle.positions.specs.Postings.{settlement}
use Rattle.positions.proofs.Laws.Compensation.{compensation_before, compensation_from}
use Rattle.positions.specs.declared.Postings.{Postings}
use Rattle.events.specs.declared.Event.{Event}
use Rattle.events.specs.Limits.{checked}
use Rattle.common.specs.Tests.{among}
use Rattle.events.proofs.Laws.Limits.{Limited, checked_facts, kind_cases, collect_facts}
use Rattle.tables.specs.declared.Standing.TheVariants.{Closed, Cancelled}
use Rattle.model.specs.declared.Action.{Action}
use Rattle.model.specs.declared.Change.{Change}
use Rattle.model.specs.declared.Presentation.{Presentation}
use Rattle.model.specs.declared.Treatment.{Treatment}
use Rattle.model.specs.Actions.{new_mandate, presentation, authorisation, action_of}
use Rattle.model.specs.declared.Action.TheVariants.{AddCreditor, AddMandate, ChangeMandate, Collect, Treat}
use Rattle.model.specs.declared.Change.TheVariants.{NewBank, NewCreditor, Cancel}
use Rattle.model.specs.declared.Treatment.TheVariants.{Settle, Reject, Undo}
use Rattle.model.specs.declared.Way.TheVariants.{ByReturn, ByRefund, ByReversal}
use Rattle.model.specs.Deadlines.{date_found, kept_due, days_since}
use Rattle.model.specs.Effects.{closes, undone}
use Rattle.model.specs.Lookups.{Known}
use Rattle.model.specs.Lookups.Known.{unknown, known}
use Rattle.model.specs.Journal.{Journal, NotedMandate, NotedCollection, with_bank, with_mandate, with_collection, adding, needing, noted_anew, new_noted, amended, cancelled, due_on, is_last, collected_on, noted_collection, note_collect, noted_settled, note_settle, note_back, note_refund, paid_on, needing_settled, note_kind, note}
use Rattle.model.specs.Noted.{noted_of}
use Rattle.model.specs.Promises.{settles, ends, undoings}
use Rattle.model.proofs.Laws.Actions.{action_creditor, action_mandate, action_amend, action_cancel, action_collect, action_settle, action_reject, action_return, action_refund, action_reversal}

-- ---- by the step's rules

unfoldable pub change_of : Change → NotedMandate → NotedMandate
change_of (NewBank b) m = noted_anew m m.creditor b m.standing m.presented
change_of (NewCreditor a) m = noted_anew m a m.bank m.standing m.presented
change_of Cancel m = noted_anew m m.creditor m.bank Cancelled m.presented

unfoldable pub present_of : Presentation → NotedMandate → NotedMandate
present_of p m = noted_anew m m.creditor m.bank (cond (closes p.code) Closed m.standing) (kept_due p.requested)

unfoldable pub collection_noted : Journal → Presentation → NotedMandate → NotedCollection
collection_noted j p m = record {
  mandate = p.mandate;
  code = p.code;
  amount = p.amount;
  creditor = m.creditor;
  debtor = m.debtor;
  cbank = j.banks m.creditor;
  dbank = m.bank;
  settled = 0;
}

abbrev pub with_figures : Journal → NotedCollection → Postings → Journal
with_figures j k p = adding j k p.debtor p.creditor p.dbank p.cbank p.compensation

abbrev pub treat_of : Journal → ℕ → ℕ → NotedCollection → Treatment → Journal
treat_of j date number k Settle = with_figures (with_collection j number (noted_settled k date)) k (settlement k.amount)
treat_of j date number k Reject = j
treat_of j date number k (Undo way) =
    cond (eqb k.settled 0) j (with_figures j k (undone way k.amount k.settled date))

unfoldable pub note_of : Journal → ℕ → Action → Journal
note_of j date (AddCreditor a b) = with_bank j a b
note_of j date (AddMandate m) = with_mandate j m.number (noted_of m)
note_of j date (ChangeMandate n c) = needing (j.mandates n) j (λ m. with_mandate j n (change_of c m))
note_of j date (Collect p) =
    needing (j.mandates p.mandate) j
    (λ m.
    cond (eqb (j.banks m.creditor) 0) j
    (with_collection (with_mandate j p.mandate (present_of p m)) p.collection (collection_noted j p m)))
note_of j date (Treat n t) = needing (j.collections n) j (λ k. treat_of j date n k t)

-- ---- the same

-- what is done to what is known
needing_same : {A : Type 0} (x : Known A) (j : Journal) (f g : A → Journal) → ((a : A) → f a ≡ g a) → needing x j f ≡ needing x j g
needing_same unknown j f g h = refl
needing_same (known a) j f g h = h a

needing_none : {A : Type 0} (x : Known A) (j : Journal) → j ≡ needing x j (λ a. j)
needing_none unknown j = refl
needing_none (known a) j = refl

due_same : (a : Option ℕ) → due_on a ≡ date_found a
due_same (Some x) = refl
due_same None = refl

-- FNAL and OOFF are the codes from 2 on
last_closes : (code : ℕ) → code ≤ 3 → is_last code ≡ closes code
last_closes zero h = refl
last_closes (suc zero) h = refl
last_closes (suc (suc zero)) h = refl
last_closes (suc (suc (suc zero))) h = refl
last_closes (suc (suc (suc (suc n)))) h = absurd (omega arith)

-- for every date the journal rounds as `compensation` does
rule_same :
    (date A rate days : ℕ)
    → cond (ltb date 20260101) (half_up (interest A rate days) 3600000) (half_even (interest A rate days) 3600000)
    ≡ compensationFor date A rate days
rule_same date A rate days =
    either (ltb date 20260101)
    (λ b. rw b (sym (compensation_before date A rate days (ltb-true date 20260101 b))))
    (λ b. rw b (sym (compensation_from date A rate days (ltb-false date 20260101 b))))

module _ (j : Journal) (e : Event) where
  amended_same : (m : NotedMandate) → amended e m ≡ change_of (cond (eqb e.code 0) (NewBank e.c) (NewCreditor e.a)) m
  unfolding amended change_of
  amended_same m =
      either (eqb e.code 0) (λ b. rw b) (λ b. rw b)

  collected_same : e.code ≤ 3 → (m : NotedMandate) → collected_on e m ≡ present_of (presentation e) m
  unfolding collected_on present_of kept_due
  collected_same h m = rw (last_closes e.code h, due_same (first_business_day e.second))

  collection_same : (m : NotedMandate) → noted_collection j e m ≡ collection_noted j (presentation e) m
  unfolding noted_collection collection_noted
  collection_same m = refl

  collect_same : e.code ≤ 3 → note_collect j e ≡ note_of j e.date (Collect (presentation e))
  unfolding note_collect note_of
  collect_same h =
      needing_same (j.mandates e.mandate) j _ _
      (λ m. rw (collected_same h m, collection_same m))

  back_same : (k : NotedCollection) → note_back j k ≡ with_figures j k (undone ByReturn k.amount k.settled e.date)
  unfolding note_back
  back_same k = rw (neg_ℤ-neg_ℤ (pos k.amount))

  refund_same : (k : NotedCollection) → note_refund j k (paid_on e k) ≡ with_figures j k (undone (ByRefund e.b (authorisation e.code)) k.amount k.settled e.date)
  unfolding note_refund paid_on
  refund_same k = rw (rule_same e.date k.amount e.b (days_since k.settled e.date)) refl

  undo_same : (f g : NotedCollection → Journal) → ((k : NotedCollection) → f k ≡ g k) → needing_settled j e f ≡ needing (j.collections e.a) j (λ k. cond (eqb k.settled 0) j (g k))
  undo_same f g h =
      needing_same (j.collections e.a) j _ _ (λ k. ap (λ (x : Journal). cond (eqb k.settled 0) j x) (h k))

  -- each kind

  note_creditor : e.kind ≡ 1 → note j e ≡ note_of j e.date (action_of e)
  unfolding note_kind note_of
  note_creditor h = ap (λ k. note_kind k j e) h ∙ sym (ap (note_of j e.date) (action_creditor e h))

  note_mandate : e.kind ≡ 2 → note j e ≡ note_of j e.date (action_of e)
  unfolding note_kind note_of new_noted new_mandate noted_of
  note_mandate h = ap (λ k. note_kind k j e) h ∙ sym (ap (note_of j e.date) (action_mandate e h))

  note_amend : e.kind ≡ 3 → note j e ≡ note_of j e.date (action_of e)
  unfolding note_kind note_of
  note_amend h =
      ap (λ k. note_kind k j e) h
      ∙ needing_same (j.mandates e.mandate) j _ _ (λ m. ap (with_mandate j e.mandate) (amended_same m))
      ∙ sym (ap (note_of j e.date) (action_amend e h))

  note_cancel : e.kind ≡ 4 → note j e ≡ note_of j e.date (action_of e)
  unfolding note_kind note_of cancelled change_of
  note_cancel h = ap (λ k. note_kind k j e) h ∙ sym (ap (note_of j e.date) (action_cancel e h))

  note_collect_lem : e.kind ≡ 5 → e.code ≤ 3 → note j e ≡ note_of j e.date (action_of e)
  unfolding note_kind
  note_collect_lem h c = ap (λ k. note_kind k j e) h ∙ collect_same c ∙ sym (ap (note_of j e.date) (action_collect e h))

  note_settle_lem : e.kind ≡ 6 → note j e ≡ note_of j e.date (action_of e)
  unfolding note_kind note_of note_settle
  note_settle_lem h = ap (λ k. note_kind k j e) h ∙ sym (ap (note_of j e.date) (action_settle e h))

  note_reject : e.kind ≡ 7 → note j e ≡ note_of j e.date (action_of e)
  unfolding note_kind note_of
  note_reject h =
      ap (λ k. note_kind k j e) h ∙ needing_none (j.collections e.a) j ∙ sym (ap (note_of j e.date) (action_reject e h))

  note_return : e.kind ≡ 8 → note j e ≡ note_of j e.date (action_of e)
  unfolding note_kind note_of
  note_return h =
      ap (λ k. note_kind k j e) h ∙ undo_same (note_back j) _ back_same ∙ sym (ap (note_of j e.date) (action_return e h))

  note_refund_lem : e.kind ≡ 9 → note j e ≡ note_of j e.date (action_of e)
  unfolding note_kind note_of
  note_refund_lem h =
      ap (λ k. note_kind k j e) h
      ∙ undo_same (λ k. note_refund j k (paid_on e k)) _ refund_same
      ∙ sym (ap (note_of j e.date) (action_refund e h))

  note_reversal : e.kind ≡ 10 → note j e ≡ note_of j e.date (action_of e)
  unfolding note_kind note_of
  note_reversal h =
      ap (λ k. note_kind k j e) h ∙ undo_same (note_back j) _ back_same ∙ sym (ap (note_of j e.date) (action_reversal e h))

module _ (j : Journal) (e : Event) (m : Limited e) where
  by_kind : note j e ≡ note_of j e.date (action_of e)
  by_kind =
      kind_cases (note j e ≡ note_of j e.date (action_of e)) e.kind m.kind (
        note_creditor j e,
        (
          note_mandate j e,
          (
            note_amend j e,
            (
              note_cancel j e,
              (
                λ h. note_collect_lem j e h (collect_facts e m h).code.to,
                (
                  note_settle_lem j e,
                  (
                    note_reject j e,
                    (
                      note_return j e,
                      (
                        note_refund_lem j e,
                        (note_reversal j e, tt),
                      ),
                    ),
                  ),
                ),
              ),
            ),
          ),
        ),
      )

pub note_action : (j : Journal) (e : Event) → checked e ≡ (Ok tt) → note j e ≡ note_of j e.date (action_of e)
note_action j e h = by_kind j e (checked_facts e h)

-- ---- what is counted of a collection

pub data Sort : Type 0 where
  Ends : Sort
  Undos : Sort
  Settles : Sort

abbrev pub kinds_of : Sort → List ℕ
kinds_of Ends = ends
kinds_of Undos = undoings
kinds_of Settles = settles

abbrev pub sorted : Sort → Treatment → Bool
sorted Ends Settle = true
sorted Ends Reject = true
sorted Ends (Undo way) = false
sorted Undos Settle = false
sorted Undos Reject = false
sorted Undos (Undo way) = true
sorted Settles Settle = true
sorted Settles Reject = false
sorted Settles (Undo way) = false

-- an action that treats the collection c in a way of a sort
abbrev pub treats : Sort → ℕ → Action → Bool
treats sort c (AddCreditor a b) = false
treats sort c (AddMandate m) = false
treats sort c (ChangeMandate n x) = false
treats sort c (Collect p) = false
treats sort c (Treat n t) = eqb n c && sorted sort t

module _ (sort : Sort) (c : ℕ) (e : Event) where
  -- the test by the kind of the event
  abbrev named : ℕ → Bool
  named kind = eqb e.a c && among (kinds_of sort) kind

  not_counted : (kind : ℕ) → e.kind ≡ kind → ((s : Sort) → among (kinds_of s) kind ≡ false) → treats sort c (action_of e) ≡ false → named e.kind ≡ treats sort c (action_of e)
  not_counted kind h none t =
      ap named h ∙ ap (λ (b : Bool). eqb e.a c && b) (none sort) ∙ and-false (eqb e.a c) ∙ sym t

  counted : (kind : ℕ) (t : Treatment) → e.kind ≡ kind → ((s : Sort) → among (kinds_of s) kind ≡ sorted s t) → action_of e ≡ Treat e.a t → named e.kind ≡ treats sort c (action_of e)
  counted kind t h same a =
      ap named h ∙ ap (λ (b : Bool). eqb e.a c && b) (same sort) ∙ sym (ap (treats sort c) a)

-- each sort at once
pub every_sort : (P : Sort → Type 0) → P Ends → P Undos → P Settles → (s : Sort) → P s
every_sort P a b c Ends = a
every_sort P a b c Undos = b
every_sort P a b c Settles = c

module _ (sort : Sort) (c : ℕ) (e : Event) (m : Limited e) where
  none_at : (kind : ℕ) → among ends kind ≡ false → among undoings kind ≡ false → among settles kind ≡ false → (s : Sort) → among (kinds_of s) kind ≡ false
  none_at kind = every_sort (λ s. among (kinds_of s) kind ≡ false)

  same_at : (kind : ℕ) (t : Treatment) → among ends kind ≡ sorted Ends t → among undoings kind ≡ sorted Undos t → among settles kind ≡ sorted Settles t → (s : Sort) → among (kinds_of s) kind ≡ sorted s t
  same_at kind t = every_sort (λ s. among (kinds_of s) kind ≡ sorted s t)

  counted_by_kind : named sort c e e.kind ≡ treats sort c (action_of e)
  counted_by_kind =
      kind_cases (named sort c e e.kind ≡ treats sort c (action_of e)) e.kind m.kind (
        λ h. not_counted sort c e 1 h (none_at 1 refl refl refl) (ap (treats sort c) (action_creditor e h)),
        (
          λ h. not_counted sort c e 2 h (none_at 2 refl refl refl) (ap (treats sort c) (action_mandate e h)),
          (
            λ h. not_counted sort c e 3 h (none_at 3 refl refl refl) (ap (treats sort c) (action_amend e h)),
            (
              λ h. not_counted sort c e 4 h (none_at 4 refl refl refl) (ap (treats sort c) (action_cancel e h)),
              (
                λ h. not_counted sort c e 5 h (none_at 5 refl refl refl) (ap (treats sort c) (action_collect e h)),
                (
                  λ h. counted sort c e 6 Settle h (same_at 6 Settle refl refl refl) (action_settle e h),
                  (
                    λ h. counted sort c e 7 Reject h (same_at 7 Reject refl refl refl) (action_reject e h),
                    (
                      λ h. counted sort c e 8 (Undo ByReturn) h (same_at 8 (Undo ByReturn) refl refl refl) (action_return e h),
                      (
                        λ h. counted sort c e 9 _ h (same_at 9 (Undo (ByRefund e.b (authorisation e.code))) refl refl refl) (action_refund e h),
                        (λ h. counted sort c e 10 (Undo ByReversal) h (same_at 10 (Undo ByReversal) refl refl refl) (action_reversal e h), tt),
                      ),
                    ),
                  ),
                ),
              ),
            ),
          ),
        ),
      )

-- an event within its limits counts by its kind as its action does
pub counted_action : (sort : Sort) (c : ℕ) (e : Event) → checked e ≡ (Ok tt) → eqb e.a c && among (kinds_of sort) e.kind ≡ treats sort c (action_of e)
counted_action sort c e h = counted_by_kind sort c e (checked_facts e h)
