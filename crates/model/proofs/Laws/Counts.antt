-- Of each collection as much was accepted as its state says, and every event keeps it so. A count t gives, for a sort of treatment and a
-- collection, how many were accepted. To cite: `Counted`, `counted_run`, `count_le`. Assumes nothing.
use mathlib.Core.Path.{◌≡◌, refl, sym, ap, ◌∙◌}
use mathlib.Core.Bool.{Bool, true, cond, ◌&&◌}
use mathlib.Core.List.{List, [], ◌∷◌}
use Prim.Native.Nat.{ℕ, ◌+◌, ◌≤◌, ◌<◌}
use native.Mathlib.Nat.{add-zero}
use native.Mathlib.Omega.{arith}
use lib.Dec.{eqb}
use borrow.Author.Tests.{ltb-true, eqb-true, eqb-false, eq-eqb, ne_eqb}
use Rattle.std.proofs.lemmas.Bool.{cond_both}
use Rattle.common.proofs.Tests.{either, not_true, and_halves}
use Rattle.events.specs.declared.Event.{Event}
use Rattle.common.specs.Tests.{among}
use Rattle.tables.specs.Ledger.{Ledger}
use Rattle.tables.specs.Rows.{rows}
use Rattle.fitness.specs.Fitness.{fit}
use Rattle.tables.specs.declared.Collection.{Collection}
use Rattle.tables.specs.declared.State.{State}
use Rattle.tables.specs.declared.State.TheVariants.{Presented, Rejected, Settled, Undone}
use Rattle.model.specs.declared.Action.{Action}
use Rattle.model.specs.declared.Presentation.{Presentation}
use Rattle.model.specs.declared.Treatment.{Treatment}
use Rattle.model.specs.Actions.{action_of}
use Rattle.model.specs.declared.Action.TheVariants.{AddCreditor, AddMandate, ChangeMandate, Collect, Treat}
use Rattle.model.specs.declared.Treatment.TheVariants.{Settle, Reject, Undo}
use Rattle.model.specs.Lookups.{Known, is_known, mandate_of, collection_of}
use Rattle.model.specs.Lookups.Known.{unknown, known}
use Rattle.model.specs.Checks.{state_fits}
use Rattle.model.specs.Effects.{dated, keep_mandate, keep_collection, presented_on, new_collection, state_after, treated, post_treated, effect}
use Rattle.model.specs.Step.{is_accepted, answer, after, run, history}
use Rattle.model.specs.Promises.{times}
use Rattle.model.proofs.Laws.Views.{collection_of_add}
use Rattle.model.proofs.Laws.Sound.{Passed}
use Rattle.model.proofs.Laws.Effects.{not_known, MandateThere, mandate_there_lem, CollectionThere, collection_there, treated_number, effect_change, effect_collect, effect_treat, collections_kept}
use Rattle.model.proofs.Laws.Accepted.{after_cases, is_presented_lem, is_settled_lem, state_found}
use Rattle.model.proofs.Laws.Wordings.{Sort, kinds_of, sorted, treats, every_sort, counted_action}
use Rattle.model.proofs.Laws.Wordings.Sort.{Ends, Undos, Settles}

-- ---- how many were accepted of a collection in a state

abbrev pub count_in : Sort → State → ℕ
count_in Ends Presented = 0
count_in Ends Rejected = 1
count_in Ends (Settled day) = 1
count_in Ends (Undone day by) = 1
count_in Undos Presented = 0
count_in Undos Rejected = 0
count_in Undos (Settled day) = 0
count_in Undos (Undone day by) = 1
count_in Settles Presented = 0
count_in Settles Rejected = 0
count_in Settles (Settled day) = 1
count_in Settles (Undone day by) = 1

abbrev pub count_known : Sort → Known Collection → ℕ
count_known sort unknown = 0
count_known sort (known k) = count_in sort k.state

abbrev pub Counted : Ledger → (Sort → ℕ → ℕ) → Type 0
Counted l t = (sort : Sort) (c : ℕ) → t sort c ≡ count_known sort (collection_of l c)

-- never more than one
pub count_le : (sort : Sort) (x : Known Collection) → count_known sort x ≤ 1
count_le sort unknown = omega arith
count_le sort (known k) = by_state k.state sort
  where
    by_state : (s : State) (sort : Sort) → count_in sort s ≤ 1
    by_state Presented = every_sort (λ x. count_in x Presented ≤ 1) (omega arith) (omega arith) (omega arith)
    by_state Rejected = every_sort (λ x. count_in x Rejected ≤ 1) (omega arith) (omega arith) (omega arith)
    by_state (Settled day) = every_sort (λ x. count_in x (Settled day) ≤ 1) (omega arith) (omega arith) (omega arith)
    by_state (Undone day by) = every_sort (λ x. count_in x (Undone day by) ≤ 1) (omega arith) (omega arith) (omega arith)

-- ---- each event, on a fit ledger

-- one action more
abbrev Counts : (Sort → ℕ → ℕ) → (Sort → ℕ → ℕ) → Action → Type 0
Counts t t' a = (sort : Sort) (c : ℕ) → t' sort c ≡ t sort c + cond (treats sort c a) 1 0

none_presented : (sort : Sort) → count_in sort Presented ≡ 0
none_presented = every_sort (λ x. count_in x Presented ≡ 0) refl refl refl

-- a treatment that finds its state leaves one that counts it
count_after : (sort : Sort) (t : Treatment) (date : ℕ) (s : State) → state_fits t s ≡ true → count_in sort (state_after t date) ≡ count_in sort s + cond (sorted sort t) 1 0
count_after sort Settle date s h =
    rw (is_presented_lem s h) (every_sort (λ x. count_in x (Settled date) ≡ count_in x Presented + cond (sorted x Settle) 1 0) refl refl refl sort)
count_after sort Reject date s h =
    rw (is_presented_lem s h) (every_sort (λ x. count_in x Rejected ≡ count_in x Presented + cond (sorted x Reject) 1 0) refl refl refl sort)
count_after sort (Undo way) date s h =
    let i = is_settled_lem s h in
    rw i.is
    (every_sort (λ x. count_in x (state_after (Undo way) date) ≡ count_in x (Settled i.day) + cond (sorted x (Undo way)) 1 0) refl refl refl sort)

module _ (l : Ledger) (t t' : Sort → ℕ → ℕ) (date : ℕ) (g : Counted l t) where
  counted_collect : (p : Presentation) (h : MandateThere l p.mandate) → l.collections_used < rows l.collections → collection_of l p.collection ≡ unknown → Counts t t' (Collect p) → Counted (effect l date (Collect p)) t'
  unfolding collection_of new_collection
  counted_collect p h r u n sort c =
      let k = new_collection l.creditors p h.mandate in
      rw (effect_collect l date p h, collection_of_add (keep_mandate (dated l date) h.row (presented_on p h.mandate)) k r u c)
      (n sort c ∙ add-zero _ ∙ g sort c ∙ cond_both (eqb c p.collection) (known k) (collection_of l c) (λ x. count_known sort (collection_of l c) ≡ count_known sort x) (λ q. rw (eqb-true c p.collection q, u) (sym (none_presented sort))) (λ q. refl))

  -- a posting does not change the rows
  posted_same : (m : Ledger) (tr : Treatment) (k : Collection) (c : ℕ) → collection_of (post_treated m tr date k) c ≡ collection_of m c
  unfolding collection_of
  posted_same m Settle k c = refl
  posted_same m Reject k c = refl
  posted_same m (Undo way) k c = refl

  counted_treat : (n : ℕ) (h : CollectionThere l n) (tr : Treatment) → state_fits tr h.collection.state ≡ true → Counts t t' (Treat n tr) → Counted (effect l date (Treat n tr)) t'
  unfolding treated
  counted_treat n h tr st cs sort c =
      let k = treated tr date h.collection in
      rw (effect_treat l date n tr h, posted_same (keep_collection (dated l date) h.row k) tr h.collection c, collections_kept l date n h k (treated_number tr date h.collection ∙ h.number) c)
      (either (eqb c n)
      (λ b.
      let i = eqb-true c n b in
      let was = g sort n ∙ ap (count_known sort) h.is in
      rw b (rw i (cs sort n ∙ rw (eq-eqb n n refl, was, count_after sort tr date h.collection.state st))))
      (λ b.
      let i = eqb-false c n b in
      rw b (cs sort c ∙ rw (ne_eqb n c (λ s. i (sym s))) (omega (arith, g sort c)))))

  counted_kept : (a : Action) → fit l ≡ true → Passed l date a → Counts t t' a → Counted (effect l date a) t'
  unfolding effect collection_of
  counted_kept (AddCreditor a b) f p n sort c = n sort c ∙ add-zero _ ∙ g sort c
  counted_kept (AddMandate m) f p n sort c = n sort c ∙ add-zero _ ∙ g sort c
  counted_kept (ChangeMandate i x) f p n sort c =
      let h = mandate_there_lem l i f (and_halves (is_known (mandate_of l i)) p.there).0 in
      rw (effect_change l date i x h) (n sort c ∙ add-zero _ ∙ g sort c)
  counted_kept (Collect p) f q n sort c =
      counted_collect p (mandate_there_lem l p.mandate f q.there) (ltb-true l.collections_used (rows l.collections) q.row)
      (not_known (collection_of l p.collection) (not_true q.new)) n sort c
  counted_kept (Treat i tr) f p n sort c =
      let h = collection_there l i f p.there in
      counted_treat i h tr (state_found l i date h tr p) n sort c

-- ---- every event and every list

-- what an event counts for
abbrev count_of : Bool → Event → Sort → ℕ → ℕ
count_of accepted e sort c = cond (accepted && (eqb e.a c && among (kinds_of sort) e.kind)) 1 0

counted_after : (l : Ledger) (t : Sort → ℕ → ℕ) (e : Event) → Counted l t → Counted (after l e) (λ sort c. t sort c + count_of (is_accepted (answer l e)) e sort c)
counted_after l t e g =
    after_cases (λ b x. Counted x (λ sort c. t sort c + count_of b e sort c)) l e
    (λ a.
    counted_kept l t (λ sort c. t sort c + count_of true e sort c) e.date g (action_of e) a.fits a.passed
    (λ sort c. ap (λ (b : Bool). t sort c + cond b 1 0) (counted_action sort c e a.is_within)))
    (λ sort c. omega (arith, g sort c))

pub counted_run : (l : Ledger) (t : Sort → ℕ → ℕ) → Counted l t → (es : List Event) → Counted (run l es) (λ sort c. t sort c + times (kinds_of sort) c (history l es))
unfolding run history times
counted_run l t g [] sort c = omega (arith, g sort c)
counted_run l t g (e ∷ es) sort c =
    let n : Sort → ℕ → ℕ = λ s i. t s i + count_of (is_accepted (answer l e)) e s i in
    let r = counted_run (after l e) n (counted_after l t e g) es sort c in
    omega (arith, r)
