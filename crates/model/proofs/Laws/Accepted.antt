-- What acceptance says, of any ledger: it is fit, the event is within its limits, every test passed, and a treatment found the collection in
-- its state. And the ledger after an event, by its answer. To cite: `Accepts` with `accepted_facts`, `after_cases`; `is_presented_lem`, `is_settled_lem`;
-- `UndoFacts` with `undo_facts`. Assumes nothing.
use Rattle.std.proofs.Common.{Err, Ok, Result}
use mathlib.Core.Path.{◌≡◌, refl, subst}
use mathlib.Core.Bool.{Bool, true, false}
use Prim.Native.Nat.{ℕ}
use Rattle.common.proofs.Tests.{and_halves}
use Rattle.common.proofs.Checks.{check_passes}
use Rattle.refusals.specs.declared.Refusal.{Refusal}
use Rattle.refusals.specs.declared.Refusal.TheVariants.{UnfitMemory}
use Rattle.calendar.specs.Gregorian.{in_range}
use Rattle.events.specs.declared.Event.{Event}
use Rattle.events.specs.Limits.{checked}
use Rattle.tables.specs.Ledger.{Ledger}
use Rattle.tables.specs.Records.{state_tag, state_day}
use Rattle.fitness.specs.Fitness.{day_fit, fit}
use Rattle.tables.specs.declared.Collection.{Collection}
use Rattle.tables.specs.declared.State.{State}
use Rattle.tables.specs.declared.State.TheVariants.{Presented, Rejected, Settled, Undone}
use Rattle.model.specs.declared.Treatment.{Treatment}
use Rattle.model.specs.declared.Way.{Way}
use Rattle.model.specs.Actions.{action_of}
use Rattle.model.specs.declared.Action.TheVariants.{Treat}
use Rattle.model.specs.declared.Treatment.TheVariants.{Undo}
use Rattle.model.specs.Deadlines.{in_time}
use Rattle.model.specs.Checks.{is_presented, is_settled, state_fits, settled_on, time_treated, ruled}
use Rattle.model.specs.Effects.{effect}
use Rattle.model.specs.Step.{is_accepted, then_ruled, answer, after_answer, after}
use Rattle.model.proofs.Laws.Sound.{Sound, sound_event, Passed, passed}
use Rattle.model.proofs.Laws.Effects.{of_known_lem, CollectionThere}

-- ---- an accepted event

pub record Accepts (l : Ledger) (e : Event) : Type 0 where
  pub fits : fit l ≡ true
  pub is_within : checked e ≡ (Ok tt)
  pub range : in_range e.date ≡ true
  pub sound : Sound (action_of e)
  pub passed : Passed l e.date (action_of e)

checked_passed : (c : Result Unit Refusal) (a : Result Unit Refusal) → then_ruled c a ≡ (Ok tt) → (c ≡ (Ok tt)) × (a ≡ (Ok tt))
checked_passed (Ok tt) a e = (refl, e)
checked_passed (Err r) a e = absurd cc

pub accepted_facts : (l : Ledger) (e : Event) → answer l e ≡ (Ok tt) → Accepts l e
unfolding answer
accepted_facts l e h =
    let rules = ruled l e.date (action_of e) in
    let f = check_passes (fit l) (then_ruled (checked e) rules) (Err UnfitMemory) refl h in
    let c = checked_passed (checked e) rules f.1 in
    let s = sound_event e c.0 in
    record { fits = f.0; is_within = c.0; range = s.0; sound = s.1; passed = passed l e.date (action_of e) c.1 }

-- ---- the ledger after an event, and whether it was accepted: the effect, or the ledger as it was

pub after_cases : (P : Bool → Ledger → Type 0) (l : Ledger) (e : Event)
    → (Accepts l e → P true (effect l e.date (action_of e))) → P false l
    → P (is_accepted (answer l e)) (after l e)
unfolding after
after_cases P l e changed same = by_answer (answer l e) refl
  where
    by_answer : (a : Result Unit Refusal) → answer l e ≡ a → P (is_accepted a) (after_answer a (effect l e.date (action_of e)) l)
    by_answer (Ok tt) i = changed (accepted_facts l e i)
    by_answer (Err r) i = same

pub was_accepted : (l : Ledger) (e : Event) → is_accepted (answer l e) ≡ true → Accepts l e
was_accepted l e = after_cases (λ b x. b ≡ true → Accepts l e) l e (λ a i. a) (λ i. absurd cc)

-- ---- the state that a treatment finds

pub is_presented_lem : (s : State) → is_presented s ≡ true → s ≡ Presented
is_presented_lem Presented e = refl
is_presented_lem Rejected e = absurd cc
is_presented_lem (Settled day) e = absurd cc
is_presented_lem (Undone day by) e = absurd cc

pub record IsSettled (s : State) : Type 0 where
  pub day : ℕ
  pub is : s ≡ Settled day

pub is_settled_lem : (s : State) → is_settled s ≡ true → IsSettled s
is_settled_lem Presented e = absurd cc
is_settled_lem Rejected e = absurd cc
is_settled_lem (Settled day) e = record { day = day; is = refl }
is_settled_lem (Undone day by) e = absurd cc

module _ (l : Ledger) (n date : ℕ) (h : CollectionThere l n) where
  pub state_found : (t : Treatment) → Passed l date (Treat n t) → state_fits t h.collection.state ≡ true
  state_found t p = of_known_lem (λ (k : Collection). state_fits t k.state) h.is p.state

  pub record UndoFacts (way : Way) : Type 0 where
    pub day : ℕ
    pub state : h.collection.state ≡ Settled day
    pub real : in_range day ≡ true
    pub in_time_lem : in_time way day date ≡ true

  -- the day of a settled collection is a date in range
  settled_day : (day : ℕ) → day_fit l.latest (state_tag (Settled day)) (state_day (Settled day)) ≡ true → in_range day ≡ true
  settled_day day e = (and_halves (in_range day) e).0

  pub undo_facts : (way : Way) → Passed l date (Treat n (Undo way)) → UndoFacts way
  undo_facts way p =
      let s = is_settled_lem h.collection.state (state_found (Undo way) p) in
      let i = of_known_lem (λ (k : Collection). time_treated (Undo way) k.state date) h.is p.last in
      record {
        day = s.day;
        state = s.is;
        real =
            settled_day s.day
            (subst (λ (x : State). day_fit l.latest (state_tag x) (state_day x) ≡ true) s.is h.fits.state_fit);
        in_time_lem = subst (λ (x : State). in_time way (settled_on x) date ≡ true) s.is i;
      }
