-- What an answer hands on. To cite: `verdict_go`, `verdict_refuse`, `verdict_number`, `outcome_accepted`, `outcome_refused`, `kept_both`,
-- `event_values`, `collect_hands_on`, `others_hand_on_nothing`. Assumes nothing.
use Rattle.std.specs.Option.{unwrap_or}
use Rattle.std.proofs.Common.{Err, None, Ok, Option, Result, Some, ℕ}
use mathlib.Core.Path.{◌≡◌, refl, sym, ap, subst, ◌∙◌}
use mathlib.Core.Bool.{Bool, true, false, cond, ◌&&◌}
use native.Mathlib.Omega.{arith}
use borrow.Author.Tests.{ne_eqb, eqb-true}
use lib.Dec.{eqb}
use Rattle.common.proofs.Tests.{either}
use Rattle.calendar.specs.declared.CalendarDays.{CalendarDays}
use Rattle.calendar.specs.declared.KeptDate.{KeptDate}
use Rattle.calendar.specs.Target.{first_business_day, with_days, kept}
use Rattle.calendar.proofs.Laws.Gregorian.{range_facts}
use Rattle.calendar.proofs.Laws.Promises.{slide_limit_lem}
use Rattle.events.specs.declared.Event.{Event}
use Rattle.refusals.specs.declared.Refusal.{Refusal}
use Rattle.refusals.specs.Refusals.{number_of}
use Rattle.refusals.proofs.Laws.Refusals.{number_of_pos}
use Rattle.tables.specs.Ledger.{Ledger}
use Rattle.model.specs.declared.Action.{Action}
use Rattle.model.specs.declared.Action.TheVariants.{AddCreditor, AddMandate, ChangeMandate, Treat}
use Rattle.model.specs.declared.Change.TheVariants.{Cancel}
use Rattle.model.specs.declared.Treatment.TheVariants.{Settle, Reject, Undo}
use Rattle.model.specs.declared.Way.TheVariants.{ByReturn, ByRefund}
use Rattle.model.specs.declared.HandedOn.{HandedOn}
use Rattle.model.specs.declared.HandedOn.TheVariants.{Nothing, Slid}
use Rattle.model.specs.Actions.{new_mandate, amendment, authorisation, action_of}
use Rattle.model.specs.Deadlines.{date_found, kept_due, days_found, slid, kept_with_days}
use Rattle.model.specs.Step.{answer_number, is_accepted, answer, event_number, handed_on, verdict_by, outcome, value_of, answer_value, event_value}
use Rattle.model.specs.Promises.{EventValues, CollectHandsOn, OthersHandOnNothing}
use Rattle.model.proofs.Laws.Actions.{action_collect}
use Rattle.model.proofs.Laws.Sound.{Sound}
use Rattle.model.proofs.Laws.Accepted.{was_accepted}
use Rattle.model.proofs.Laws.Answers.{accepted_number, event_numbers}

-- ---- a verdict

pub verdict_go : {A : Type 0} (a : Result Unit Refusal) (p x : A) → verdict_by a p ≡ Ok x → (a ≡ (Ok tt)) × (x ≡ p)
verdict_go (Ok tt) p x e = (refl, cc)
verdict_go (Err r) p x e = absurd cc

pub verdict_refuse : {A : Type 0} (a : Result Unit Refusal) (p : A) (r : Refusal) → verdict_by a p ≡ Err r → a ≡ Err r
verdict_refuse (Ok tt) p r e = absurd cc
verdict_refuse (Err x) p r e = cc

pub verdict_number : {A : Type 0} (a : Result Unit Refusal) (p : A) → answer_number (verdict_by a p) ≡ answer_number a
verdict_number (Ok tt) p = refl
verdict_number (Err r) p = refl

-- what an outcome says of the answer
module _ (l : Ledger) (e : Event) where
  pub outcome_accepted : (h : HandedOn) → outcome l e ≡ Ok h → answer l e ≡ (Ok tt)
  unfolding outcome
  outcome_accepted h q = (verdict_go (answer l e) (handed_on (action_of e)) h q).0

  pub outcome_refused : (r : Refusal) → outcome l e ≡ Err r → answer l e ≡ Err r
  unfolding outcome
  outcome_refused r q = verdict_refuse (answer l e) (handed_on (action_of e)) r q

-- ---- the kept due and the days to it are of one answer of the calendar

abbrev no_date : KeptDate
no_date = record { date = 0; slid = record { 0 = 0 } }

pub kept_both : (requested : ℕ) → unwrap_or (kept requested) no_date ≡ kept_with_days requested
unfolding kept kept_due slid
kept_both requested = by_date (first_business_day requested) refl
  where
    by_date : (d : Option ℕ) → first_business_day requested ≡ d → unwrap_or (with_days requested d) no_date ≡ record { date = date_found d; slid = days_found (with_days requested d) }
    by_date (Some date) e = refl
    by_date None e = refl

-- ---- the value of an answer

quiet : (b : Bool) (x y : Action) → handed_on x ≡ Nothing → handed_on y ≡ Nothing → handed_on (cond b x y) ≡ Nothing
quiet true x y h k = h
quiet false x y h k = k

module _ (e : Event) where
  quiet_kinds : eqb e.kind 5 ≡ false → handed_on (action_of e) ≡ Nothing
  unfolding action_of
  quiet_kinds h =
      rw h
      (quiet (eqb e.kind 1) (AddCreditor e.a e.b) _ refl
      (quiet (eqb e.kind 2) (AddMandate (new_mandate e)) _ refl
      (quiet (eqb e.kind 3) (ChangeMandate e.mandate (amendment e)) _ refl
      (quiet (eqb e.kind 4) (ChangeMandate e.mandate Cancel) _ refl
      (quiet (eqb e.kind 6) (Treat e.a Settle) _ refl
      (quiet (eqb e.kind 7) (Treat e.a Reject) _ refl
      (quiet (eqb e.kind 8) (Treat e.a (Undo ByReturn)) _ refl
      (quiet (eqb e.kind 9) (Treat e.a (Undo (ByRefund e.b (authorisation e.code)))) _ refl refl))))))))

  handed_collect : e.kind ≡ 5 → handed_on (action_of e) ≡ Slid (slid e.second)
  handed_collect k = ap handed_on (action_collect e k)

  handed_value : value_of (handed_on (action_of e)) ≡ cond (eqb e.kind 5) ((slid e.second).0) 0
  handed_value =
      either (eqb e.kind 5)
      (λ k. rw k (ap value_of (handed_collect (eqb-true e.kind 5 k))))
      (λ k. rw k (ap value_of (quiet_kinds k)))

  by_answer : (a : Result Unit Refusal) → answer_value (verdict_by a (handed_on (action_of e))) ≡ cond (eqb (answer_number a) 0 && eqb e.kind 5) ((slid e.second).0) 0
  by_answer (Ok tt) = handed_value
  by_answer (Err r) = rw (ne_eqb (number_of r) 0 (λ z. omega (arith, number_of_pos r)))

pub event_values : EventValues
unfolding outcome event_value
event_values l e =
    by_answer e (answer l e)
    ∙ ap (λ (n : ℕ). cond (eqb n 0 && eqb e.kind 5) ((slid e.second).0) 0) (event_numbers l e)

-- ---- what a collect hands on

module _ (l : Ledger) (e : Event) (a : is_accepted (answer l e) ≡ true) (k : e.kind ≡ 5) where
  value_slid : event_value l e ≡ (slid e.second).0
  unfolding event_value
  value_slid =
      let n : eqb (event_number l e) 0 ≡ true = ap (λ (n : ℕ). eqb n 0) (sym (event_numbers l e)) ∙ sym (accepted_number (answer l e)) ∙ a in
      rw (n, k)

  accepted_lem : (x : Result Unit Refusal) → is_accepted x ≡ true → verdict_by x (handed_on (action_of e)) ≡ Ok (handed_on (action_of e))
  accepted_lem (Ok tt) i = refl
  accepted_lem (Err r) i = absurd cc

  outcome_slid : outcome l e ≡ Ok (Slid (slid e.second))
  unfolding outcome
  outcome_slid = accepted_lem (answer l e) a ∙ ap (λ (h : HandedOn). Ok h) (handed_collect e k)

pub others_hand_on_nothing : OthersHandOnNothing
unfolding outcome
others_hand_on_nothing l e k = ap (λ (h : HandedOn). verdict_by (answer l e) h) (quiet_kinds e (ne_eqb e.kind 5 k))

pub collect_hands_on : CollectHandsOn
collect_hands_on l e a k =
    let w = was_accepted l e a in
    let d = (range_facts e.second (subst Sound (action_collect e k) w.sound).requested).is_date_lem in
    let s = slide_limit_lem.every_date e.second d in
    let b : s.answer ≡ kept_with_days e.second = ap (λ (o : Option KeptDate). unwrap_or o no_date) (sym s.is) ∙ kept_both e.second in
    let v : record { 0 = event_value l e } ≡ s.answer.slid = ap (λ (n : ℕ). record { 0 = n }) (value_slid l e a k) ∙ ap (λ (x : KeptDate). x.slid) (sym b) in
    record {
      due = s.answer.date;
      is_due = s.first;
      handed = rw (value_slid l e a k) (outcome_slid l e a k);
      counted = rw v s.counted;
      limit = let n : event_value l e ≡ s.answer.slid.0 = ap (λ (d : CalendarDays). d.0) v in rw n s.limit;
    }
