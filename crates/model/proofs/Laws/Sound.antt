-- What an event within its limits asks for is within limits too, and what its acceptance says.
-- To cite: `sound_event` (from `checked`), `Passed` with `passed` (from `ruled`). Assumes nothing.
use Rattle.std.proofs.Common.{Ok}
use mathlib.Core.Path.{◌≡◌, refl}
use mathlib.Core.Bool.{true}
use mathlib.Core.Logic.{⊎_elim}
use Prim.Native.Nat.{ℕ, ◌≤◌}
use Rattle.common.proofs.Checks.{judged_passes}
use Rattle.calendar.specs.Gregorian.{in_range}
use Rattle.events.specs.declared.Event.{Event}
use Rattle.events.specs.Limits.{checked}
use Rattle.events.proofs.Laws.Limits.{Between, Limited, checked_facts, kind_cases, creditor_facts, mandate_facts, AmendBankFields, AmendCreditorFields, amend_facts, collect_facts, refund_facts}
use Rattle.tables.specs.Limits.{creditor_count, debtor_count, bank_count, number_limit, amount_limit}
use Rattle.tables.specs.Ledger.{Ledger}
use Rattle.tables.specs.declared.Mandate.{Mandate}
use Rattle.tables.specs.declared.Standing.TheVariants.{Live}
use Rattle.fitness.proofs.Laws.Fitness.{Within}
use Rattle.model.specs.declared.Action.{Action}
use Rattle.model.specs.declared.Change.{Change}
use Rattle.model.specs.declared.Presentation.{Presentation}
use Rattle.model.specs.declared.Treatment.{Treatment}
use Rattle.model.specs.declared.Way.{Way}
use Rattle.model.specs.Actions.{new_mandate, action_of}
use Rattle.model.specs.declared.Action.TheVariants.{AddCreditor, AddMandate, ChangeMandate, Collect, Treat}
use Rattle.model.specs.declared.Change.TheVariants.{NewBank, NewCreditor, Cancel}
use Rattle.model.specs.declared.Treatment.TheVariants.{Settle, Reject, Undo}
use Rattle.model.specs.declared.Way.TheVariants.{ByReturn, ByRefund, ByReversal}
use Rattle.model.proofs.Laws.Actions.{action_creditor, action_mandate, action_amend, action_cancel, action_collect, action_settle, action_reject, action_return, action_refund, action_reversal}
use Rattle.model.specs.Checks.{in_order, on_business_day, is_new, is_there, has_row, is_live, in_sequence, on_time, not_lapsed, in_state, not_before_due, by_last_day, checks, ruled}

-- ---- an action within its limits

pub record SoundCreditor (a b : ℕ) : Type 0 where
  pub creditor : Within 1 creditor_count a
  pub bank : Within 1 bank_count b

pub record SoundMandate (m : Mandate) : Type 0 where
  pub number : Within 1 number_limit m.number
  pub creditor : Within 1 creditor_count m.creditor
  pub debtor : Within 1 debtor_count m.debtor
  pub bank : Within 1 bank_count m.bank
  pub signed : in_range m.signed ≡ true
  pub code : m.code ≤ 1
  pub live : m.standing ≡ Live
  pub nothing : m.presented ≡ 0

abbrev pub SoundChange : Change → Type 0
SoundChange (NewBank b) = Within 1 bank_count b
SoundChange (NewCreditor a) = Within 1 creditor_count a
SoundChange Cancel = Unit {0}

pub record SoundPresentation (p : Presentation) : Type 0 where
  pub collection : Within 1 number_limit p.collection
  pub amount : Within 1 amount_limit p.amount
  pub requested : in_range p.requested ≡ true

-- a rate of at most 9,999
abbrev pub SoundWay : Way → Type 0
SoundWay ByReturn = Unit {0}
SoundWay (ByRefund rate authorisation) = rate ≤ 9999
SoundWay ByReversal = Unit {0}

abbrev pub SoundTreatment : Treatment → Type 0
SoundTreatment Settle = Unit {0}
SoundTreatment Reject = Unit {0}
SoundTreatment (Undo way) = SoundWay way

abbrev pub Sound : Action → Type 0
Sound (AddCreditor a b) = SoundCreditor a b
Sound (AddMandate m) = SoundMandate m
Sound (ChangeMandate n c) = SoundChange c
Sound (Collect p) = SoundPresentation p
Sound (Treat n t) = SoundTreatment t

-- ---- from the limits of the event's fields

of_range : {low high x : ℕ} → Between (record { low = low; high = high }) x → Within low high x
of_range b = record { from = b.from; to = b.to }

module _ (e : Event) (m : Limited e) where
  sound_creditor : e.kind ≡ 1 → Sound (action_of e)
  sound_creditor h =
      let f = creditor_facts e m h in
      rw (action_creditor e h) (record { creditor = of_range f.creditor; bank = of_range f.bank })

  sound_mandate : e.kind ≡ 2 → Sound (action_of e)
  unfolding new_mandate
  sound_mandate h =
      let f = mandate_facts e m h in
      rw (action_mandate e h)
      (record {
        number = of_range f.mandate;
        creditor = of_range f.creditor;
        debtor = of_range f.debtor;
        bank = of_range f.bank;
        signed = f.signing;
        code = f.code.to;
        live = refl;
        nothing = refl;
      })

  sound_amend : e.kind ≡ 3 → Sound (action_of e)
  sound_amend h =
      rw (action_amend e h)
      (⊎_elim (λ (p : (e.code ≡ 0) × AmendBankFields e). rw p.0 (of_range p.1.bank))
      (λ (p : (e.code ≡ 1) × AmendCreditorFields e). rw p.0 (of_range p.1.creditor)) (amend_facts e m h))

  sound_cancel : e.kind ≡ 4 → Sound (action_of e)
  sound_cancel h = rw (action_cancel e h) tt

  sound_collect : e.kind ≡ 5 → Sound (action_of e)
  sound_collect h =
      let f = collect_facts e m h in
      rw (action_collect e h)
      (record { collection = of_range f.collection; amount = of_range f.amount; requested = f.requested })

  sound_refund : e.kind ≡ 9 → Sound (action_of e)
  sound_refund h = rw (action_refund e h) (refund_facts e m h).rate.to

  sound_action : Sound (action_of e)
  sound_action =
      kind_cases (Sound (action_of e)) e.kind m.kind (
        sound_creditor,
        (
          sound_mandate,
          (
            sound_amend,
            (
              sound_cancel,
              (
                sound_collect,
                (
                  λ h. rw (action_settle e h) tt,
                  (
                    λ h. rw (action_reject e h) tt,
                    (
                      λ h. rw (action_return e h) tt,
                      (
                        sound_refund,
                        (λ h. rw (action_reversal e h) tt, tt),
                      ),
                    ),
                  ),
                ),
              ),
            ),
          ),
        ),
      )

pub sound_event : (e : Event) → checked e ≡ (Ok tt) → (in_range e.date ≡ true) × Sound (action_of e)
sound_event e h = let m = checked_facts e h in (m.date, sound_action e m)

-- ---- what acceptance says: every test passed

pub record Passed (l : Ledger) (date : ℕ) (a : Action) : Type 0 where
  pub order : in_order l date ≡ true
  pub day : on_business_day a date ≡ true
  pub new : is_new l a ≡ true
  pub there : is_there l a ≡ true
  pub row : has_row l a ≡ true
  pub live : is_live l a ≡ true
  pub sequence : in_sequence l a ≡ true
  pub time : on_time a date ≡ true
  pub lapse : not_lapsed l a ≡ true
  pub state : in_state l a ≡ true
  pub due : not_before_due l a date ≡ true
  pub last : by_last_day l a date ≡ true

pub passed : (l : Ledger) (date : ℕ) (a : Action) → ruled l date a ≡ (Ok tt) → Passed l date a
unfolding ruled
passed l date a e =
    let at = judged_passes (checks l date a) refl e in
    record {
      order = at 0;
      day = at 1;
      new = at 2;
      there = at 3;
      row = at 4;
      live = at 5;
      sequence = at 6;
      time = at 7;
      lapse = at 8;
      state = at 9;
      due = at 10;
      last = at 11;
    }
