-- Events 6 to 10 by the row that was found of the collection: refusals 6 to 17 that concern them, in checking order, what is to be posted,
-- and the ledger where it is. That they are the model's on a fit ledger where the row is that of the number: `treat_ruled` of
-- proofs/Laws/Ready. Assumes nothing.
use Rattle.std.specs.Prelude.{Bool, cond, List, [], ◌∷◌, ℕ, leb, ℤ, ◌+ℤ◌, Option, Some, None, Result, Ok, Err}
use Rattle.common.specs.Tests.{all_of}
use Rattle.common.specs.Checks.{Check, check, judged}
use Rattle.refusals.specs.declared.Refusal.{Refusal}
use Rattle.refusals.specs.declared.Refusal.TheVariants.{UnfitMemory, BeforeLatest, NotBusinessDay, DoesNotExist, WrongState, BeforeDue, AfterLastDay}
use Rattle.calendar.specs.Periods.{days_between}
use Rattle.positions.specs.Positions.{position_limit, has_entry, position, in_limit}
use Rattle.positions.specs.Compensation.{compensation_of}
use Rattle.positions.specs.Answers.{settlement_of, reversed_of, refunded_of}
use Rattle.positions.specs.declared.Postings.{Postings}
use Rattle.tables.specs.declared.Header.{Header}
use Rattle.tables.specs.declared.Collection.{Collection}
use Rattle.tables.specs.Ledger.{Ledger}
use Rattle.tables.specs.Rows.{collection_at}
use Rattle.model.specs.declared.Way.{Way}
use Rattle.model.specs.declared.Way.TheVariants.{ByReturn, ByRefund, ByReversal}
use Rattle.model.specs.declared.Treatment.{Treatment}
use Rattle.model.specs.declared.Treatment.TheVariants.{Settle, Reject, Undo}
use Rattle.model.specs.Checks.{settled_on, day_treated, state_fits, due_treated, time_treated}
use Rattle.model.specs.Effects.{dated, keep_collection, with_postings, treated}
use Rattle.model.specs.declared.HandedOn.{HandedOn}
use Rattle.model.specs.declared.HandedOn.TheVariants.{Nothing}
use Rattle.model.specs.Step.{verdict_by}
use Rattle.checking.specs.Calls.{used_row, found_row, Done}
use Rattle.treatments.specs.declared.verdicts.Verdict.{Verdict}
use Rattle.treatments.specs.declared.verdicts.Verdict.TheVariants.{Mark, Post}
use Rattle.calendar.specs.declared.CalendarDays.{CalendarDays}

-- ---- refusals 6 to 17, of the collection k, which is there or not

abbrev pub treat_checks : ℕ → ℕ → Treatment → Bool → Collection → List (Check (Result Unit Refusal))
treat_checks latest date t there k =
    check (leb latest date) (Err BeforeLatest)
    ∷ check (day_treated t date) (Err NotBusinessDay)
    ∷ check there (Err DoesNotExist)
    ∷ check (state_fits t k.state) (Err WrongState)
    ∷ check (due_treated t k.due date) (Err BeforeDue)
    ∷ check (time_treated t k.state date) (Err AfterLastDay)
    ∷ []

abbrev pub treat_judged : ℕ → ℕ → Treatment → Bool → Collection → Result Unit Refusal
treat_judged latest date t there k = judged (treat_checks latest date t there k) (Ok tt)

-- ---- what an undoing posts, for any numbers

abbrev pub refund_for : ℕ → Option ℕ → Option Postings
refund_for amount (Some cents) = refunded_of amount cents
refund_for amount None = None

abbrev pub refund_after : ℕ → ℕ → ℕ → Option CalendarDays → Option Postings
refund_after date amount rate (Some days) = refund_for amount (compensation_of date amount rate days.0)
refund_after date amount rate None = None

abbrev pub undone_of : Way → ℕ → ℕ → ℕ → Option Postings
undone_of ByReturn amount settled date = reversed_of amount
undone_of (ByRefund rate authorisation) amount settled date = refund_after date amount rate (days_between settled date)
undone_of ByReversal amount settled date = reversed_of amount

-- ---- the verdict

-- amounts outside their limits are those of no fit row and no rate within its limit
abbrev pub post_verdict : Collection → Option Postings → Result Verdict Refusal
post_verdict k (Some p) = Ok (Post k p)
post_verdict k None = Err UnfitMemory

-- on the collection k, where no test refuses
abbrev pub go_verdict : Treatment → ℕ → Collection → Result Verdict Refusal
go_verdict Settle date k = post_verdict (treated Settle date k) (settlement_of k.amount)
go_verdict Reject date k = Ok (Mark (treated Reject date k))
go_verdict (Undo way) date k =
    post_verdict (treated (Undo way) date k) (undone_of way k.amount (settled_on k.state) date)

-- refused, or what goes where no test refuses
abbrev pub by_answer : Result Unit Refusal → Result Verdict Refusal → Result Verdict Refusal
by_answer (Ok tt) v = v
by_answer (Err r) v = Err r

abbrev pub verdict_on : ℕ → ℕ → Treatment → Bool → Collection → Result Verdict Refusal
verdict_on latest date t there k = by_answer (treat_judged latest date t there k) (go_verdict t date k)

-- ---- what is written for a verdict

-- the table has an entry for the number, and position and amount lie within the limit, so that 64 bits hold the sum
abbrev pub held : List ℤ → ℕ → ℤ → Bool
held positions number amount =
    all_of
    (has_entry positions number
    ∷ in_limit position_limit (position positions number)
    ∷ in_limit position_limit amount
    ∷ [])

-- the amounts can be posted to the parties and banks of k; in a fit ledger they always can
unfoldable pub postable : Collection → Postings → ℤ → List ℤ → List ℤ → List ℤ → Bool
postable k p total creditor_positions debtor_positions bank_positions =
    all_of
    (held creditor_positions k.creditor p.creditor
    ∷ held debtor_positions k.debtor p.debtor
    ∷ held bank_positions k.dbank p.dbank
    ∷ held bank_positions k.cbank p.cbank
    ∷ in_limit position_limit total
    ∷ in_limit position_limit p.compensation
    ∷ [])

abbrev pub pay_answer : Collection → Postings → Ledger → Result Unit Refusal
pay_answer k p l =
    cond (postable k p l.compensation l.creditor_positions l.debtor_positions l.bank_positions)
    (Ok tt)
    (Err UnfitMemory)

abbrev pub pay_effect : ℕ → ℕ → Collection → Postings → Ledger → Ledger
pay_effect row date k p l = with_postings (keep_collection (dated l date) row k) k p

abbrev pub answer_for : Result Verdict Refusal → Ledger → Result Unit Refusal
answer_for (Err r) l = Err r
answer_for (Ok (Mark k)) l = Ok tt
answer_for (Ok (Post k p)) l = pay_answer k p l

abbrev pub effect_for : Result Verdict Refusal → ℕ → ℕ → Ledger → Ledger
effect_for (Err r) row date l = l
effect_for (Ok (Mark k)) row date l = keep_collection (dated l date) row k
effect_for (Ok (Post k p)) row date l = pay_effect row date k p l

-- the event's date is the latest one, and cents are added to the total compensation
abbrev pub header_after : Header → ℕ → ℤ → Header
header_after h date cents = record {
  latest = date;
  mandates = h.mandates;
  collections = h.collections;
  compensation = h.compensation +ℤ cents;
}

-- ---- the call

-- on the collection in the row that was found, which is there where it is a used row
abbrev pub verdict_at : Option ℕ → Ledger → ℕ → Treatment → Result Verdict Refusal
verdict_at found l date t =
    verdict_on l.latest date t (used_row l.collections l.collections_used found) (collection_at l.collections (found_row found))

abbrev pub Treated : Option ℕ → Ledger → ℕ → Treatment → Result HandedOn Refusal → Ledger → Type 0
Treated found l date t r l' =
    Done (verdict_by (answer_for (verdict_at found l date t) l) Nothing) l (effect_for (verdict_at found l date t) (found_row found) date l) r l'
