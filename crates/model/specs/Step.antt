-- The calls. An event is answered by the first test that fails, or accepted; a refused one leaves the ledger as it was.
-- Document 01, "What is refused, in checking order": an event gets 2 to 17, a position query 2 or 5.
-- Assumes nothing.
use Rattle.std.specs.Prelude.{Bool, true, false, cond, ◌&&◌, List, [], ◌∷◌, ℕ, eqb, leb, ℤ, pos, Result, Ok, Err}
use Rattle.common.specs.Checks.{Check, check, judged}
use Rattle.refusals.specs.declared.Refusal.{Refusal}
pub use Rattle.refusals.specs.Refusals.{answer_number}  -- the paper's number of an answer
use Rattle.refusals.specs.declared.Refusal.TheVariants.{UnfitMemory, BadField}
use Rattle.model.specs.declared.Figure.{Figure}
use Rattle.model.specs.declared.Figure.TheVariants.{Creditor, Debtor, Bank, Compensation}
use Rattle.events.specs.declared.Event.{Event}
use Rattle.calendar.specs.Gregorian.{in_range}
use Rattle.events.specs.Limits.{within, kinds, fields_fit, checked}
use Rattle.positions.specs.Positions.{position}
use Rattle.tables.specs.Limits.{creditor_count, debtor_count, bank_count}
use Rattle.tables.specs.Ledger.{Ledger}
use Rattle.fitness.specs.Fitness.{fit}
use Rattle.model.specs.Actions.{action_of}
use Rattle.model.specs.Checks.{in_order, on_business_day, is_new, is_there, has_row, is_live, in_sequence, on_time, not_lapsed, in_state, not_before_due, by_last_day, ruled}
use Rattle.model.specs.Effects.{effect}
use Rattle.model.specs.Deadlines.{slid}
use Rattle.model.specs.declared.Action.{Action}
use Rattle.model.specs.declared.Action.TheVariants.{AddCreditor, AddMandate, ChangeMandate, Collect, Treat}
use Rattle.model.specs.declared.HandedOn.{HandedOn}
use Rattle.model.specs.declared.HandedOn.TheVariants.{Nothing, Slid}

-- ---- one event

abbrev pub is_accepted : Result Unit Refusal → Bool
is_accepted (Ok tt) = true
is_accepted (Err r) = false

-- 3 to 5 come first
abbrev pub then_ruled : Result Unit Refusal → Result Unit Refusal → Result Unit Refusal
then_ruled (Ok tt) a = a
then_ruled (Err r) a = Err r

unfoldable pub answer : Ledger → Event → Result Unit Refusal
answer l e = cond (fit l) (then_ruled (checked e) (ruled l e.date (action_of e))) (Err UnfitMemory)

-- the checking order in the paper's numbers: the number of the first test that fails
abbrev pub numbers : Ledger → Event → List (Check ℕ)
numbers l e =
    check (fit l) 2
    ∷ check (within kinds e.kind) 3
    ∷ check (in_range e.date) 4
    ∷ check (fields_fit e) 5
    ∷ check (in_order l e.date) 6
    ∷ check (on_business_day (action_of e) e.date) 7
    ∷ check (is_new l (action_of e)) 8
    ∷ check (is_there l (action_of e)) 9
    ∷ check (has_row l (action_of e)) 10
    ∷ check (is_live l (action_of e)) 11
    ∷ check (in_sequence l (action_of e)) 12
    ∷ check (on_time (action_of e) e.date) 13
    ∷ check (not_lapsed l (action_of e)) 14
    ∷ check (in_state l (action_of e)) 15
    ∷ check (not_before_due l (action_of e) e.date) 16
    ∷ check (by_last_day l (action_of e) e.date) 17
    ∷ []

-- 0 where all pass
unfoldable pub event_number : Ledger → Event → ℕ
event_number l e = judged (numbers l e) 0

-- the ledger after an answer
abbrev pub after_answer : {A : Type 0} → Result A Refusal → Ledger → Ledger → Ledger
after_answer (Ok x) changed l = changed
after_answer (Err r) changed l = l

unfoldable pub after : Ledger → Event → Ledger
after l e = after_answer (answer l e) (effect l e.date (action_of e)) l

-- ---- what an accepted event hands on to its caller: document 02, (e)

-- a collect the days that its due date slid, no other event anything
abbrev pub handed_on : Action → HandedOn
handed_on (AddCreditor number bank) = Nothing
handed_on (AddMandate m) = Nothing
handed_on (ChangeMandate number c) = Nothing
handed_on (Collect p) = Slid (slid p.requested)
handed_on (Treat number t) = Nothing

-- an answer, with what it gives where it accepts
abbrev pub verdict_by : {A : Type 0} → Result Unit Refusal → A → Result A Refusal
verdict_by (Ok tt) a = Ok a
verdict_by (Err r) a = Err r

unfoldable pub outcome : Ledger → Event → Result HandedOn Refusal
outcome l e = verdict_by (answer l e) (handed_on (action_of e))

-- the value of an answer: the number handed on, 0 where there is none
abbrev pub value_of : HandedOn → ℕ
value_of Nothing = 0
value_of (Slid days) = days.0

abbrev pub answer_value : Result HandedOn Refusal → ℕ
answer_value (Ok h) = value_of h
answer_value (Err r) = 0

-- the same by the fields of the event: of a collect, kind 5, that gets 0, the days from its second date to the kept due
unfoldable pub event_value : Ledger → Event → ℕ
event_value l e = cond (eqb (event_number l e) 0 && eqb e.kind 5) ((slid e.second).0) 0

-- ---- a position query

-- the kinds are 1 creditor, 2 debtor, 3 bank; 4, whose number is 0, is total compensation
abbrev pub kind_of : Figure → ℕ
kind_of Creditor = 1
kind_of Debtor = 2
kind_of Bank = 3
kind_of Compensation = 4

-- the figure of a kind
abbrev pub figure_told : ℕ → Result Figure Refusal
figure_told kind =
    cond (eqb kind 1) (Ok Creditor)
    (cond (eqb kind 2) (Ok Debtor)
    (cond (eqb kind 3) (Ok Bank)
    (cond (eqb kind 4) (Ok Compensation)
    (Err BadField))))

abbrev pub in_query : ℕ → ℕ → Bool
in_query kind number =
    cond (eqb kind 1) (leb 1 number && leb number creditor_count)
    (cond (eqb kind 2) (leb 1 number && leb number debtor_count)
    (cond (eqb kind 3) (leb 1 number && leb number bank_count)
    (eqb kind 4 && eqb number 0)))

abbrev pub figure_of : Ledger → ℕ → ℕ → ℤ
figure_of l kind number =
    cond (eqb kind 1) (position l.creditor_positions number)
    (cond (eqb kind 2) (position l.debtor_positions number)
    (cond (eqb kind 3) (position l.bank_positions number)
    l.compensation))

unfoldable pub query : Ledger → ℕ → ℕ → Result ℤ Refusal
query l kind number =
    cond (fit l)
    (cond (in_query kind number) (Ok (figure_of l kind number)) (Err BadField))
    (Err UnfitMemory)

-- the value of its answer: the figure in cents, 0 where there is none
abbrev pub answered : Result ℤ Refusal → ℤ
answered (Ok z) = z
answered (Err r) = pos 0

-- ---- a list of events, each finding the ledger as the one before left it

unfoldable pub run : Ledger → List Event → Ledger
run l [] = l
run l (e ∷ es) = run (after l e) es

-- an event, with its acceptance or refusal
pub record Entry : Type 0 where
  pub event : Event
  pub accepted : Bool

abbrev pub entry : Event → Bool → Entry
entry e b = record { event = e; accepted = b }

unfoldable pub history : Ledger → List Event → List Entry
history l [] = []
history l (e ∷ es) = entry e (is_accepted (answer l e)) ∷ history (after l e) es
