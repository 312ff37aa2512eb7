-- Document 01, "What is refused, in checking order", 6 to 17: one test for each number, by what the event asks for.
-- 2 is `fit` of the tables, 3 to 5 are `checked` of the events. A test that does not concern an event passes.
-- Assumes nothing.
use Rattle.std.specs.Prelude.{Bool, true, false, cond, not, ◌&&◌, ◌||◌, List, [], ◌∷◌, ℕ, eqb, leb, ltb, Result, Ok, Err}
use Rattle.common.specs.Checks.{Check, check, judged}
use Rattle.refusals.specs.declared.Refusal.{Refusal}
use Rattle.refusals.specs.declared.Refusal.TheVariants.{BeforeLatest, NotBusinessDay, AlreadyExists, DoesNotExist, NoRowLeft, NotLive, WrongSequence, BadTiming, Lapsed, WrongState, BeforeDue, AfterLastDay}
use Rattle.calendar.specs.Target.{business_day}
use Rattle.tables.specs.declared.Mandate.{Mandate}
use Rattle.tables.specs.declared.Standing.{Standing}
use Rattle.tables.specs.declared.Standing.TheVariants.{Live, Closed, Cancelled}
use Rattle.tables.specs.declared.State.{State}
use Rattle.tables.specs.declared.State.TheVariants.{Presented, Rejected, Settled, Undone}
use Rattle.tables.specs.Ledger.{Ledger, added}
use Rattle.tables.specs.Rows.{rows}
use Rattle.model.specs.declared.Action.{Action}
use Rattle.model.specs.declared.Change.{Change}
use Rattle.model.specs.declared.Treatment.{Treatment}
use Rattle.model.specs.Actions.{is_recurrent}
use Rattle.model.specs.declared.Action.TheVariants.{AddCreditor, AddMandate, ChangeMandate, Collect, Treat}
use Rattle.model.specs.declared.Change.TheVariants.{NewBank, NewCreditor, Cancel}
use Rattle.model.specs.declared.Treatment.TheVariants.{Settle, Reject, Undo}
use Rattle.model.specs.Deadlines.{kept_due, timely, in_time, lapsed_for}
use Rattle.model.specs.Lookups.{is_known, of_known, mandate_of, collection_of}

-- ---- 6: the event date is not before the latest date

abbrev pub in_order : Ledger → ℕ → Bool
in_order l date = leb l.latest date

-- ---- 7: a settle, return, refund or reversal falls on a business day

abbrev pub day_treated : Treatment → ℕ → Bool
day_treated Settle date = business_day date
day_treated Reject date = true
day_treated (Undo way) date = business_day date

abbrev pub on_business_day : Action → ℕ → Bool
on_business_day (AddCreditor a b) date = true
on_business_day (AddMandate m) date = true
on_business_day (ChangeMandate n c) date = true
on_business_day (Collect p) date = true
on_business_day (Treat n t) date = day_treated t date

-- ---- 8: what is to be added does not exist

abbrev pub is_new : Ledger → Action → Bool
is_new l (AddCreditor a b) = not (added l.creditors a)
is_new l (AddMandate m) = not (is_known (mandate_of l m.number))
is_new l (ChangeMandate n c) = true
is_new l (Collect p) = not (is_known (collection_of l p.collection))
is_new l (Treat n t) = true

-- ---- 9: what is named exists

abbrev pub change_names : List ℕ → Change → Bool
change_names creditors (NewBank b) = true
change_names creditors (NewCreditor a) = added creditors a
change_names creditors Cancel = true

abbrev pub is_there : Ledger → Action → Bool
is_there l (AddCreditor a b) = true
is_there l (AddMandate m) = added l.creditors m.creditor
is_there l (ChangeMandate n c) = is_known (mandate_of l n) && change_names l.creditors c
is_there l (Collect p) = is_known (mandate_of l p.mandate)
is_there l (Treat n t) = is_known (collection_of l n)

-- ---- 10: a row that is needed is left

abbrev pub has_row : Ledger → Action → Bool
has_row l (AddCreditor a b) = true
has_row l (AddMandate m) = ltb l.mandates_used (rows l.mandates)
has_row l (ChangeMandate n c) = true
has_row l (Collect p) = ltb l.collections_used (rows l.collections)
has_row l (Treat n t) = true

-- ---- 11: a mandate to be amended, cancelled or collected on is neither closed nor cancelled

abbrev pub stands_live : Standing → Bool
stands_live Live = true
stands_live Closed = false
stands_live Cancelled = false

abbrev pub is_live : Ledger → Action → Bool
is_live l (AddCreditor a b) = true
is_live l (AddMandate m) = true
is_live l (ChangeMandate n c) = of_known (mandate_of l n) (λ m. stands_live m.standing)
is_live l (Collect p) = of_known (mandate_of l p.mandate) (λ m. stands_live m.standing)
is_live l (Treat n t) = true

-- ---- 12, 13, 14: the sequence code, the time and the lapse of a collect

-- of a one-off OOFF alone; of a recurrent mandate FRST while that is due, and then RCUR or FNAL
abbrev pub takes : Mandate → ℕ → Bool
takes m code =
    cond (is_recurrent m.code)
    (cond m.first (eqb code 0) (eqb code 1 || eqb code 2))
    (eqb code 3)

abbrev pub in_sequence : Ledger → Action → Bool
in_sequence l (AddCreditor a b) = true
in_sequence l (AddMandate m) = true
in_sequence l (ChangeMandate n c) = true
in_sequence l (Collect p) = of_known (mandate_of l p.mandate) (λ m. takes m p.code)
in_sequence l (Treat n t) = true

abbrev pub on_time : Action → ℕ → Bool
on_time (AddCreditor a b) date = true
on_time (AddMandate m) date = true
on_time (ChangeMandate n c) date = true
on_time (Collect p) date = timely date p.requested
on_time (Treat n t) date = true

abbrev pub not_lapsed : Ledger → Action → Bool
not_lapsed l (AddCreditor a b) = true
not_lapsed l (AddMandate m) = true
not_lapsed l (ChangeMandate n c) = true
not_lapsed l (Collect p) =
    of_known (mandate_of l p.mandate) (λ m. not (lapsed_for (kept_due p.requested) m.presented m.signed))
not_lapsed l (Treat n t) = true

-- ---- 15: a settle or reject finds the collection presented, an undoing finds it settled

abbrev pub is_presented : State → Bool
is_presented Presented = true
is_presented Rejected = false
is_presented (Settled day) = false
is_presented (Undone day by) = false

abbrev pub is_settled : State → Bool
is_settled Presented = false
is_settled Rejected = false
is_settled (Settled day) = true
is_settled (Undone day by) = false

abbrev pub state_fits : Treatment → State → Bool
state_fits Settle s = is_presented s
state_fits Reject s = is_presented s
state_fits (Undo way) s = is_settled s

abbrev pub in_state : Ledger → Action → Bool
in_state l (AddCreditor a b) = true
in_state l (AddMandate m) = true
in_state l (ChangeMandate n c) = true
in_state l (Collect p) = true
in_state l (Treat n t) = of_known (collection_of l n) (λ k. state_fits t k.state)

-- ---- 16: a settle does not come before the kept due; 17: an undoing not after its last day

abbrev pub due_treated : Treatment → ℕ → ℕ → Bool
due_treated Settle due date = leb due date
due_treated Reject due date = true
due_treated (Undo way) due date = true

abbrev pub not_before_due : Ledger → Action → ℕ → Bool
not_before_due l (AddCreditor a b) date = true
not_before_due l (AddMandate m) date = true
not_before_due l (ChangeMandate n c) date = true
not_before_due l (Collect p) date = true
not_before_due l (Treat n t) date = of_known (collection_of l n) (λ k. due_treated t k.due date)

-- the day a collection was settled on; 0 of one that is not settled
abbrev pub settled_on : State → ℕ
settled_on Presented = 0
settled_on Rejected = 0
settled_on (Settled day) = day
settled_on (Undone day by) = 0

abbrev pub time_treated : Treatment → State → ℕ → Bool
time_treated Settle s date = true
time_treated Reject s date = true
time_treated (Undo way) s date = in_time way (settled_on s) date

abbrev pub by_last_day : Ledger → Action → ℕ → Bool
by_last_day l (AddCreditor a b) date = true
by_last_day l (AddMandate m) date = true
by_last_day l (ChangeMandate n c) date = true
by_last_day l (Collect p) date = true
by_last_day l (Treat n t) date = of_known (collection_of l n) (λ k. time_treated t k.state date)

-- ---- the checking order

abbrev pub checks : Ledger → ℕ → Action → List (Check (Result Unit Refusal))
checks l date a =
    check (in_order l date) (Err BeforeLatest)  -- 6
    ∷ check (on_business_day a date) (Err NotBusinessDay)  -- 7
    ∷ check (is_new l a) (Err AlreadyExists)  -- 8
    ∷ check (is_there l a) (Err DoesNotExist)  -- 9
    ∷ check (has_row l a) (Err NoRowLeft)  -- 10
    ∷ check (is_live l a) (Err NotLive)  -- 11
    ∷ check (in_sequence l a) (Err WrongSequence)  -- 12
    ∷ check (on_time a date) (Err BadTiming)  -- 13
    ∷ check (not_lapsed l a) (Err Lapsed)  -- 14
    ∷ check (in_state l a) (Err WrongState)  -- 15
    ∷ check (not_before_due l a date) (Err BeforeDue)  -- 16
    ∷ check (by_last_day l a date) (Err AfterLastDay)  -- 17
    ∷ []

unfoldable pub ruled : Ledger → ℕ → Action → Result Unit Refusal
ruled l date a = judged (checks l date a) (Ok tt)
