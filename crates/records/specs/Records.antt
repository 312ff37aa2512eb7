-- Events 1 to 5 by the rows that were found of what they name: refusals 6 to 14 that concern each, in checking order, and the ledger
-- where it is accepted. That they are the model's where the rows are those of the numbers: proofs/Laws/Records. Assumes nothing.
use Rattle.std.specs.Prelude.{Bool, cond, not, ◌&&◌, List, [], ◌∷◌, ℕ, ◌-◌, leb, ltb, ℤ, length, set, Option, Result, Ok, Err}
use Rattle.common.specs.Checks.{Check, check, judged}
use Rattle.refusals.specs.declared.Refusal.{Refusal}
use Rattle.refusals.specs.declared.Refusal.TheVariants.{BeforeLatest, AlreadyExists, DoesNotExist, NoRowLeft, NotLive, WrongSequence, BadTiming, Lapsed}
use Rattle.tables.specs.declared.Mandate.{Mandate}
use Rattle.tables.specs.declared.Standing.{Standing}
use Rattle.tables.specs.declared.Standing.TheVariants.{Closed}
use Rattle.tables.specs.Ledger.{Ledger, ledger, added}
use Rattle.tables.specs.Rows.{rows, mandate_at}
use Rattle.model.specs.declared.Change.{Change}
use Rattle.model.specs.declared.Presentation.{Presentation}
use Rattle.model.specs.Deadlines.{kept_due, slid, timely, lapsed_for}
use Rattle.model.specs.Step.{verdict_by}
use Rattle.model.specs.declared.HandedOn.{HandedOn}
use Rattle.model.specs.declared.HandedOn.TheVariants.{Nothing, Slid}
use Rattle.model.specs.Checks.{in_order, change_names, stands_live, takes}
use Rattle.model.specs.Effects.{dated, with_creditors, keep_mandate, add_mandate, add_collection, changed, closes, presented_on, new_collection}
use Rattle.checking.specs.Calls.{is_found, used_row, found_row, Done}
use Rattle.records.specs.declared.MandatesMut.{MandatesMut}

-- ---- what is lent to events 2 to 5

-- with any collections and positions besides
abbrev pub ledger_with : MandatesMut → List ℕ → List ℤ → List ℤ → List ℤ → Ledger
ledger_with a c cp dp bp = ledger a.header a.mandates.now c a.creditors.now cp dp bp

-- ---- event 1

abbrev pub creditor_checks : Ledger → ℕ → ℕ → List (Check (Result Unit Refusal))
creditor_checks l date number =
    check (in_order l date) (Err BeforeLatest)
    ∷ check (not (added l.creditors number)) (Err AlreadyExists)
    ∷ check (leb 1 number && leb number (length l.creditors)) (Err DoesNotExist)  -- there is such a creditor
    ∷ []

abbrev pub creditor_answer : Ledger → ℕ → ℕ → Result Unit Refusal
creditor_answer l date number = judged (creditor_checks l date number) (Ok tt)

abbrev pub creditor_effect : Ledger → ℕ → ℕ → ℕ → Ledger
creditor_effect l date number bank = with_creditors (dated l date) (set l.creditors (number - 1) bank)

abbrev pub CreditorAdded : Ledger → ℕ → ℕ → ℕ → Result HandedOn Refusal → Ledger → Type 0
CreditorAdded l date number bank r l' = Done (verdict_by (creditor_answer l date number) Nothing) l (creditor_effect l date number bank) r l'

-- ---- event 2

abbrev pub mandate_checks : Option ℕ → Ledger → ℕ → Mandate → List (Check (Result Unit Refusal))
mandate_checks found l date m =
    check (in_order l date) (Err BeforeLatest)
    ∷ check (not (is_found found)) (Err AlreadyExists)
    ∷ check (added l.creditors m.creditor) (Err DoesNotExist)
    ∷ check (ltb l.mandates_used (rows l.mandates)) (Err NoRowLeft)
    ∷ []

abbrev pub mandate_answer : Option ℕ → Ledger → ℕ → Mandate → Result Unit Refusal
mandate_answer found l date m = judged (mandate_checks found l date m) (Ok tt)

abbrev pub MandateAdded : Option ℕ → Ledger → ℕ → Mandate → Result HandedOn Refusal → Ledger → Type 0
MandateAdded found l date m r l' = Done (verdict_by (mandate_answer found l date m) Nothing) l (add_mandate (dated l date) m) r l'

-- ---- events 3 and 4

-- the mandate in the row that was found, which is there where it is a used row
abbrev pub mandate_there : Option ℕ → Ledger → Bool
mandate_there found l = used_row l.mandates l.mandates_used found

abbrev pub mandate_in : Option ℕ → Ledger → Mandate
mandate_in found l = mandate_at l.mandates (found_row found)

-- of the mandate m, which is there or not
abbrev pub change_checks : ℕ → ℕ → Change → Bool → Mandate → List ℕ → List (Check (Result Unit Refusal))
change_checks latest date c there m creditors =
    check (leb latest date) (Err BeforeLatest)
    ∷ check (there && change_names creditors c) (Err DoesNotExist)
    ∷ check (stands_live m.standing) (Err NotLive)
    ∷ []

abbrev pub change_answer : Option ℕ → Ledger → ℕ → Change → Result Unit Refusal
change_answer found l date c = judged (change_checks l.latest date c (mandate_there found l) (mandate_in found l) l.creditors) (Ok tt)

abbrev pub change_effect : Option ℕ → Ledger → ℕ → Change → Ledger
change_effect found l date c = keep_mandate (dated l date) (found_row found) (changed c (mandate_in found l))

abbrev pub MandateChanged : Option ℕ → Ledger → ℕ → Change → Result HandedOn Refusal → Ledger → Type 0
MandateChanged found l date c r l' = Done (verdict_by (change_answer found l date c) Nothing) l (change_effect found l date c) r l'

-- ---- event 5

-- the mandate is closed by FNAL and by OOFF
abbrev pub standing_after : ℕ → Standing → Standing
standing_after code standing = cond (closes code) Closed standing

-- of the mandate m, which is there or not; a row is left or not
abbrev pub collect_checks : ℕ → ℕ → Presentation → Bool → Option ℕ → Bool → Mandate → List (Check (Result Unit Refusal))
collect_checks latest date p there collection room m =
    check (leb latest date) (Err BeforeLatest)
    ∷ check (not (is_found collection)) (Err AlreadyExists)
    ∷ check there (Err DoesNotExist)
    ∷ check room (Err NoRowLeft)
    ∷ check (stands_live m.standing) (Err NotLive)
    ∷ check (takes m p.code) (Err WrongSequence)
    ∷ check (timely date p.requested) (Err BadTiming)
    ∷ check (not (lapsed_for (kept_due p.requested) m.presented m.signed)) (Err Lapsed)
    ∷ []

abbrev pub collect_answer : Option ℕ → Option ℕ → Ledger → ℕ → Presentation → Result Unit Refusal
collect_answer mandate collection l date p =
    judged (collect_checks l.latest date p (mandate_there mandate l) collection (ltb l.collections_used (rows l.collections)) (mandate_in mandate l)) (Ok tt)

abbrev pub collect_effect : Option ℕ → Ledger → ℕ → Presentation → Ledger
collect_effect found l date p =
    add_collection
    (keep_mandate (dated l date) (found_row found) (presented_on p (mandate_in found l)))
    (new_collection l.creditors p (mandate_in found l))

-- handed on are the days that the due date slid
abbrev pub Collected : Option ℕ → Option ℕ → Ledger → ℕ → Presentation → Result HandedOn Refusal → Ledger → Type 0
Collected mandate collection l date p r l' =
    Done (verdict_by (collect_answer mandate collection l date p) (Slid (slid p.requested))) l (collect_effect mandate l date p) r l'
