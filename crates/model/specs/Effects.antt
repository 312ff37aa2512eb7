-- Document 01, "Ten events" and "Postings": what an accepted event does to the ledger. It reads the lowest row of a number,
-- writes that row or the next one, and posts to the parties and banks that the collection keeps.
-- Assumes nothing.
use Rattle.std.specs.Prelude.{Bool, cond, not, ◌&&◌, ◌||◌, List, ℕ, ◌+◌, ◌-◌, eqb, leb, ◌+ℤ◌, set, Option, Some, None}
use Rattle.positions.specs.Positions.{posted}
use Rattle.positions.specs.Postings.{settlement, reversed, refunded}
use Rattle.positions.specs.Compensation.{compensation as compensationFor}
use Rattle.positions.specs.declared.Postings.{Postings}
use Rattle.tables.specs.declared.Mandate.{Mandate}
use Rattle.tables.specs.declared.Collection.{Collection}
use Rattle.tables.specs.declared.Standing.TheVariants.{Closed, Cancelled}
use Rattle.tables.specs.declared.State.{State}
use Rattle.tables.specs.declared.State.TheVariants.{Presented, Rejected, Settled, Undone}
use Rattle.tables.specs.declared.Undoing.{Undoing}
use Rattle.tables.specs.declared.Undoing.TheVariants.{Return, Refund, Reversal}
use Rattle.tables.specs.Ledger.{Ledger, bank_of}
use Rattle.tables.specs.Lookup.{lookup}
pub use Rattle.tables.specs.Records.{remade, with_state}
use Rattle.tables.specs.Rows.{mandate_at, collection_at, put_mandate, put_collection}
use Rattle.model.specs.declared.Action.{Action}
use Rattle.model.specs.declared.Change.{Change}
use Rattle.model.specs.declared.Presentation.{Presentation}
use Rattle.model.specs.declared.Treatment.{Treatment}
use Rattle.model.specs.declared.Way.{Way}
use Rattle.model.specs.Actions.{is_recurrent}
use Rattle.model.specs.declared.Action.TheVariants.{AddCreditor, AddMandate, ChangeMandate, Collect, Treat}
use Rattle.model.specs.declared.Change.TheVariants.{NewBank, NewCreditor, Cancel}
use Rattle.model.specs.declared.Treatment.TheVariants.{Settle, Reject, Undo}
use Rattle.model.specs.declared.Way.TheVariants.{ByReturn, ByRefund, ByReversal}
use Rattle.model.specs.Checks.{settled_on}
use Rattle.model.specs.Deadlines.{kept_due, days_since}

-- ---- a ledger with one part anew

-- with another latest date, other rows or creditors; the positions and the compensation stay
abbrev pub with_tables : Ledger → ℕ → ℕ → ℕ → List ℕ → List ℕ → List ℕ → Ledger
with_tables l latest mandates_used collections_used mandates collections creditors = record {
  latest = latest;
  mandates_used = mandates_used;
  collections_used = collections_used;
  compensation = l.compensation;
  mandates = mandates;
  collections = collections;
  creditors = creditors;
  creditor_positions = l.creditor_positions;
  debtor_positions = l.debtor_positions;
  bank_positions = l.bank_positions;
}

-- "The latest date is that of the last accepted event"
abbrev pub dated : Ledger → ℕ → Ledger
dated l date = with_tables l date l.mandates_used l.collections_used l.mandates l.collections l.creditors

abbrev pub with_creditors : Ledger → List ℕ → Ledger
with_creditors l creditors =
    with_tables l l.latest l.mandates_used l.collections_used l.mandates l.collections creditors

abbrev pub with_mandates : Ledger → List ℕ → ℕ → Ledger
with_mandates l mandates used = with_tables l l.latest used l.collections_used mandates l.collections l.creditors

abbrev pub with_collections : Ledger → List ℕ → ℕ → Ledger
with_collections l collections used = with_tables l l.latest l.mandates_used used l.mandates collections l.creditors

-- the amounts posted to the parties and banks that the collection keeps; equal banks get both
abbrev pub with_postings : Ledger → Collection → Postings → Ledger
with_postings l k p = record {
  latest = l.latest;
  mandates_used = l.mandates_used;
  collections_used = l.collections_used;
  compensation = l.compensation +ℤ p.compensation;
  mandates = l.mandates;
  collections = l.collections;
  creditors = l.creditors;
  creditor_positions = posted l.creditor_positions k.creditor p.creditor;
  debtor_positions = posted l.debtor_positions k.debtor p.debtor;
  bank_positions = posted (posted l.bank_positions k.dbank p.dbank) k.cbank p.cbank;
}

-- ---- the row of a number

abbrev pub at_row : Option ℕ → Ledger → (ℕ → Ledger) → Ledger
at_row None l f = l
at_row (Some row) l f = f row

abbrev pub at_mandate : Ledger → ℕ → (ℕ → Mandate → Ledger) → Ledger
at_mandate l n f = at_row (lookup l.mandates l.mandates_used n) l (λ row. f row (mandate_at l.mandates row))

abbrev pub at_collection : Ledger → ℕ → (ℕ → Collection → Ledger) → Ledger
at_collection l n f = at_row (lookup l.collections l.collections_used n) l (λ row. f row (collection_at l.collections row))

abbrev pub keep_mandate : Ledger → ℕ → Mandate → Ledger
keep_mandate l row m = with_mandates l (put_mandate l.mandates row m) l.mandates_used

abbrev pub keep_collection : Ledger → ℕ → Collection → Ledger
keep_collection l row k = with_collections l (put_collection l.collections row k) l.collections_used

-- the next row
abbrev pub add_mandate : Ledger → Mandate → Ledger
add_mandate l m = with_mandates l (put_mandate l.mandates l.mandates_used m) (l.mandates_used + 1)

abbrev pub add_collection : Ledger → Collection → Ledger
add_collection l k = with_collections l (put_collection l.collections l.collections_used k) (l.collections_used + 1)

-- ---- events 3 and 4: a mandate changes

-- a new debtor bank makes FRST due if the mandate is recurrent
unfoldable pub changed : Change → Mandate → Mandate
changed (NewBank b) m = remade m m.creditor b m.standing (is_recurrent m.code || m.first) m.presented
changed (NewCreditor a) m = remade m a m.bank m.standing m.first m.presented
changed Cancel m = remade m m.creditor m.bank Cancelled m.first m.presented

-- ---- event 5: a collection is presented

-- codes 2 FNAL and 3 OOFF close the mandate
abbrev pub closes : ℕ → Bool
closes code = leb 2 code

-- FRST clears "due"; the kept due is the one last presented
unfoldable pub presented_on : Presentation → Mandate → Mandate
presented_on p m =
    remade m m.creditor m.bank
    (cond (closes p.code) Closed m.standing) (m.first && not (eqb p.code 0)) (kept_due p.requested)

-- with the parties and the two banks of this moment
unfoldable pub new_collection : List ℕ → Presentation → Mandate → Collection
new_collection creditors p m = record {
  number = p.collection;
  creditor = m.creditor;
  debtor = m.debtor;
  cbank = bank_of creditors m.creditor;
  dbank = m.bank;
  amount = p.amount;
  due = kept_due p.requested;
  state = Presented;
}

-- ---- events 6 to 10: a collection is treated

abbrev pub undoing_of : Way → Undoing
undoing_of ByReturn = Return
undoing_of (ByRefund rate authorisation) = Refund
undoing_of ByReversal = Reversal

abbrev pub state_after : Treatment → ℕ → State
state_after Settle date = Settled date
state_after Reject date = Rejected
state_after (Undo way) date = Undone date (undoing_of way)

unfoldable pub treated : Treatment → ℕ → Collection → Collection
treated t date k = with_state k (state_after t date)

-- what an undoing posts, a refund by the rule of its own date and with the calendar days since the settled day
abbrev pub undone : Way → ℕ → ℕ → ℕ → Postings
undone ByReturn amount settled date = reversed amount
undone (ByRefund rate authorisation) amount settled date = refunded amount (compensationFor date amount rate (days_since settled date))
undone ByReversal amount settled date = reversed amount

-- a settle, return, refund or reversal posts; a reject does not
abbrev pub post_treated : Ledger → Treatment → ℕ → Collection → Ledger
post_treated l Settle date k = with_postings l k (settlement k.amount)
post_treated l Reject date k = l
post_treated l (Undo way) date k = with_postings l k (undone way k.amount (settled_on k.state) date)

-- ---- all kinds

unfoldable pub effect : Ledger → ℕ → Action → Ledger
effect l date (AddCreditor a b) = with_creditors (dated l date) (set l.creditors (a - 1) b)
effect l date (AddMandate m) = add_mandate (dated l date) m
effect l date (ChangeMandate n c) = at_mandate (dated l date) n (λ row m. keep_mandate (dated l date) row (changed c m))
effect l date (Collect p) =
    at_mandate (dated l date) p.mandate
    (λ row m. add_collection (keep_mandate (dated l date) row (presented_on p m)) (new_collection l.creditors p m))
effect l date (Treat n t) =
    at_collection (dated l date) n
    (λ row k. post_treated (keep_collection (dated l date) row (treated t date k)) t date k)
