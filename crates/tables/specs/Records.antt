-- Document 01, "Records": a mandate and a collection as the cells of a row, and back; and with some fields anew. A new field
-- is a column, a cell of `mandate_cells`, and a line of `mandate_from` and `remade` (or of `collection_cells`, `collection_from` and
-- `with_state`); the stride must have room for it.
-- To cite: proofs/Laws/Records. Assumes nothing.
use Rattle.std.specs.Prelude.{Bool, cond, not, List, [], ◌∷◌, ◌++◌, ℕ, ◌-◌, eqb, length, get_or, replicate}
use Rattle.tables.specs.declared.Mandate.{Mandate}
use Rattle.tables.specs.declared.Standing.{Standing}
use Rattle.tables.specs.declared.Standing.TheVariants.{Live, Closed, Cancelled}
use Rattle.tables.specs.declared.Collection.{Collection}
use Rattle.tables.specs.declared.State.{State}
use Rattle.tables.specs.declared.State.TheVariants.{Presented, Rejected, Settled, Undone}
use Rattle.tables.specs.declared.Undoing.TheVariants.{Return, Refund, Reversal}
use Rattle.tables.specs.Limits.{stride}
use Rattle.tables.specs.MandateColumn
use Rattle.tables.specs.CollectionColumn

-- the cells of a row: fields in their columns, and 0 behind the last
abbrev pub filled : List ℕ → List ℕ
filled fields = fields ++ replicate (stride - length fields) 0

-- ---- a mandate

-- "whether it is live, closed or cancelled"
abbrev pub standing_tag : Standing → ℕ
standing_tag Live = 0
standing_tag Closed = 1
standing_tag Cancelled = 2

-- a tag past 2 is unfit, and reads as cancelled
abbrev pub standing_of : ℕ → Standing
standing_of tag = cond (eqb tag 0) Live (cond (eqb tag 1) Closed Cancelled)

-- "whether FRST is due"
abbrev pub flag_cell : Bool → ℕ
flag_cell first = cond first 1 0

-- a cell past 1 is unfit, and reads as yes
abbrev pub flag_of : ℕ → Bool
flag_of x = not (eqb x 0)

abbrev pub mandate_cells : Mandate → List ℕ
mandate_cells m =
    filled
    (m.number
    ∷ m.creditor
    ∷ m.debtor
    ∷ m.bank
    ∷ m.signed
    ∷ m.code
    ∷ standing_tag m.standing
    ∷ flag_cell m.first
    ∷ m.presented
    ∷ [])

unfoldable pub mandate_from : List ℕ → Mandate
mandate_from fields = record {
  number = get_or fields MandateColumn.number 0;
  creditor = get_or fields MandateColumn.creditor 0;
  debtor = get_or fields MandateColumn.debtor 0;
  bank = get_or fields MandateColumn.bank 0;
  signed = get_or fields MandateColumn.signed 0;
  code = get_or fields MandateColumn.code 0;
  standing = standing_of (get_or fields MandateColumn.standing 0);
  first = flag_of (get_or fields MandateColumn.first 0);
  presented = get_or fields MandateColumn.presented 0;
}

-- the mandate with another creditor, debtor bank, standing, mark that FRST is due, or last presented
abbrev pub remade : Mandate → ℕ → ℕ → Standing → Bool → ℕ → Mandate
remade m creditor bank standing first presented = record {
  number = m.number;
  creditor = creditor;
  debtor = m.debtor;
  bank = bank;
  signed = m.signed;
  code = m.code;
  standing = standing;
  first = first;
  presented = presented;
}

-- ---- a collection

-- "presented; rejected; settled on a day; undone on a day by return, refund or reversal"
abbrev pub state_tag : State → ℕ
state_tag Presented = 0
state_tag Rejected = 1
state_tag (Settled day) = 2
state_tag (Undone day Return) = 3
state_tag (Undone day Refund) = 4
state_tag (Undone day Reversal) = 5

-- a presented or rejected collection has no day, and 0 in its cell
abbrev pub state_day : State → ℕ
state_day Presented = 0
state_day Rejected = 0
state_day (Settled day) = day
state_day (Undone day by) = day

-- a tag past 5 is unfit, and reads as a reversal
abbrev pub state_of : ℕ → ℕ → State
state_of tag day =
    cond (eqb tag 0) Presented
    (cond (eqb tag 1) Rejected
    (cond (eqb tag 2) (Settled day)
    (cond (eqb tag 3) (Undone day Return)
    (cond (eqb tag 4) (Undone day Refund)
    (Undone day Reversal)))))

abbrev pub collection_cells : Collection → List ℕ
collection_cells c =
    filled
    (c.number
    ∷ c.creditor
    ∷ c.debtor
    ∷ c.cbank
    ∷ c.dbank
    ∷ c.amount
    ∷ c.due
    ∷ state_tag c.state
    ∷ state_day c.state
    ∷ [])

unfoldable pub collection_from : List ℕ → Collection
collection_from fields = record {
  number = get_or fields CollectionColumn.number 0;
  creditor = get_or fields CollectionColumn.creditor 0;
  debtor = get_or fields CollectionColumn.debtor 0;
  cbank = get_or fields CollectionColumn.cbank 0;
  dbank = get_or fields CollectionColumn.dbank 0;
  amount = get_or fields CollectionColumn.amount 0;
  due = get_or fields CollectionColumn.due 0;
  state = state_of (get_or fields CollectionColumn.state 0) (get_or fields CollectionColumn.day 0);
}

-- the collection in another state
abbrev pub with_state : Collection → State → Collection
with_state c state = record {
  number = c.number;
  creditor = c.creditor;
  debtor = c.debtor;
  cbank = c.cbank;
  dbank = c.dbank;
  amount = c.amount;
  due = c.due;
  state = state;
}
