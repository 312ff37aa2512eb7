-- Document 01, "Records": all that is lent. Every contract over the tables is an equation between two ledgers.
-- The entry of creditor, debtor or bank number k is entry k - 1 of its table.
-- Assumes nothing.
use Rattle.std.specs.Prelude.{◌≡◌, Bool, cond, not, List, ℕ, ◌-◌, eqb, ℤ, get_or}
use Rattle.tables.specs.declared.Header.{Header}
use Rattle.tables.specs.declared.BookRef.{BookRef}
use Rattle.tables.specs.declared.BookMut.{BookMut}

pub record Ledger : Type 0 where
  pub latest : ℕ
  pub mandates_used : ℕ
  pub collections_used : ℕ
  pub compensation : ℤ
  pub mandates : List ℕ
  pub collections : List ℕ
  pub creditors : List ℕ
  pub creditor_positions : List ℤ
  pub debtor_positions : List ℤ
  pub bank_positions : List ℤ

-- the ledger of a header and the lent tables
abbrev pub ledger : Header → List ℕ → List ℕ → List ℕ → List ℤ → List ℤ → List ℤ → Ledger
ledger h m c cr cp dp bp = record {
  latest = h.latest;
  mandates_used = h.mandates;
  collections_used = h.collections;
  compensation = h.compensation;
  mandates = m;
  collections = c;
  creditors = cr;
  creditor_positions = cp;
  debtor_positions = dp;
  bank_positions = bp;
}

-- the ledger that is lent to be read, and that is lent to be changed
abbrev pub ledger_of : BookRef → Ledger
ledger_of b =
    ledger
    b.header
    b.mandates.now
    b.collections.now
    b.creditors.now
    b.creditor_positions.now
    b.debtor_positions.now
    b.bank_positions.now

abbrev pub ledger_in : BookMut → Ledger
ledger_in b =
    ledger
    b.header
    b.mandates.now
    b.collections.now
    b.creditors.now
    b.creditor_positions.now
    b.debtor_positions.now
    b.bank_positions.now

-- a call keeps the loans: its caller finds the new tables in the memory that it lent
pub record SameLoans (a b : BookMut) : Type 0 where
  pub mandates : b.mandates.ghost_name ≡ a.mandates.ghost_name
  pub collections : b.collections.ghost_name ≡ a.collections.ghost_name
  pub creditors : b.creditors.ghost_name ≡ a.creditors.ghost_name
  pub creditor_positions : b.creditor_positions.ghost_name ≡ a.creditor_positions.ghost_name
  pub debtor_positions : b.debtor_positions.ghost_name ≡ a.debtor_positions.ghost_name
  pub bank_positions : b.bank_positions.ghost_name ≡ a.bank_positions.ghost_name

-- "a creditor exists, with its bank, once event 1 has added it": its bank, 0 where there is none
unfoldable pub bank_of : List ℕ → ℕ → ℕ
bank_of creditors number = cond (eqb number 0) 0 (get_or creditors (number - 1) 0)

abbrev pub added : List ℕ → ℕ → Bool
added creditors number = not (eqb (bank_of creditors number) 0)
