-- What the tables hold, as the journal notes it. The journal itself reads no table; this stands beside it, for a list of events that starts
-- on tables as they are. Where rows share a number the lowest counts. Assumes nothing.
use Rattle.std.specs.Prelude.{◌≡◌, ℕ, pos}
use Rattle.tables.specs.declared.Mandate.{Mandate}
use Rattle.tables.specs.declared.Collection.{Collection}
use Rattle.tables.specs.declared.State.TheVariants.{Settled}
use Rattle.tables.specs.Ledger.{Ledger, bank_of}
use Rattle.model.specs.Lookups.{Known, mandate_of, collection_of}
use Rattle.model.specs.Lookups.Known.{unknown, known}
use Rattle.model.specs.Checks.{settled_on}
use Rattle.model.specs.Journal.{NotedMandate, NotedCollection, Journal}

-- ---- a mandate, as its row holds it

unfoldable pub noted_of : Mandate → NotedMandate
noted_of m = record {
  creditor = m.creditor;
  debtor = m.debtor;
  bank = m.bank;
  signed = m.signed;
  code = m.code;
  standing = m.standing;
  presented = m.presented;
}

abbrev pub noted_known : Known Mandate → Known NotedMandate
noted_known unknown = unknown
noted_known (known m) = known (noted_of m)

-- ---- a collection, as its row holds it

-- a row holds S while it is settled; its mandate and code it does not hold, and no bullet of the journal asks for them
unfoldable pub row_noted : Collection → NotedCollection
row_noted k = record {
  mandate = 0;
  code = 0;
  amount = k.amount;
  creditor = k.creditor;
  debtor = k.debtor;
  cbank = k.cbank;
  dbank = k.dbank;
  settled = settled_on k.state;
}

abbrev pub row_noted_known : Known Collection → Known NotedCollection
row_noted_known unknown = unknown
row_noted_known (known k) = known (row_noted k)

-- a row and a note say the same of a collection: its parties, banks and amount, and S where the row is settled
pub record SameCollection (k : Collection) (n : NotedCollection) : Type 0 where
  pub creditor : k.creditor ≡ n.creditor
  pub debtor : k.debtor ≡ n.debtor
  pub cbank : k.cbank ≡ n.cbank
  pub dbank : k.dbank ≡ n.dbank
  pub amount : k.amount ≡ n.amount
  pub settled : (s : ℕ) → k.state ≡ Settled s → n.settled ≡ s

abbrev pub SameKnown : Known Collection → Known NotedCollection → Type 0
SameKnown unknown unknown = Unit {0}
SameKnown unknown (known n) = ⊥
SameKnown (known k) unknown = ⊥
SameKnown (known k) (known n) = SameCollection k n

-- ---- the journal that starts on tables: it has noted what they hold, and every figure is 0

abbrev pub started : Ledger → Journal
started l = record {
  banks = bank_of l.creditors;
  mandates = λ n. noted_known (mandate_of l n);
  collections = λ n. row_noted_known (collection_of l n);
  creditor_figure = λ n. pos 0;
  debtor_figure = λ n. pos 0;
  bank_figure = λ n. pos 0;
  compensation = pos 0;
}
