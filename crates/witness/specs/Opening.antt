-- The tables that the program lends (document 01, "The text line"), and what a list of events is answered. Assumes nothing.
use Rattle.std.specs.Prelude.{List, [], ◌∷◌, ℕ, ◌*◌, pos, replicate}
use Rattle.events.specs.declared.Event.{Event}
use Rattle.tables.specs.Limits.{creditor_count, debtor_count, bank_count, stride}
use Rattle.tables.specs.Ledger.{Ledger}
use Rattle.model.specs.Step.{answer_number, answer, after}

-- an event by its nine fields, in the columns of a text line:
-- kind, date, mandate, a, b, c, amount, second date, code
abbrev pub event : ℕ → ℕ → ℕ → ℕ → ℕ → ℕ → ℕ → ℕ → ℕ → Event
event kind date mandate a b c amount second code = record {
  kind = kind;
  date = date;
  mandate = mandate;
  a = a;
  b = b;
  c = c;
  amount = amount;
  second = second;
  code = code;
}

-- 128 mandate rows and 256 collection rows, every cell 0
abbrev pub lent : Ledger
lent = record {
  latest = 0;
  mandates_used = 0;
  collections_used = 0;
  compensation = pos 0;
  mandates = replicate (128 * stride) 0;
  collections = replicate (256 * stride) 0;
  creditors = replicate creditor_count 0;
  creditor_positions = replicate creditor_count (pos 0);
  debtor_positions = replicate debtor_count (pos 0);
  bank_positions = replicate bank_count (pos 0);
}

-- the number that each event is answered, 0 accepted; each finds the ledger as the one before left it
unfoldable pub answers : Ledger → List Event → List ℕ
answers l [] = []
answers l (e ∷ es) = answer_number (answer l e) ∷ answers (after l e) es
