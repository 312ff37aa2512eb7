-- The table of document 01, "Dates and cents to prove": a row for each, a question beside what the paper says. Answers are those of
-- the ledger after four accepted events, which settle a collection on 20240402, its kept due; K is asked for refunds of that day and of the
-- next, which take a half cent up. Assumes nothing.
use Rattle.std.specs.Prelude.{◌≡◌, false, List, [], ◌∷◌, ℕ, length}
use Rattle.calendar.specs.Easter.{easter_of}
use Rattle.calendar.specs.Periods.{months_after}
use Rattle.positions.specs.Compensation.{compensation as compensationFor}
use Rattle.events.specs.declared.Event.{Event}
use Rattle.tables.specs.Ledger.{Ledger}
use Rattle.opening.specs.Opening.{opened}
use Rattle.tables.specs.declared.Mandate.{Mandate}
use Rattle.tables.specs.declared.Standing.TheVariants.{Live}
use Rattle.tables.specs.declared.Collection.{Collection}
use Rattle.tables.specs.declared.State.TheVariants.{Settled}
use Rattle.model.specs.Deadlines.{date_found, kept_due, slid}
use Rattle.model.specs.Lookups.{mandate_of, collection_of}
use Rattle.model.specs.Lookups.Known.{known}
use Rattle.model.specs.Step.{answer_number, answer_value, answer, outcome, run}
use Rattle.witness.specs.Opening.{event, lent}

-- ---- the ledger that is asked

-- creditor 1, mandate 7, collection 70 presented and settled
abbrev pub events : List Event
events =
    event 1 20240325 0 1 1 0 0 0 0
    ∷ event 2 20240325 7 1 5 2 0 20240325 0
    ∷ event 5 20240325 7 70 0 0 10000 20240329 0
    ∷ event 6 20240402 0 70 0 0 0 0 0
    ∷ []

abbrev pub book : Ledger
book = run (opened lent) events

-- last due 20240402; FRST is not due
abbrev pub mandate : Mandate
mandate = record {
  number = 7;
  creditor = 1;
  debtor = 5;
  bank = 2;
  signed = 20240325;
  code = 0;
  standing = Live;
  first = false;
  presented = 20240402;
}

-- S = 20240402
abbrev pub collection : Collection
collection = record {
  number = 70;
  creditor = 1;
  debtor = 5;
  cbank = 1;
  dbank = 2;
  amount = 10000;
  due = 20240402;
  state = Settled 20240402;
}

-- ---- questions

pub data Question : Type 0 where
  Easter : ℕ → Question  -- of a year
  KeptFor : ℕ → Question  -- the kept due of a requested date
  SlidFrom : ℕ → Question  -- the calendar days from a requested date to its kept due
  Months : ℕ → ℕ → Question  -- a number of them after a date
  Answer : Event → Question  -- of the ledger, to an event
  Value : Event → Question  -- what that answer hands on
  Cents : ℕ → ℕ → ℕ → ℕ → Question  -- K of a refund's date, an amount, a rate and days

-- of collection 70, on a date
abbrev pub return : ℕ → Question
return date = Answer (event 8 date 0 70 0 0 0 0 0)

abbrev pub authorised : ℕ → Question
authorised date = Answer (event 9 date 0 70 360 0 0 0 0)

abbrev pub unauthorised : ℕ → Question
unauthorised date = Answer (event 9 date 0 70 360 0 0 0 1)

-- on mandate 7, on a date, of a due that is a business day and so is kept
abbrev pub collect : ℕ → ℕ → Question
collect date due = Answer (event 5 date 7 71 0 0 10000 due 1)

-- what the definitions say
abbrev pub said : Question → ℕ
said (Easter year) = date_found (easter_of year)
said (KeptFor requested) = kept_due requested
said (SlidFrom requested) = (slid requested).0
said (Months n date) = date_found (months_after (record { 0 = n }) date)
said (Answer e) = answer_number (answer book e)
said (Value e) = answer_value (outcome book e)
said (Cents date amount rate days) = compensationFor date amount rate days

-- ---- the table

pub record Row : Type 0 where
  pub question : Question
  pub paper : ℕ

abbrev pub row : Question → ℕ → Row
row q p = record { question = q; paper = p }

unfoldable pub table : List Row
table =
    row (Easter 2024) 20240331
    ∷ row (KeptFor 20240329) 20240402
    ∷ row (return 20240409) 0
    ∷ row (return 20240410) 17
    ∷ row (authorised 20240530) 0
    ∷ row (authorised 20240531) 17
    ∷ row (unauthorised 20250605) 0
    ∷ row (unauthorised 20250606) 17
    ∷ row (Months 13 20250131) 20260228
    ∷ row (collect 20270325 20270402) 0
    ∷ row (collect 20270402 20270405) 14
    ∷ row (Cents 20240403 5000 360 1) 1
    ∷ row (Cents 20240402 5000 360 0) 0
    ∷ []

-- ---- the statement

-- every row of a table says what the definitions say
abbrev pub Agree : List Row → Type 0
Agree [] = Unit {0}
Agree (r ∷ rs) = (said r.question ≡ r.paper) × Agree rs

abbrev pub questions_of : List Row → List Question
questions_of [] = []
questions_of (r ∷ rs) = r.question ∷ questions_of rs

-- the questions of the paper once more, in its order, with each event written out
abbrev pub questions : List Question
questions =
    Easter 2024
    ∷ KeptFor 20240329
    ∷ Answer (event 8 20240409 0 70 0 0 0 0 0)
    ∷ Answer (event 8 20240410 0 70 0 0 0 0 0)
    ∷ Answer (event 9 20240530 0 70 360 0 0 0 0)
    ∷ Answer (event 9 20240531 0 70 360 0 0 0 0)
    ∷ Answer (event 9 20250605 0 70 360 0 0 0 1)
    ∷ Answer (event 9 20250606 0 70 360 0 0 0 1)
    ∷ Months 13 20250131
    ∷ Answer (event 5 20270325 7 71 0 0 10000 20270402 1)
    ∷ Answer (event 5 20270402 7 71 0 0 10000 20270405 1)
    ∷ Cents 20240403 5000 360 1
    ∷ Cents 20240402 5000 360 0
    ∷ []

pub record Thirteen : Type 0 where
  -- the ledger that is asked: S, and the last due
  pub settled : collection_of book 70 ≡ known collection
  pub presented : mandate_of book 7 ≡ known mandate
  -- no row is left out, and none asks for anything else
  pub rows : length table ≡ 13
  pub asked : questions_of table ≡ questions
  -- every row holds
  pub agree : Agree table
