-- The limits of an event's fields. Document 01, "Records", "Ten events" and refusals 3, 4 and 5.
-- `table` is the whole of it: a row for each kind and its codes, with the range of every field. Assumes nothing.
use Rattle.std.specs.Prelude.{ℕ, Bool, false, cond, ◌&&◌, List, [], ◌∷◌, leb, eqb, Option, Some, None, Result, Ok, Err}
use Rattle.common.specs.Limits.{creditor_count, debtor_count, bank_count, number_limit, amount_limit, rate_limit}
use Rattle.common.specs.Tests.{all_of}
use Rattle.common.specs.Checks.{Check, check, judged}
use Rattle.calendar.specs.Gregorian.{in_range}
use Rattle.refusals.specs.declared.Refusal.{Refusal}
use Rattle.refusals.specs.declared.Refusal.TheVariants.{UnknownKind, BadDate, BadField}
use Rattle.events.specs.declared.Event.{Event}
use Rattle.events.specs.declared.limits.Range.{Range}
use Rattle.events.specs.declared.limits.SecondDate.{SecondDate}
use Rattle.events.specs.declared.limits.SecondDate.TheVariants.{NoSecond, Dated, NotAfter}
use Rattle.events.specs.declared.limits.Row.{Row}

-- ---- ranges, both ends included

abbrev pub from_to : ℕ → ℕ → Range
from_to l h = record { low = l; high = h }

abbrev pub one_to : ℕ → Range
one_to h = from_to 1 h

abbrev pub up_to : ℕ → Range
up_to h = from_to 0 h

abbrev pub within : Range → ℕ → Bool
within r x = leb r.low x && leb x r.high

-- ---- the numbers of document 01

-- "Ten events"
abbrev pub last_kind : ℕ
last_kind = 10

-- ---- the ranges of the fields

abbrev pub kinds : Range
kinds = one_to last_kind

-- a field that the kind and code do not name
abbrev pub unnamed : Range
unnamed = up_to 0

abbrev pub creditor : Range
creditor = one_to creditor_count

abbrev pub debtor : Range
debtor = one_to debtor_count

abbrev pub bank : Range
bank = one_to bank_count

-- a mandate or a collection
abbrev pub number : Range
number = one_to number_limit

abbrev pub cents : Range
cents = one_to amount_limit

abbrev pub rate : Range
rate = up_to rate_limit

-- recurrent, one-off
abbrev pub mandate_codes : Range
mandate_codes = up_to 1

-- FRST, RCUR, FNAL, OOFF
abbrev pub sequence_codes : Range
sequence_codes = up_to 3

-- authorised, unauthorised
abbrev pub refund_codes : Range
refund_codes = up_to 1

-- the one code c
abbrev pub only : ℕ → Range
only c = from_to c c

-- ---- the table

-- kind, codes, mandate, a, b, c, amount, second date
abbrev pub row : ℕ → Range → Range → Range → Range → Range → Range → SecondDate → Row
row k codes m x y z amount s =
    record { kind = k; codes = codes; mandate = m; a = x; b = y; c = z; amount = amount; second = s }

unfoldable pub table : List Row
table =
    row 1 unnamed unnamed creditor bank unnamed unnamed NoSecond  -- creditor
    ∷ row 2 mandate_codes number creditor debtor bank unnamed NotAfter  -- mandate
    ∷ row 3 (only 0) number unnamed unnamed bank unnamed NoSecond  -- amend: a new debtor bank
    ∷ row 3 (only 1) number creditor unnamed unnamed unnamed NoSecond  -- amend: a new creditor
    ∷ row 4 unnamed number unnamed unnamed unnamed unnamed NoSecond  -- cancel
    ∷ row 5 sequence_codes number number unnamed unnamed cents Dated  -- collect
    ∷ row 6 unnamed unnamed number unnamed unnamed unnamed NoSecond  -- settle
    ∷ row 7 unnamed unnamed number unnamed unnamed unnamed NoSecond  -- reject
    ∷ row 8 unnamed unnamed number unnamed unnamed unnamed NoSecond  -- return
    ∷ row 9 refund_codes unnamed number rate unnamed unnamed NoSecond  -- refund
    ∷ row 10 unnamed unnamed number unnamed unnamed unnamed NoSecond  -- reversal
    ∷ []

-- the first of the rows that is of a kind and a code
abbrev pub row_in : List Row → ℕ → ℕ → Option Row
row_in [] kind code = None
row_in (r ∷ rs) kind code = cond (eqb r.kind kind && within r.codes code) (Some r) (row_in rs kind code)

unfoldable pub row_of : ℕ → ℕ → Option Row
row_of kind code = row_in table kind code

-- ---- refusals 3, 4 and 5

-- the second date of an event of the date d
abbrev pub second_fits : SecondDate → ℕ → ℕ → Bool
second_fits NoSecond d s = eqb s 0
second_fits Dated d s = in_range s
second_fits NotAfter d s = in_range s && leb s d

unfoldable pub row_fits : Row → Event → Bool
row_fits r e =
    all_of
    (within r.mandate e.mandate
    ∷ within r.a e.a
    ∷ within r.b e.b
    ∷ within r.c e.c
    ∷ within r.amount e.amount
    ∷ second_fits r.second e.date e.second
    ∷ [])

-- a code that the kind does not have has no row
abbrev pub row_answer_fits : Option Row → Event → Bool
row_answer_fits None e = false
row_answer_fits (Some r) e = row_fits r e

unfoldable pub fields_fit : Event → Bool
fields_fit e = row_answer_fits (row_of e.kind e.code) e

-- in checking order
abbrev pub limit_checks : Event → List (Check (Result Unit Refusal))
limit_checks e =
    check (within kinds e.kind) (Err UnknownKind)  -- 3
    ∷ check (in_range e.date) (Err BadDate)  -- 4
    ∷ check (fields_fit e) (Err BadField)  -- 5
    ∷ []

unfoldable pub checked : Event → Result Unit Refusal
checked e = judged (limit_checks e) (Ok tt)

-- the checking order in the paper's numbers: that of the first test that fails, or 0
abbrev pub limit_numbers : Event → List (Check ℕ)
limit_numbers e = check (within kinds e.kind) 3 ∷ check (in_range e.date) 4 ∷ check (fields_fit e) 5 ∷ []

unfoldable pub limit_number : Event → ℕ
limit_number e = judged (limit_numbers e) 0
