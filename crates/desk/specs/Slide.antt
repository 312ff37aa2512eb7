-- The kept due date of a requested one, and how many calendar days it slid. Document 02, (e): "The kept due date is now given together with
-- the number of calendar days from the requested one". Assumes nothing.
use Rattle.std.specs.Prelude.{cond, ◌&&◌, Bool, List, ◌++◌, ℕ, ◌+◌, eqb, length, get_or, Option, Some, None, Result, Ok, Err}
use Rattle.calendar.specs.Gregorian.{in_range}
use Rattle.calendar.specs.Target.{kept}
use Rattle.calendar.specs.declared.KeptDate.{KeptDate}
use Rattle.refusals.specs.Refusals.{answer_number}
use Rattle.refusals.specs.declared.Refusal.{Refusal}
use Rattle.refusals.specs.declared.Refusal.TheVariants.{BadLine, BadField}
use Rattle.digits.specs.Field.{field_bytes, field_at}
use Rattle.lines.specs.Line.{line_end}

-- ---- the answer to a requested date

abbrev pub value_or : {A : Type 0} → Refusal → Option A → Result A Refusal
value_or r (Some x) = Ok x
value_or r None = Err r

-- refusal 5 where the number is no date of the events' range; every date of it has a kept due date (crates/calendar, `KeptDue`)
unfoldable pub slide : ℕ → Result KeptDate Refusal
slide x = cond (in_range x) (value_or BadField (kept x)) (Err BadField)

-- ---- the line of a question: 9 columns with the requested date, and byte 10

abbrev pub slide_columns : ℕ
slide_columns = 9

abbrev pub slide_line_length : ℕ
slide_line_length = slide_columns + 1

abbrev pub is_question : List ℕ → Bool
is_question line = eqb (length line) slide_line_length && eqb (get_or line slide_columns 0) line_end

-- the requested date, or refusal 1 for a line of any other shape
unfoldable pub requested : List ℕ → Result ℕ Refusal
requested line = cond (is_question line) (value_or BadLine (field_at 0 slide_columns line)) (Err BadLine)

-- ---- what is said to a line: the answer's number, the kept due date and the days, the last two 0 where it is refused

abbrev pub slide_of : Result ℕ Refusal → Result KeptDate Refusal
slide_of (Ok x) = slide x
slide_of (Err r) = Err r

abbrev pub asked : List ℕ → Result KeptDate Refusal
asked line = slide_of (requested line)

abbrev pub shown : Result KeptDate Refusal → KeptDate
shown (Ok answer) = answer
shown (Err r) = record { date = 0; slid = record { 0 = 0 } }

abbrev pub said_of : Result KeptDate Refusal → List ℕ
said_of a = field_bytes 3 (answer_number a) ++ field_bytes 9 (shown a).date ++ field_bytes 2 (shown a).slid.0

unfoldable pub slide_said : List ℕ → List ℕ
slide_said line = said_of (asked line)

-- the bytes of an answer: the line's number in 6, what is said in 14, and byte 10
abbrev pub slide_answer_length : ℕ
slide_answer_length = 21
