-- The text line. Document 01, "The text line", and refusals 1 and 2.
-- Bytes are numbers; `field_bytes` and `read_field` of one field are those of crates/digits. `line_of` is the line of an event, `read_line`
-- what a list of bytes says. Assumes nothing.
use Rattle.std.specs.Prelude.{ℕ, ◌+◌, Bool, cond, ◌&&◌, List, [], ◌∷◌, ◌++◌, leb, eqb, length, take, drop, get_or, Option, Some, None, Result, Ok, Err}
use Rattle.common.specs.Checks.{check, judged}
use Rattle.refusals.specs.declared.Refusal.{Refusal}
use Rattle.refusals.specs.declared.Refusal.TheVariants.{BadLine, UnfitMemory}
use Rattle.events.specs.declared.Event.{Event}
pub use Rattle.events.specs.Fields.{fields_of, event_of}
use Rattle.digits.specs.Field.{field_bytes, read_field}
use Rattle.events.specs.Limits.{limit_checks, checked, limit_numbers, limit_number}

-- ---- the columns

-- of kind, date, mandate, a, b, c, amount, second date, code
abbrev pub widths : List ℕ
widths = 2 ∷ 9 ∷ 10 ∷ 10 ∷ 10 ∷ 10 ∷ 12 ∷ 9 ∷ 2 ∷ []

-- the columns of the nine fields
abbrev pub columns : ℕ
columns = 74

-- the columns and the byte that ends them
abbrev pub line_length : ℕ
line_length = columns + 1

abbrev pub line_end : ℕ
line_end = 10

-- ---- the line of an event

-- fields one after the other, by their widths
abbrev pub fields_bytes : List ℕ → List ℕ → List ℕ
fields_bytes [] vs = []
fields_bytes (w ∷ ws) [] = []
fields_bytes (w ∷ ws) (v ∷ vs) = field_bytes w v ++ fields_bytes ws vs

unfoldable pub line_of : Event → List ℕ
line_of e = fields_bytes widths (fields_of e) ++ (line_end ∷ [])

-- ---- reading

-- the fields of a line, or none where one of them cannot be read
pub data Fields : Type 0 where
  Values : List ℕ → Fields
  Unreadable : Fields

abbrev pub joined : Option ℕ → Fields → Fields
joined None vs = Unreadable
joined (Some v) Unreadable = Unreadable
joined (Some v) (Values vs) = Values (v ∷ vs)

-- the fields that stand in l one after the other from a place on, by their widths
abbrev pub read_fields : List ℕ → ℕ → List ℕ → Fields
read_fields [] at l = Values []
read_fields (w ∷ ws) at l = joined (read_field (take w (drop at l))) (read_fields ws (at + w) l)

-- the event of fields, or refusal 1
abbrev pub event_read : Fields → Result Event Refusal
event_read Unreadable = Err BadLine
event_read (Values vs) = Ok (event_of vs)

-- an event that was read is within its limits, or is refused by 3, 4 or 5
abbrev pub answer_of : Event → Result Unit Refusal → Result Event Refusal
answer_of e (Ok tt) = Ok e
answer_of e (Err r) = Err r

abbrev pub event_taken : Result Event Refusal → Result Event Refusal
event_taken (Err r) = Err r
event_taken (Ok e) = answer_of e (checked e)

abbrev pub taken : Fields → Result Event Refusal
taken fields = event_taken (event_read fields)

-- 74 columns and byte 10
abbrev pub is_line : List ℕ → Bool
is_line l = eqb (length l) line_length && eqb (get_or l columns 0) line_end

unfoldable pub read_line : List ℕ → Result Event Refusal
read_line l =
    cond (is_line l)
    (taken (read_fields widths 0 l))
    (Err BadLine)

-- ---- writing to a lent buffer

-- 2, then 3, 4 and 5
unfoldable pub write_answer : Event → List ℕ → Result Unit Refusal
write_answer e out = judged (check (leb line_length (length out)) (Err UnfitMemory) ∷ limit_checks e) (Ok tt)

abbrev pub bytes_by : Result Unit Refusal → Event → List ℕ → List ℕ
bytes_by (Ok tt) e out = line_of e ++ drop line_length out
bytes_by (Err r) e out = out

-- the buffer after the call: the line and then its own bytes, or as it was
unfoldable pub bytes_after : Event → List ℕ → List ℕ
bytes_after e out = bytes_by (write_answer e out) e out

-- ---- the answers in the paper's numbers

-- 1 where a line or a field is not as it should be, then 3, 4 and 5
abbrev pub fields_number : Fields → ℕ
fields_number Unreadable = 1
fields_number (Values vs) = limit_number (event_of vs)

unfoldable pub reader_number : List ℕ → ℕ
reader_number l =
    cond (is_line l)
    (fields_number (read_fields widths 0 l))
    1

-- 2 where the buffer is too short, then 3, 4 and 5
unfoldable pub writer_number : Event → List ℕ → ℕ
writer_number e out = judged (check (leb line_length (length out)) 2 ∷ limit_numbers e) 0
