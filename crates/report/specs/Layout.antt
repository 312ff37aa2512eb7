-- The lines that the program `ledger` writes. Document 01, "The text line". Bytes are numbers; a number in its field is that of
-- crates/digits, `field_bytes` without a sign and `signed_bytes` with one. Assumes nothing.
use Rattle.std.specs.Prelude.{Bool, ◌&&◌, List, [], ◌∷◌, ◌++◌, ℕ, leb, ℤ, length}
use Rattle.positions.specs.Positions.{position_limit, in_limit}
use Rattle.digits.specs.Field.{field_bytes, signed_bytes, has_room}
use Rattle.lines.specs.Line.{line_end}

-- ---- the two lines

-- a line's number and its answer
unfoldable pub answer_line : ℕ → ℕ → List ℕ
answer_line number answer = field_bytes 6 number ++ field_bytes 3 answer ++ (line_end ∷ [])

abbrev pub answer_length : ℕ
answer_length = 10

-- a kind of party, its number and its cents; or 4, 0 and total compensation
unfoldable pub position_line : ℕ → ℕ → ℤ → List ℕ
position_line kind number cents = field_bytes 2 kind ++ field_bytes 6 number ++ signed_bytes 18 cents ++ (line_end ∷ [])

abbrev pub position_length : ℕ
position_length = 27

-- ---- what is written: the largest numbers of 2, 3 and 6 columns, and a line that the buffer has room for

abbrev pub widest_kind : ℕ
widest_kind = 99

abbrev pub last_answer : ℕ
last_answer = 999

abbrev pub last_number : ℕ
last_number = 999999

unfoldable pub answer_fits : ℕ → ℕ → ℕ → List ℕ → Bool
answer_fits at number answer out =
    has_room at answer_length (length out) && leb number last_number && leb answer last_answer

unfoldable pub position_fits : ℕ → ℕ → ℕ → ℤ → List ℕ → Bool
position_fits at kind number cents out =
    has_room at position_length (length out) && leb kind widest_kind && leb number last_number && in_limit position_limit cents
