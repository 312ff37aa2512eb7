-- The program's input and output: what is read is answered, and nothing else. Assumes nothing.
use Rattle.std.specs.Prelude.{◌≡◌, Bool, false, ◌&&◌, List, ℕ, ◌*◌, ◌≤◌, ◌<◌, leb, ltb, length, take, Option}
use Rattle.std.specs.Io.KnownBytes.{Consumes, Appends, IsAtEnd}
use Rattle.digits.specs.Field.{pasted}
use Rattle.report.specs.Cut.{answered_lines}
use Rattle.report.specs.Layout.{last_number}
use Rattle.desk.specs.declared.Piece.{Piece}
use Rattle.desk.specs.Lines.{kept_rest, output_of, piece_of}
use Rattle.desk.specs.Slide.{slide_line_length, slide_answer_length, slide_said}
use Rattle.desk.specs.Promises.{Stage, stage_at, take_piece}

-- ---- a turn: the first `filled` bytes of the text are answered

-- they are there, and the buffer has room for an answer to each byte of the text
pub record Given (filled : ℕ) (text out : List ℕ) : Type 0 where
  pub inside : filled ≤ length text
  pub room : slide_answer_length * length text ≤ length out

-- the answers stand at the front of the buffer, and the rest that is kept at that of the text
pub record Turned (p : Piece) (filled : ℕ) (text out : List ℕ) (r : Piece) (text' out' : List ℕ) : Type 0 where
  pub piece_is : r ≡ piece_of slide_line_length slide_said p.lines (take filled text)
  pub text_is : text' ≡ pasted 0 (kept_rest slide_line_length p.lines (take filled text)) text
  pub out_is : out' ≡ pasted 0 (output_of slide_said p.lines (take filled text)) out

-- ---- the whole input, of a reader and a writer whose bytes are known, `left` and `held`. Of standard input and output none is known, and then
-- nothing is said

-- there is input past the last line that is answered
abbrev pub is_past : ℕ → ℕ → Bool
is_past lines partial = leb last_number lines && ltb 0 partial

-- some bytes were read, each once and in their order, and to those alone the answers were written; p has as many lines and the rest that is
-- kept. All bytes were read, unless they go past the last line that is answered
pub record InputAnswered (left left' held held' : Option (List ℕ)) (p : Piece) : Type 0 where
  pub input : List ℕ
  pub read : Consumes left left' input
  pub whole : is_past p.lines p.partial ≡ false → IsAtEnd left'
  pub written : Appends held held' (output_of slide_said 0 input)
  pub lines_are : p.lines ≡ length (answered_lines 0 input)
  pub partial_is : p.partial ≡ length (kept_rest slide_line_length 0 input)

-- ---- in between: the rest stands at the front of the text, and there is room to read on

-- the lines answered and the rest
abbrev pub stage_with : ℕ → ℕ → List ℕ → Stage
stage_with lines partial text = record { lines = lines; rest = take partial text }

pub record InputTaken (left left' held held' : Option (List ℕ)) (lines partial : ℕ) (text : List ℕ) : Type 0 where
  pub input : List ℕ
  pub read : Consumes left left' input
  pub written : Appends held held' (output_of slide_said 0 input)
  pub stage_is : stage_with lines partial text ≡ take_piece slide_line_length (stage_at 0) input
  pub room : partial < length text
