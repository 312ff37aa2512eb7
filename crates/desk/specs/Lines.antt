-- A text by its lines, and what is written to them: `said` are the bytes that are said to a line, whatever the question. Each byte 10 ends a
-- line, and nothing else does (crates/report/specs/Cut); no more than 999,999 are answered. Assumes nothing.
use Rattle.std.specs.Prelude.{◌≡◌, Bool, cond, ◌&&◌, List, [], ◌∷◌, ◌++◌, ℕ, ◌+◌, ◌/◌, leb, length, take, drop, Result, Ok, Err}
use Rattle.std.specs.List.{concat}
use Rattle.refusals.specs.Refusals.{number_of, answer_number}
use Rattle.refusals.specs.declared.Refusal.{Refusal}
use Rattle.refusals.specs.declared.Refusal.TheVariants.{UnfitMemory}
use Rattle.digits.specs.Field.{field_bytes, pasted}
use Rattle.lines.specs.Line.{line_end}
use Rattle.report.specs.Cut.{answered_lines}
use Rattle.desk.specs.declared.Piece.{Piece}

-- ---- the lines of a text

-- the bytes behind the lines that are answered: a line that has not ended, or whatever stands behind the last that is answered
unfoldable pub rest_behind : ℕ → List ℕ → List ℕ
rest_behind n text = drop (length (concat (answered_lines n text))) text

-- ---- what is written

-- a line's number, what is said to it, and byte 10
unfoldable pub numbered : ℕ → List ℕ → List ℕ
numbered number said = field_bytes 6 number ++ said ++ (line_end ∷ [])

-- to lines, where n were answered before
unfoldable pub lines_output : (List ℕ → List ℕ) → ℕ → List (List ℕ) → List ℕ
lines_output said n [] = []
lines_output said n (line ∷ rest) = numbered (n + 1) (said line) ++ lines_output said (n + 1) rest

-- ---- the call for a piece of input: the first `filled` bytes of a text, where n lines were answered before. A sound line has `long` bytes
-- with the one that ends it, and an answer `wide`

-- the text is there, and the buffer has room for an answer to each byte
abbrev pub piece_fits : ℕ → ℕ → List ℕ → List ℕ → Bool
piece_fits wide filled text out = leb filled (length text) && leb filled (length out / wide)

-- of the rest no more is kept than shows that the line is too long
abbrev pub kept_rest : ℕ → ℕ → List ℕ → List ℕ
kept_rest long n input = take long (rest_behind n input)

abbrev pub output_of : (List ℕ → List ℕ) → ℕ → List ℕ → List ℕ
output_of said n input = lines_output said n (answered_lines n input)

-- the lines answered so far, the bytes of the rest that are kept, and those written
abbrev pub piece_of : ℕ → (List ℕ → List ℕ) → ℕ → List ℕ → Piece
piece_of long said n input =
    record {
      lines = n + length (answered_lines n input);
      partial = length (kept_rest long n input);
      written = length (output_of said n input);
    }

-- where text and buffer fit, the answers stand at the front of the buffer, and the kept rest at that of the text; else nothing changes
pub record PieceAnswered
    (long wide : ℕ) (said : List ℕ → List ℕ) (n filled : ℕ) (text out : List ℕ) (r : Result Piece Refusal) (text' out' : List ℕ) : Type 0 where
  pub answer_is : r ≡ cond (piece_fits wide filled text out) (Ok (piece_of long said n (take filled text))) (Err UnfitMemory)
  pub number_is : answer_number r ≡ cond (piece_fits wide filled text out) 0 (number_of UnfitMemory)
  pub out_is : out' ≡ cond (piece_fits wide filled text out) (pasted 0 (output_of said n (take filled text)) out) out
  pub text_is : text' ≡ cond (piece_fits wide filled text out) (pasted 0 (kept_rest long n (take filled text)) text) text
