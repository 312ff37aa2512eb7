-- What is promised of the answers: `SlideSays`, what is said to any line, worded anew; `InOrder`, the numbers of the lines; `InPieces`.
-- proofs/Laws/Slide, Laws/Lines and Laws/Pieces have the proofs. Assumes nothing.
use Rattle.std.specs.Prelude.{◌≡◌, ◌≢◌, true, false, List, [], ◌∷◌, ◌++◌, ℕ, ◌+◌, ◌^◌, ◌<◌, length, take, drop, Some}
use Rattle.std.specs.List.{concat}
use Rattle.calendar.specs.Gregorian.{in_range}
use Rattle.calendar.specs.Target.{first_business_day}
use Rattle.calendar.specs.Periods.{days_after}
use Rattle.digits.specs.Field.{field_bytes, read_field}
use Rattle.lines.specs.Line.{line_end}
use Rattle.report.specs.Cut.{answered_lines}
use Rattle.desk.specs.Lines.{lines_output, kept_rest, output_of}
use Rattle.desk.specs.Slide.{slide_line_length, slide_said}

-- ---- what is said to a line, by what is read of it: an answer in 3 columns, a date in 9 and days in 2, and nothing behind them

pub record Says (line : List ℕ) (answer date days : ℕ) : Type 0 where
  pub answer_read : read_field (take 3 (slide_said line)) ≡ Some answer
  pub date_read : read_field (take 9 (drop 3 (slide_said line))) ≡ Some date
  pub days_read : read_field (take 2 (drop 12 (slide_said line))) ≡ Some days
  pub long : length (slide_said line) ≡ 14

-- the line that asks for a number
abbrev pub question_of : ℕ → List ℕ
question_of x = field_bytes 9 x ++ (line_end ∷ [])

-- the first business day on or after the date, which lies so many calendar days after it
pub record SaysDue (x : ℕ) : Type 0 where
  pub due : ℕ
  pub days : ℕ
  pub is_due : first_business_day x ≡ Some due
  pub counted : days_after (record { 0 = days }) x ≡ Some due
  pub says : Says (question_of x) 0 due days

pub record SlideSays : Type 0 where
  -- to a date that an event may have
  pub to_date : (x : ℕ) → in_range x ≡ true → SaysDue x
  -- to any other number
  pub to_number : (x : ℕ) → x < 10 ^ 9 → in_range x ≡ false → Says (question_of x) 5 0 0
  -- to any other bytes
  pub to_bytes : (line : List ℕ) → ((x : ℕ) → x < 10 ^ 9 → line ≢ question_of x) → Says line 1 0 0

-- ---- the lines are numbered from 1 on, whatever is asked: where n were answered before, a line that others precede gets the next number

abbrev pub InOrder : Type 0
InOrder =
    (said : List ℕ → List ℕ) (n : ℕ) (before : List (List ℕ)) (line : List ℕ) (after : List (List ℕ))
    → lines_output said n (before ++ (line ∷ after))
    ≡ lines_output said n before
    ++ (field_bytes 6 (n + length before + 1) ++ said line ++ (line_end ∷ []))
    ++ lines_output said (n + length before + 1) after

-- ---- pieces: an input in any number of pieces, each put behind the kept rest of the one before, is answered as if it came at once: no
-- line is lost and none is answered twice

-- the lines answered so far, and the rest that is kept
pub record Stage : Type 0 where
  pub lines : ℕ
  pub rest : List ℕ

abbrev pub stage_at : ℕ → Stage
stage_at n = record { lines = n; rest = [] }

abbrev pub take_piece : ℕ → Stage → List ℕ → Stage
take_piece long s piece =
    record {
      lines = s.lines + length (answered_lines s.lines (s.rest ++ piece));
      rest = kept_rest long s.lines (s.rest ++ piece);
    }

abbrev pub piece_output : (List ℕ → List ℕ) → Stage → List ℕ → List ℕ
piece_output said s piece = output_of said s.lines (s.rest ++ piece)

unfoldable pub take_pieces : ℕ → Stage → List (List ℕ) → Stage
take_pieces long s [] = s
take_pieces long s (piece ∷ more) = take_pieces long (take_piece long s piece) more

unfoldable pub pieces_output : ℕ → (List ℕ → List ℕ) → Stage → List (List ℕ) → List ℕ
pieces_output long said s [] = []
pieces_output long said s (piece ∷ more) = piece_output said s piece ++ pieces_output long said (take_piece long s piece) more

pub record SameAtOnce (long : ℕ) (said : List ℕ → List ℕ) (n : ℕ) (pieces : List (List ℕ)) : Type 0 where
  pub after : take_pieces long (stage_at n) pieces ≡ take_piece long (stage_at n) (concat pieces)
  pub written : pieces_output long said (stage_at n) pieces ≡ piece_output said (stage_at n) (concat pieces)

-- of lines that are too long all are told the same
abbrev pub LongAlike : ℕ → (List ℕ → List ℕ) → Type 0
LongAlike long said = (x y : List ℕ) → long < length x → long < length y → said x ≡ said y

-- for any question
abbrev pub InPieces : Type 0
InPieces = (long : ℕ) (said : List ℕ → List ℕ) → LongAlike long said → (n : ℕ) (pieces : List (List ℕ)) → SameAtOnce long said n pieces

-- and for the kept due date
abbrev pub SlideInPieces : Type 0
SlideInPieces = (n : ℕ) (pieces : List (List ℕ)) → SameAtOnce slide_line_length slide_said n pieces
