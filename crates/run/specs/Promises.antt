-- What is promised of a run, as statements. proofs/Laws/Lines, Laws/Run and Laws/Program have the proofs. Assumes nothing.
use Rattle.std.specs.Prelude.{◌≡◌, true, cond, ◌&&◌, List, [], ◌∷◌, ◌++◌, ℕ, ◌+◌, ltb, length}
use Rattle.tables.specs.Ledger.{Ledger}
use Rattle.fitness.specs.Fitness.{sizes_fit}
use Rattle.opening.specs.Opening.{opened}
use Rattle.model.specs.Step.{run, history}
use Rattle.model.specs.Journal.{journal}
use Rattle.model.specs.Promises.{Kept}
use Rattle.report.specs.Cut.{last_piece, answered_lines}
use Rattle.report.specs.Layout.{last_number, answer_line}
use Rattle.run.specs.Run.{Run, run_at, take_text, text_output, end_lines, end_text, end_output, positions_output, journal_output}
use Rattle.run.specs.Lines.{events_of, answers_of, answers_output, history_of}

-- ---- a text, from any ledger on: for each line, in order, its number and its answer is written; the ledger is the one after the
-- events, and the history has as accepted those to which 0 is written

pub record LinesWritten (l : Ledger) (n : ℕ) (text : List ℕ) (lines : List (List ℕ)) (r : Run) : Type 0 where
  pub written : text_output (run_at l n []) text ≡ answers_output n (answers_of l lines)
  pub count : r.lines ≡ n + length lines
  pub after : r.book ≡ run l (events_of lines)
  pub accepted : history l (events_of lines) ≡ history_of lines (answers_of l lines)
  -- a last piece that is not empty is a line refused 1, and the ledger stays as it is
  pub end_after : end_text r ≡ run_at r.book (end_lines r.lines (length (last_piece text))) []
  pub end_output_lem :
      end_output r
      ≡ cond (ltb r.lines last_number && ltb 0 (length (last_piece text))) (answer_line (r.lines + 1) 1) []

abbrev pub LineByLine : Type 0
LineByLine = (l : Ledger) (n : ℕ) (text : List ℕ) → LinesWritten l n text (answered_lines n text) (take_text (run_at l n []) text)

-- ---- pieces: an input in any number of pieces, before each of which the bytes of a line that has not ended are put, is answered
-- as if it came at once: no line is lost and none is answered twice

abbrev pub take_piece : Run → List ℕ → Run
take_piece r piece = take_text (run_at r.book r.lines []) (r.partial ++ piece)

abbrev pub next_output : Run → List ℕ → List ℕ
next_output r piece = text_output (run_at r.book r.lines []) (r.partial ++ piece)

unfoldable pub take_pieces : Run → List (List ℕ) → Run
take_pieces r [] = r
take_pieces r (piece ∷ rest) = take_pieces (take_piece r piece) rest

unfoldable pub pieces_output : Run → List (List ℕ) → List ℕ
pieces_output r [] = []
pieces_output r (piece ∷ rest) = next_output r piece ++ pieces_output (take_piece r piece) rest

unfoldable pub at_once : List (List ℕ) → List ℕ
at_once [] = []
at_once (piece ∷ rest) = piece ++ at_once rest

pub record SameAtOnce (s : Run) (pieces : List (List ℕ)) : Type 0 where
  pub after : take_pieces s pieces ≡ take_text s (at_once pieces)
  pub written : pieces_output s pieces ≡ text_output s (at_once pieces)
  -- and so at the end of the input
  pub end_after : end_text (take_pieces s pieces) ≡ end_text (take_text s (at_once pieces))
  pub end_output_lem : end_output (take_pieces s pieces) ≡ end_output (take_text s (at_once pieces))

abbrev pub InPieces : Type 0
InPieces = (l : Ledger) (n : ℕ) (pieces : List (List ℕ)) → SameAtOnce (run_at l n []) pieces

-- ---- the whole program: from an accepted opening on, for any text, all that is promised of a list of events holds of the
-- text's, and the listing at the end shows the journal's figures, of the history that the written answers tell

pub record TextKept (l : Ledger) (lines : List (List ℕ)) (r : Run) : Type 0 where
  pub all_kept : Kept l (events_of lines)
  pub listing : positions_output (end_text r).book ≡ journal_output (journal (history_of lines (answers_of l lines)))

abbrev pub ProgramKept : Type 0
ProgramKept =
    (t : Ledger) → sizes_fit t ≡ true  -- any lent tables that an accepted opening was called on
    → (text : List ℕ)  -- any input
    → TextKept (opened t) (answered_lines 0 text) (take_text (run_at (opened t) 0 []) text)
