-- A text of events: the call for a piece of the program's input, against the run of crates/run/specs/Run.
-- Assumes nothing.
use Rattle.std.specs.Prelude.{◌≡◌, Bool, true, cond, ◌&&◌, List, [], ℕ, ◌+◌, ◌/◌, ◌≤◌, leb, length, take, drop, Result, Ok, Err}
use Rattle.refusals.specs.declared.Refusal.{Refusal}
use Rattle.refusals.specs.declared.Refusal.TheVariants.{UnfitMemory}
use Rattle.digits.specs.Field.{pasted}
use Rattle.lines.specs.Line.{read_line}
use Rattle.tables.specs.Ledger.{Ledger}
use Rattle.model.specs.Step.{answer_number}
use Rattle.index.specs.declared.Index.{Index}
use Rattle.index.specs.Index.{Indexed}
use Rattle.model.specs.Bounds.{Safe}
use Rattle.report.specs.Layout.{answer_length}
use Rattle.run.specs.Run.{Run, fit_number, run_at, clipped, answer_to, after_line, ended, line_output, take_text, text_output}
use Rattle.report.specs.declared.layout.Progress.{Progress}
use Rattle.text.specs.declared.text.Lines.{Lines}
use Rattle.text.specs.declared.text.Piece.{Piece}

-- ---- a line

-- what was tested and made once: whether the memory is safe, and each table's index
pub record Known (safe : Bool) (mandate_index collection_index : Index) (l : Ledger) : Type 0 where
  pub when_safe : safe ≡ true → Safe l
  pub mandates : Indexed mandate_index l.mandates l.mandates_used
  pub collections : Indexed collection_index l.collections l.collections_used

-- the line given to the ledger l: the answer, and the ledger l' after it
pub record LineTaken (l : Ledger) (line : List ℕ) (r : Result Unit Refusal) (l' : Ledger) : Type 0 where
  pub answer_is : r ≡ answer_to l (read_line line)
  pub after_is : l' ≡ after_line l (read_line line)

-- the line answered behind what was written before
pub record LineAnswered (l : Ledger) (p : Progress) (line out : List ℕ) (r : Progress) (l' : Ledger) (out' : List ℕ) : Type 0 where
  pub run : run_at l' r.lines [] ≡ ended (run_at l p.lines []) line
  pub bytes : out' ≡ pasted p.written (line_output (run_at l p.lines []) line) out
  pub written : r.written ≡ p.written + length (line_output (run_at l p.lines []) line)

-- ---- the lines of a text

-- the lines that have ended are answered, and the rest begins at a place
pub record LinesAnswered (s : Run) (text out : List ℕ) (r : Lines) (l' : Ledger) (out' : List ℕ) : Type 0 where
  pub run : take_text s text ≡ run_at l' r.progress.lines (clipped (drop r.at text))
  pub bytes : out' ≡ pasted 0 (text_output s text) out
  pub written : r.progress.written ≡ length (text_output s text)
  pub inside : r.at ≤ length text

-- ---- the call

-- what a run that came to s leaves, and has written in n bytes
abbrev pub piece_of : Run → ℕ → Piece
piece_of s n = record { lines = s.lines; partial = length s.partial; written = n }

-- where lent text and buffer fit, the run comes to s and writes the bytes t to the buffer; else nothing changes
pub record Advanced (fits : Bool) (l : Ledger) (out : List ℕ) (s : Run) (t : List ℕ) (r : Result Piece Refusal) (l' : Ledger) (out' : List ℕ) : Type 0 where
  pub answer_is : r ≡ cond fits (Ok (piece_of s (length t))) (Err UnfitMemory)
  pub number_is : answer_number r ≡ fit_number fits
  pub book_is : l' ≡ cond fits s.book l
  pub out_is : out' ≡ cond fits (pasted 0 t out) out

-- a piece of input: the bytes of the partial line and those that were read, filled in all; each may end a line
abbrev pub piece_fits : ℕ → List ℕ → List ℕ → Bool
piece_fits filled text out = leb filled (length text) && leb filled (length out / answer_length)

abbrev pub piece_run : Ledger → ℕ → ℕ → List ℕ → Run
piece_run l lines filled text = take_text (run_at l lines []) (take filled text)

abbrev pub piece_output : Ledger → ℕ → ℕ → List ℕ → List ℕ
piece_output l lines filled text = text_output (run_at l lines []) (take filled text)

-- the partial line is put to the front of the text
abbrev pub text_after : Bool → Run → List ℕ → List ℕ
text_after fits s text = cond fits (pasted 0 s.partial text) text

pub record PieceTaken (l : Ledger) (lines filled : ℕ) (text out : List ℕ) (r : Result Piece Refusal) (l' : Ledger) (text' out' : List ℕ) : Type 0 where
  pub advanced : Advanced (piece_fits filled text out) l out (piece_run l lines filled text) (piece_output l lines filled text) r l' out'
  pub text_is : text' ≡ text_after (piece_fits filled text out) (piece_run l lines filled text) text
