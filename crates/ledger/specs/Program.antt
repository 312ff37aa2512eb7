-- The whole run of the program. Document 01, "The text line": it lends 128 mandate and 256 collection rows, and at the end lists the
-- positions. Assumes nothing.
use Rattle.std.specs.Prelude.{◌≡◌, true, List, [], ◌++◌, ℕ, ◌+◌, ◌≤◌, length, take}
use Rattle.digits.specs.Field.{pasted}
use Rattle.tables.specs.Rows.{rows}
use Rattle.tables.specs.Ledger.{Ledger}
use Rattle.fitness.specs.Fitness.{sizes_fit, fit}
use Rattle.opening.specs.Opening.{opened}
use Rattle.model.specs.Journal.{Journal, journal}
use Rattle.report.specs.Cut.{answered_lines}
use Rattle.report.specs.Layout.{answer_length}
use Rattle.listing.specs.Listing.{listing_room}
use Rattle.run.specs.Run.{run_at, take_text, end_bytes, end_output, positions_output, journal_output}
use Rattle.run.specs.Lines.{answers_of, history_of}
use Rattle.ledger.specs.Input.{InputMade}

-- ---- the start

abbrev pub mandate_rows : ℕ
mandate_rows = 128

abbrev pub collection_rows : ℕ
collection_rows = 256

-- an accepted opening on lent tables with these rows
pub record Begins (l : Ledger) : Type 0 where
  pub tables : Ledger
  pub accepted : sizes_fit tables ≡ true
  pub is_opened : l ≡ opened tables
  pub mandates : rows tables.mandates ≡ mandate_rows
  pub collections : rows tables.collections ≡ collection_rows

-- ---- the end

-- the memory is fit, and the buffer has room for an answer and the longest listing
pub record LastRoom (l : Ledger) (out : List ℕ) : Type 0 where
  pub fits : fit l ≡ true
  pub room : answer_length + listing_room ≤ length out

-- what is written where the input ends: the answer to a partial line, and the positions
abbrev pub last_output : Ledger → ℕ → ℕ → List ℕ
last_output l lines partial = end_bytes lines partial ++ positions_output l

pub record Finished (l : Ledger) (lines partial : ℕ) (out : List ℕ) (bytes : ℕ) (out' : List ℕ) : Type 0 where
  pub bytes_are : bytes ≡ length (last_output l lines partial)
  pub out_is : out' ≡ pasted 0 (last_output l lines partial) out

-- the journal of a text, by its lines and the answers to them
abbrev pub journal_of : Ledger → List (List ℕ) → Journal
journal_of l lines = journal (history_of lines (answers_of l lines))

-- there is an input, and the first bytes of the buffer answer what stands behind its last line and show its journal's figures
pub record Shown (l : Ledger) (bytes : ℕ) (out : List ℕ) : Type 0 where
  pub input : List ℕ
  pub last : take bytes out ≡ end_output (take_text (run_at l 0 []) input) ++ journal_output (journal_of l (answered_lines 0 input))

-- ---- the whole run from l to l', whose text is left: the input that made them is the one that the last bytes show

pub record RunShown (l l' : Ledger) (text : List ℕ) (bytes : ℕ) (out : List ℕ) : Type 0 where
  pub made : InputMade (run_at l 0 []) l' text
  pub shown : Shown l bytes out
  pub same : shown.input ≡ made.taken.input
