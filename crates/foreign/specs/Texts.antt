-- The calls for a text of events, for its end and for the listing over lent cells, against the run of crates/run/specs/Run. Of each, l is
-- the ledger that the cells and the tables hold before it, and l' the one after. Assumes nothing.
use Rattle.std.specs.Prelude.{◌≡◌, Bool, cond, ◌&&◌, List, ℕ, ℤ, length, take}
use Rattle.refusals.specs.declared.Refusal.TheVariants.{UnfitMemory}
use Rattle.refusals.specs.Refusals.{number_of}
use Rattle.digits.specs.Field.{pasted}
use Rattle.tables.specs.Ledger.{Ledger}
use Rattle.run.specs.Run.{Run, end_lines, end_bytes, positions_output}
use Rattle.listing.specs.Listing.{end_fits, listed}
use Rattle.listing.specs.Past.{lines_past, goes_past}
use Rattle.text.specs.Text.{piece_fits, piece_run, piece_output, text_after}
use Rattle.cells.specs.declared.Counts.{Counts}
use Rattle.cells.specs.Cells.{state_cells_fit, cells_fit, lines_in, filled_in, header_cents, counts_state, written_state, state_cells, head_of}

-- ---- a text

-- the counts of a run that has written the bytes t, with so many lines that were not taken
abbrev pub run_counts : Run → List ℕ → ℕ → Counts
run_counts s t past = record { lines = s.lines; partial = length s.partial; written = length t; past = past }

-- where all that is lent fits, the run comes to s and writes the bytes t; else it is refused and nothing changes
pub record Ran (fits : Bool) (s : Run) (t : List ℕ) (past : ℕ)
    (state : List ℕ) (cents : List ℤ) (l : Ledger) (text out : List ℕ)
    (r : ℕ) (state' : List ℕ) (cents' : List ℤ) (l' : Ledger) (text' out' : List ℕ) : Type 0 where
  pub answer_is : r ≡ cond fits 0 (number_of UnfitMemory)
  pub state_is : state' ≡ cond fits (state_cells (head_of s.book) (run_counts s t past)) state
  pub cents_is : cents' ≡ cond fits (header_cents (head_of s.book) cents) cents
  pub book_is : l' ≡ cond fits s.book l
  pub text_is : text' ≡ text_after fits s text
  pub out_is : out' ≡ cond fits (pasted 0 t out) out

-- the piece of input that the state tells of, given to the ledger l
abbrev pub TextCall : List ℕ → List ℤ → Ledger → List ℕ → List ℕ → ℕ → List ℕ → List ℤ → Ledger → List ℕ → List ℕ → Type 0
TextCall state cents l text out =
    Ran
    (cells_fit state cents && piece_fits (filled_in state) text out)
    (piece_run l (lines_in state) (filled_in state) text)
    (piece_output l (lines_in state) (filled_in state) text)
    (lines_past (lines_in state) (take (filled_in state) text))
    state
    cents
    l
    text
    out

-- ---- the end of a text

-- a partial line past the last that is answered
abbrev pub end_past : ℕ → ℕ → ℕ
end_past lines partial = cond (goes_past 0 lines partial) 1 0

abbrev pub end_counts : ℕ → ℕ → Counts
end_counts lines partial = record {
  lines = end_lines lines partial;
  partial = 0;
  written = length (end_bytes lines partial);
  past = end_past lines partial;
}

pub record EndDone (fits : Bool) (state out : List ℕ) (r : ℕ) (state' out' : List ℕ) : Type 0 where
  pub answer_is : r ≡ cond fits 0 (number_of UnfitMemory)
  pub state_is : state' ≡ cond fits (counts_state (end_counts (lines_in state) (filled_in state)) state) state
  pub out_is : out' ≡ cond fits (pasted 0 (end_bytes (lines_in state) (filled_in state)) out) out

abbrev pub EndCall : List ℕ → List ℕ → ℕ → List ℕ → List ℕ → Type 0
EndCall state out = EndDone (state_cells_fit state && end_fits out) state out

-- ---- the listing of the ledger l

pub record ListingDone (fits : Bool) (state : List ℕ) (l : Ledger) (out : List ℕ) (r : ℕ) (state' out' : List ℕ) : Type 0 where
  pub answer_is : r ≡ cond fits 0 (number_of UnfitMemory)
  pub state_is : state' ≡ cond fits (written_state (length (positions_output l)) state) state
  pub out_is : out' ≡ cond fits (pasted 0 (positions_output l) out) out

abbrev pub ListCall : List ℕ → List ℤ → Ledger → List ℕ → ℕ → List ℕ → List ℕ → Type 0
ListCall state cents l out = ListingDone (cells_fit state cents && listed l out) state l out
