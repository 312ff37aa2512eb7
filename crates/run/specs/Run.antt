-- The run of the program `ledger`: the bytes of its input one after the other, and what it writes. Document 01, "The text line".
-- What the lines of a text and the pieces that an input comes in have to do with it: specs/Promises. Assumes nothing.
use Rattle.std.specs.Prelude.{Bool, cond, ◌&&◌, List, [], ◌∷◌, ◌++◌, ℕ, zero, suc, ◌+◌, eqb, ltb, ℤ, pos, negsuc, take, length, Result, Ok, Err}
use Rattle.refusals.specs.declared.Refusal.{Refusal}
use Rattle.refusals.specs.Refusals.{number_of}
use Rattle.refusals.specs.declared.Refusal.TheVariants.{BadLine, UnfitMemory}
use Rattle.lines.specs.Line.{line_end, line_length, read_line}
use Rattle.tables.specs.Limits.{creditor_count, debtor_count, bank_count}
use Rattle.tables.specs.Ledger.{Ledger}
use Rattle.model.specs.Step.{answer_number, answer, after, figure_of}
use Rattle.model.specs.Journal.{Journal, figure_in}
use Rattle.report.specs.Layout.{last_number, answer_line, position_line}
use Rattle.events.specs.declared.Event.{Event}

-- ---- a line: what the reader refuses, or what the ledger answers to the event

abbrev pub answer_to : Ledger → Result Event Refusal → Result Unit Refusal
answer_to l (Ok e) = answer l e
answer_to l (Err r) = Err r

abbrev pub after_line : Ledger → Result Event Refusal → Ledger
after_line l (Ok e) = after l e
after_line l (Err r) = l

-- ---- a call: accepted where lent memory fits, else refused with 2

abbrev pub fit_answer : Bool → Result Unit Refusal
fit_answer fits = cond fits (Ok tt) (Err UnfitMemory)

abbrev pub fit_number : Bool → ℕ
fit_number fits = cond fits 0 (number_of UnfitMemory)

-- ---- how far a run is

pub record Run : Type 0 where
  pub book : Ledger
  -- the lines answered
  pub lines : ℕ
  -- the bytes of a line that has not ended
  pub partial : List ℕ

abbrev pub run_at : Ledger → ℕ → List ℕ → Run
run_at l n line = record { book = l; lines = n; partial = line }

-- a line longer than a sound one is bad whatever it goes on with, so it is clipped to one byte more
abbrev pub clipped_length : ℕ
clipped_length = line_length + 1

abbrev pub clipped : List ℕ → List ℕ
clipped line = take clipped_length line

-- a line has ended; no more than 999,999 are answered
abbrev pub ended : Run → List ℕ → Run
ended r line =
    cond (ltb r.lines last_number)
    (run_at (after_line r.book (read_line line)) (r.lines + 1) [])
    (run_at r.book r.lines [])

abbrev pub line_output : Run → List ℕ → List ℕ
line_output r line =
    cond (ltb r.lines last_number)
    (answer_line (r.lines + 1) (answer_number (answer_to r.book (read_line line))))
    []

-- ---- the input, byte by byte: how far the run is then, and what was written on the way

abbrev pub take_byte : Run → ℕ → Run
take_byte r b =
    cond (eqb b line_end)
    (ended r (clipped (r.partial ++ (b ∷ []))))
    (run_at r.book r.lines (clipped (r.partial ++ (b ∷ []))))

abbrev pub byte_output : Run → ℕ → List ℕ
byte_output r b = cond (eqb b line_end) (line_output r (clipped (r.partial ++ (b ∷ [])))) []

unfoldable pub take_text : Run → List ℕ → Run
take_text r [] = r
take_text r (b ∷ bs) = take_text (take_byte r b) bs

unfoldable pub text_output : Run → List ℕ → List ℕ
text_output r [] = []
text_output r (b ∷ bs) = byte_output r b ++ text_output (take_byte r b) bs

-- ---- the end of the input: bytes of a line that has not ended are a line refused 1, one of the 999,999

abbrev pub ends_line : ℕ → ℕ → Bool
ends_line lines partial = ltb lines last_number && ltb 0 partial

-- the lines answered then, and what is written, by the lines answered before and the number of the partial line's bytes
abbrev pub end_lines : ℕ → ℕ → ℕ
end_lines lines partial = cond (ends_line lines partial) (lines + 1) lines

abbrev pub end_bytes : ℕ → ℕ → List ℕ
end_bytes lines partial = cond (ends_line lines partial) (answer_line (lines + 1) (number_of BadLine)) []

abbrev pub end_text : Run → Run
end_text r = run_at r.book (end_lines r.lines (length r.partial)) []

abbrev pub end_output : Run → List ℕ
end_output r = end_bytes r.lines (length r.partial)

-- ---- the positions

-- a position of 0 is not written
abbrev pub position_output : ℕ → ℕ → ℤ → List ℕ
position_output kind number (pos zero) = []
position_output kind number (pos (suc n)) = position_line kind number (pos (suc n))
position_output kind number (negsuc n) = position_line kind number (negsuc n)

-- those of a kind, from number 1 to n, by the figure of each number
unfoldable pub figures_output : ℕ → (ℕ → ℤ) → ℕ → List ℕ
figures_output kind figure zero = []
figures_output kind figure (suc n) = figures_output kind figure n ++ position_output kind (suc n) (figure (suc n))

abbrev pub kind_output : Ledger → ℕ → ℕ → List ℕ
kind_output l kind n = figures_output kind (figure_of l kind) n

-- creditors, debtors, banks, and total compensation, be it 0
unfoldable pub positions_output : Ledger → List ℕ
positions_output l =
    kind_output l 1 creditor_count
    ++ kind_output l 2 debtor_count
    ++ kind_output l 3 bank_count
    ++ position_line 4 0 l.compensation

-- the same of a journal's figures
unfoldable pub journal_output : Journal → List ℕ
journal_output j =
    figures_output 1 (figure_in j 1) creditor_count
    ++ figures_output 2 (figure_in j 2) debtor_count
    ++ figures_output 3 (figure_in j 3) bank_count
    ++ position_line 4 0 (figure_in j 4 0)
