-- Laws of specs/Texts: a piece of input over lent cells, from that of crates/text. To cite: `text_done`. Assumes nothing.
use Rattle.std.proofs.Common.{Ok}
use mathlib.Core.Path.{◌≡◌, refl, ap, ◌∙◌}
use mathlib.Core.Bool.{Bool, true, false}
use mathlib.Core.List.{List}
use Prim.Native.Nat.{ℕ}
use lib.IntN.{ℤ}
use lib.ListN.{length, take}
use Rattle.tables.specs.declared.Header.{Header}
use Rattle.tables.specs.Ledger.{Ledger}
use Rattle.run.specs.Run.{Run}
use Rattle.listing.specs.Past.{lines_past}
use Rattle.text.specs.declared.text.Piece.{Piece}
use Rattle.text.specs.Text.{piece_of, piece_fits, piece_run, piece_output, text_after, Advanced, PieceTaken}
use Rattle.cells.specs.declared.Counts.{Counts}
use Rattle.cells.specs.Cells.{cells_fit, header_in, lines_in, filled_in, header_state, header_cents, counts_state, state_cells, head_of}
use Rattle.cells.proofs.Laws.Cells.{state_cells_fit_lem, state_whole, header_of_whole}
use Rattle.foreign.specs.Texts.{Ran, TextCall}
use Rattle.foreign.proofs.Laws.Books.{under}

-- a piece was answered, and its header and counts were written: l' is the ledger of that header and the tables after the call, and m that
-- of the cells and these tables
module _ (state : List ℕ) (cents : List ℤ) (f : cells_fit state cents ≡ true) (l : Ledger) (text out : List ℕ)
    (p : Piece) (l' : Ledger) (text' out' : List ℕ) (past : ℕ) (state' : List ℕ) (cents' : List ℤ) (m : Ledger) where
  abbrev counts : Counts
  counts = record { lines = p.lines; partial = p.partial; written = p.written; past = past }

  module _ (s : state' ≡ counts_state counts (header_state (head_of l') state)) (z : cents' ≡ header_cents (head_of l') cents) (q : m ≡ under (header_in state' cents') l') where
    ran :
        (fits : Bool) (r : Run) (t : List ℕ) → Advanced fits l out r t (Ok p) l' out' → text' ≡ text_after fits r text
        → Ran fits r t past state cents l text out 0 state' cents' m text' out'
    ran true r t done e =
        let p-is : p ≡ piece_of r (length t) = cc (done.answer_is) in
        let w = s ∙ state_whole state (state_cells_fit_lem state cents f) (head_of l') counts in
        record {
          answer_is = refl;
          state_is = w ∙ rw (p-is, done.book_is);
          cents_is = z ∙ ap (λ (x : Ledger). header_cents (head_of x) cents) done.book_is;
          book_is =
              q
              ∙ ap (λ (x : List ℕ). under (header_in x cents') l') w
              ∙ ap (λ (x : List ℤ). under (header_in (state_cells (head_of l') counts) x) l') z
              ∙ ap (λ (h : Header). under h l') (header_of_whole state cents f (head_of l') counts)
              ∙ done.book_is;
          text_is = e;
          out_is = done.out_is;
        }
    ran false r t done e = absurd (cc (done.answer_is))

    pub text_done :
        PieceTaken l (lines_in state) (filled_in state) text out (Ok p) l' text' out'
        → past ≡ lines_past (lines_in state) (take (filled_in state) text)
        → TextCall state cents l text out 0 state' cents' m text' out'
    text_done taken n =
        let fits = piece_fits (filled_in state) text out in
        let after = piece_run l (lines_in state) (filled_in state) text in
        let output = piece_output l (lines_in state) (filled_in state) text in
        rw (f, ← n) (ran fits after output taken.advanced taken.text_is)
