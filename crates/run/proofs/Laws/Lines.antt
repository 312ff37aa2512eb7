-- Laws of specs/Lines: the run over a text is that over its lines. To cite: `line_by_line` (specs/Promises). Assumes nothing.
use Rattle.std.proofs.Common.{Err, Ok, Result}
use mathlib.Core.Path.{◌≡◌, refl, sym, ap, ◌∙◌}
use mathlib.Core.Bool.{Bool, true, false}
use mathlib.Core.List.{List, [], ◌∷◌, ◌++◌}
use Prim.Native.Nat.{ℕ, ◌+◌, ◌-◌}
use native.Mathlib.Nat.{add-zero}
use native.Mathlib.Omega.{arith}
use borrow.Author.Tests.{lt-ltb}
use lib.Dec.{eqb, ltb}
use lib.ListN.{length, take, length-take}
use lib.Seq.{take-nil}
use Rattle.common.proofs.Tests.{either}
use Rattle.refusals.specs.declared.Refusal.{Refusal}
use Rattle.events.specs.declared.Event.{Event}
use Rattle.lines.specs.Line.{line_end, read_line}
use Rattle.tables.specs.Ledger.{Ledger}
use Rattle.model.proofs.Laws.Answers.{accepted_number}
use Rattle.model.proofs.Laws.Batch.{run_both}
use Rattle.model.specs.Step.{answer_number, answer, after, run, Entry, entry, history}
use Rattle.report.specs.Cut.{lines_from, last_from, answered_lines}
use Rattle.report.specs.Layout.{last_number, answer_line}
use Rattle.run.specs.Run.{Run, run_at, clipped_length, clipped, answer_to, after_line, ended, line_output, take_byte, byte_output, take_text, text_output}
use Rattle.run.specs.Lines.{event_in, events_of, answers_of, answers_output, entry_in, history_of}
use Rattle.run.specs.Promises.{LineByLine}
use Rattle.report.proofs.Laws.Lines.{answered_first, answered_none}
use Rattle.run.proofs.Laws.Run.{clipped_clipped, ended_clipped, line_output_clipped}

-- ---- the ledger after a line

line_book : (l : Ledger) (a : Result Event Refusal) → after_line l a ≡ run l (event_in a)
unfolding run
line_book l (Ok e) = refl
line_book l (Err r) = refl

lines_book : (l : Ledger) (line : List ℕ) (rest : List (List ℕ)) → run (after_line l (read_line line)) (events_of rest) ≡ run l (events_of (line ∷ rest))
unfolding events_of
lines_book l line rest =
    ap (λ (x : Ledger). run x (events_of rest)) (line_book l (read_line line))
    ∙ sym (run_both (event_in (read_line line)) (events_of rest) l)

-- ---- the history of the answers

output_history : (rest : List (List ℕ)) (l : Ledger) → history l (events_of rest) ≡ history_of rest (answers_of l rest)
unfolding history events_of answers_of history_of
output_history [] l = refl
output_history (line ∷ rest) l = by_line (read_line line) (λ m. output_history rest m)
  where
    by_line : (a : Result Event Refusal)
        → ((m : Ledger) → history m (events_of rest) ≡ history_of rest (answers_of m rest))
        → history l (event_in a ++ events_of rest) ≡ entry_in a (answer_number (answer_to l a)) ++ history_of rest (answers_of (after_line l a) rest)
    by_line (Ok e) on =
        ap (λ (b : Bool). entry e b ∷ history (after l e) (events_of rest)) (accepted_number (answer l e))
        ∙ ap (λ (h : List Entry). entry e (eqb (answer_number (answer l e)) 0) ∷ h) (on (after l e))
    by_line (Err r) on = on l

-- ---- a text by its lines, with the bytes of a partial one

-- how far the run is after lines of which a last piece is left
abbrev run_over : Ledger → ℕ → List (List ℕ) → List ℕ → Run
run_over l n ls last = run_at (run l (events_of ls)) (n + length ls) (clipped last)

pub record Over (l : Ledger) (n : ℕ) (partial text : List ℕ) (ls : List (List ℕ)) (last : List ℕ) : Type 0 where
  pub after_is : take_text (run_at l n (clipped partial)) text ≡ run_over l n ls last
  pub written_is : text_output (run_at l n (clipped partial)) text ≡ answers_output n (answers_of l ls)

over_none : (l : Ledger) (n : ℕ) (partial : List ℕ) → Over l n partial [] [] partial
unfolding take_text text_output answers_output answers_of run events_of
over_none l n partial = record { after_is = rw (add-zero n); written_is = refl }

-- one byte more in front of a text
module _ (l : Ledger) (n : ℕ) (partial : List ℕ) (b : ℕ) (bs : List ℕ) (ls : List (List ℕ)) (last : List ℕ) where
  abbrev line : List ℕ
  line = partial ++ (b ∷ [])

  over_byte : eqb b line_end ≡ false → Over l n line bs ls last → Over l n partial (b ∷ bs) ls last
  unfolding take_text text_output
  over_byte e o =
      let k : clipped (clipped partial ++ (b ∷ [])) ≡ clipped line = clipped_clipped partial (b ∷ []) in
      record { after_is = rw (e, k) o.after_is; written_is = rw (e, k) o.written_is }

  -- it ends a line
  module _ (e : eqb b line_end ≡ true) where
    byte_after : take_byte (run_at l n (clipped partial)) b ≡ ended (run_at l n []) line
    byte_after = rw e (ap (ended (run_at l n [])) (clipped_clipped partial (b ∷ [])) ∙ ended_clipped (run_at l n []) line)

    byte_output_lem : byte_output (run_at l n (clipped partial)) b ≡ line_output (run_at l n []) line
    byte_output_lem = rw e (ap (line_output (run_at l n [])) (clipped_clipped partial (b ∷ [])) ∙ line_output_clipped (run_at l n []) line)

    over_line : ltb n last_number ≡ true → Over (after_line l (read_line line)) (n + 1) [] bs ls last → Over l n partial (b ∷ bs) (line ∷ ls) last
    unfolding take_text text_output answers_output answers_of
    over_line f o =
        let m : n + 1 + length ls ≡ n + length (line ∷ ls) = omega arith in
        let t : take_text (ended (run_at l n []) line) bs ≡ run_over (after_line l (read_line line)) (n + 1) ls last = rw f o.after_is in
        record {
          after_is = ap (λ (r : Run). take_text r bs) byte_after ∙ t ∙ rw (m, lines_book l line ls);
          written_is = rw (byte_output_lem, byte_after, f) (ap (λ (x : List ℕ). answer_line (n + 1) (answer_number (answer_to l (read_line line))) ++ x) o.written_is);
        }

    over_past : ltb n last_number ≡ false → Over l n [] bs ls last → Over l n partial (b ∷ bs) ls last
    unfolding take_text text_output
    over_past f o = record { after_is = rw (byte_after, f) o.after_is; written_is = rw (byte_output_lem, byte_after, f) o.written_is }

text_over : (bs partial : List ℕ) (l : Ledger) (n : ℕ) → Over l n partial bs (take (last_number - n) (lines_from partial bs)) (last_from partial bs)
unfolding lines_from last_from
text_over [] partial l n = rw (take-nil {A = List ℕ} (last_number - n)) (over_none l n partial)
text_over (b ∷ bs) partial l n =
    let x = partial ++ (b ∷ []) in
    either (eqb b line_end)
    (λ e.
    either (ltb n last_number)
    (λ f.
    rw (e, answered_first n x (lines_from [] bs) f)
    (over_line l n partial b bs _ _ e f (text_over bs [] (after_line l (read_line x)) (n + 1))))
    (λ f.
    rw (e, answered_none n (x ∷ lines_from [] bs) f)
    (over_past l n partial b bs _ _ e f (rw (answered_none n (lines_from [] bs) f) at (text_over bs [] l n)))))
    (λ e. rw e (over_byte l n partial b bs _ _ e (text_over bs x l n)))

-- ---- the whole

-- a piece is empty or not, whatever is kept of it
kept_some : (x : List ℕ) → ltb 0 (length (clipped x)) ≡ ltb 0 (length x)
kept_some [] = refl
kept_some (b ∷ x) =
    lt-ltb 0 (length (clipped (b ∷ x))) (omega (arith, length-take clipped_length (b ∷ x)))
    ∙ sym (lt-ltb 0 (length (b ∷ x)) (omega arith))

pub line_by_line : LineByLine
unfolding answered_lines
line_by_line l n text =
    let o = text_over text [] l n in
    let e = o.after_is in
    record {
      written = o.written_is;
      count = rw e;
      after = rw e;
      accepted = output_history (answered_lines n text) l;
      end_after = rw (e, kept_some (last_from [] text));
      end_output_lem = rw (e, kept_some (last_from [] text));
    }
