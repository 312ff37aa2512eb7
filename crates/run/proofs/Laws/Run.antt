-- Laws of specs/Run. To cite: `one_line`; `piece_by_piece` for two pieces and `in_pieces` (specs/Promises) for any number; for a run over
-- the lines of a text `Answering` with `answering_start`, `answering_line`, `rest_after`. Assumes nothing.
use mathlib.Core.Path.{◌≡◌, refl, sym, ap, ◌∙◌}
use mathlib.Core.Logic.{⊎_elim, ◌≢◌}
use mathlib.Core.List.{List, [], ◌∷◌, ◌++◌, append_assoc, append-nil}
use Prim.Native.Nat.{ℕ, ◌+◌, ◌-◌, ◌≤◌, ◌<◌}
use native.Mathlib.Nat.{eq-or-lt_of_le}
use native.Mathlib.Omega.{arith}
use borrow.Author.Tests.{ne_eqb, eqb-false, leb-true, leb-false}
use lib.Dec.{eqb, leb, ltb}
use lib.ListN.{length, take, drop, get_or, length-append, length-take, take-append-drop, get_or-append}
use lib.Seq.{take_all, take-append-le, take-take, length-take-le, get_or-take, get_or-append_seam}
use Rattle.std.proofs.lemmas.Bool.{cond_both}
use Rattle.common.proofs.Tests.{either}
use Rattle.lines.specs.Line.{line_end, read_line}
use Rattle.lines.proofs.Laws.Line.{read_line_length}
use Rattle.tables.specs.Ledger.{Ledger}
use Rattle.report.specs.Layout.{last_number}
use Rattle.run.specs.Run.{Run, run_at, clipped_length, clipped, ended, line_output, take_byte, byte_output, take_text, text_output, end_text, end_output}
use Rattle.run.specs.Promises.{take_piece, next_output, take_pieces, pieces_output, at_once, InPieces}
use Rattle.report.proofs.Laws.Cut.{Endless, FirstEnd}
use Rattle.report.proofs.Laws.Lines.{endless_rest, segment, segment_endless, segment_end, split_line, rest_endless}

-- ---- one text behind the other

pub run_append : (p q : List ℕ) (r : Run) → take_text r (p ++ q) ≡ take_text (take_text r p) q
unfolding take_text
run_append [] q r = refl
run_append (b ∷ p) q r = run_append p q (take_byte r b)

pub output_append : (p q : List ℕ) (r : Run) → text_output r (p ++ q) ≡ text_output r p ++ text_output (take_text r p) q
unfolding take_text text_output
output_append [] q r = refl
output_append (b ∷ p) q r =
    ap (λ (t : List ℕ). byte_output r b ++ t) (output_append p q (take_byte r b))
    ∙ sym (append_assoc (byte_output r b) (text_output (take_byte r b) p) (text_output (take_text (take_byte r b) p) q))

-- ---- what is kept of a line

-- a front that was kept before
pub clipped_clipped : (x y : List ℕ) → clipped (clipped x ++ y) ≡ clipped (x ++ y)
clipped_clipped x y =
    either (leb (length x) clipped_length)
    (λ s.
    ap (λ (z : List ℕ). clipped (z ++ y)) (take_all clipped_length x (leb-true (length x) clipped_length s)))
    (λ s.
    let h = leb-false (length x) clipped_length s in
    take-append-le clipped_length (clipped x) y (omega (arith, length-take-le clipped_length x (omega arith)))
    ∙ take-take clipped_length clipped_length x (omega arith)
    ∙ sym (take-append-le clipped_length x y (omega arith)))

-- it is read as the whole line is
read_line_kept : (x : List ℕ) → read_line (clipped x) ≡ read_line x
read_line_kept x =
    either (leb (length x) clipped_length)
    (λ s.
    ap read_line (take_all clipped_length x (leb-true (length x) clipped_length s)))
    (λ s.
    let h = leb-false (length x) clipped_length s in
    let n = length-take-le clipped_length x (omega arith) in
    read_line_length (clipped x) (λ e. omega arith)
    ∙ sym (read_line_length x (λ e. omega arith)))

-- ---- bytes that end no line

pub run_partial : (h : List ℕ) (r : Run) → Endless h → length r.partial ≤ clipped_length → take_text r h ≡ run_at r.book r.lines (clipped (r.partial ++ h))
unfolding take_text
run_partial [] r e s =
    ap (λ (x : List ℕ). run_at r.book r.lines x)
    (sym (take_all clipped_length r.partial s) ∙ ap clipped (sym (append-nil r.partial)))
run_partial (b ∷ h) r e s =
    let x = r.partial ++ (b ∷ []) in
    let t : take_byte r b ≡ run_at r.book r.lines (clipped x) = rw (ne_eqb b line_end (e 0 (omega arith))) in
    let n : length (clipped x) ≤ clipped_length = omega (arith, length-take clipped_length x) in
    ap (λ (y : Run). take_text y h) t
    ∙ run_partial h (run_at r.book r.lines (clipped x)) (endless_rest b h e) n
    ∙ ap (λ (y : List ℕ). run_at r.book r.lines y) (clipped_clipped x h ∙ ap clipped (append_assoc r.partial (b ∷ []) h))

pub output_partial : (h : List ℕ) (r : Run) → Endless h → text_output r h ≡ []
unfolding text_output
output_partial [] r e = refl
output_partial (b ∷ h) r e =
    let t : byte_output r b ≡ [] = rw (ne_eqb b line_end (e 0 (omega arith))) in
    rw t (output_partial h (take_byte r b) (endless_rest b h e))

-- ---- a line

-- what an ended line says goes by how it is read
pub ended_clipped : (r : Run) (x : List ℕ) → ended r (clipped x) ≡ ended r x
ended_clipped r x = rw (read_line_kept x)

pub line_output_clipped : (r : Run) (x : List ℕ) → line_output r (clipped x) ≡ line_output r x
line_output_clipped r x = rw (read_line_kept x)

-- a text that ends where its only line ends is answered as the reader and the ledger answer that line, whole
pub record Answered (l : Ledger) (n : ℕ) (line : List ℕ) : Type 0 where
  pub after : take_text (run_at l n []) (line ++ (line_end ∷ [])) ≡ ended (run_at l n []) (line ++ (line_end ∷ []))
  pub written : text_output (run_at l n []) (line ++ (line_end ∷ [])) ≡ line_output (run_at l n []) (line ++ (line_end ∷ []))

pub one_line : (l : Ledger) (n : ℕ) (line : List ℕ) → Endless line → Answered l n line
unfolding take_text text_output
one_line l n line e =
    let r = run_at l n [] in
    let s = run_at l n (clipped line) in
    let b = line_end ∷ [] in
    let t : take_text r line ≡ s = run_partial line r e (omega arith) in
    record {
      after =
          run_append line b r
          ∙ ap (λ (x : Run). take_text x b) t
          ∙ ap (λ (x : List ℕ). ended r x) (clipped_clipped line b)
          ∙ ended_clipped r (line ++ b);
      written =
          output_append line b r
          ∙ ap (λ (x : List ℕ). x ++ text_output (take_text r line) b) (output_partial line r e)
          ∙ ap (λ (x : Run). text_output x b) t
          ∙ append-nil (line_output s (clipped (clipped line ++ b)))
          ∙ ap (λ (x : List ℕ). line_output r x) (clipped_clipped line b)
          ∙ line_output_clipped r (line ++ b);
    }

-- ---- pieces

-- a partial line: no byte of it ends a line, and no more is left of it than shows that it is bad
pub record Partial (r : Run) : Type 0 where
  pub endless : Endless r.partial
  pub short : length r.partial ≤ clipped_length

pub partial_none : (l : Ledger) (n : ℕ) → Partial (run_at l n [])
partial_none l n = record { endless = λ j h. absurd (omega arith); short = omega arith }

-- one byte more
endless_more : (x : List ℕ) (b : ℕ) → Endless x → b ≢ line_end → Endless (clipped (x ++ (b ∷ [])))
endless_more x b e n j h q =
    let m = length-append x (b ∷ []) in
    let k = length-take clipped_length (x ++ (b ∷ [])) in
    let g : get_or (x ++ (b ∷ [])) j 0 ≡ line_end = sym (get_or-take clipped_length (x ++ (b ∷ [])) j 0 (omega arith)) ∙ q in
    ⊎_elim
    (λ (i : j ≡ length x). n (sym (get_or-append_seam x b [] 0) ∙ ap (λ (z : ℕ). get_or (x ++ (b ∷ [])) z 0) (sym i) ∙ g))
    (λ (i : j < length x). e j i (sym (get_or-append x (b ∷ []) 0 j i) ∙ g))
    (eq-or-lt_of_le (omega arith))

partial_byte : (r : Run) (b : ℕ) → Partial r → Partial (take_byte r b)
partial_byte r b h =
    either (eqb b line_end)
    (λ e. rw e (cond_both (ltb r.lines last_number) _ _ Partial (λ _. partial_none _ _) (λ _. partial_none _ _)))
    (λ e.
    rw e
    (record {
      endless = endless_more r.partial b h.endless (eqb-false b line_end e);
      short = omega (arith, length-take clipped_length (r.partial ++ (b ∷ [])));
    }))

pub partial_text : (p : List ℕ) (r : Run) → Partial r → Partial (take_text r p)
unfolding take_text
partial_text [] r h = h
partial_text (b ∷ p) r h = partial_text p (take_byte r b) (partial_byte r b h)

-- a run that is taken up again with the bytes of the partial line
again : (r : Run) → Partial r → take_text (run_at r.book r.lines []) r.partial ≡ r
again r h =
    run_partial r.partial (run_at r.book r.lines []) h.endless (omega arith)
    ∙ ap (λ (x : List ℕ). run_at r.book r.lines x) (take_all clipped_length r.partial h.short)

-- what a piece adds to a run with a partial line
module _ (r : Run) (h : Partial r) (piece : List ℕ) where
  piece_after : take_piece r piece ≡ take_text r piece
  piece_after =
      run_append r.partial piece (run_at r.book r.lines []) ∙ ap (λ (x : Run). take_text x piece) (again r h)

  piece_output_lem : next_output r piece ≡ text_output r piece
  piece_output_lem =
      let t = run_at r.book r.lines [] in
      output_append r.partial piece t
      ∙ ap (λ (x : List ℕ). x ++ text_output (take_text t r.partial) piece) (output_partial r.partial t h.endless)
      ∙ ap (λ (x : Run). text_output x piece) (again r h)

pub record TwoAtOnce (s : Run) (first second : List ℕ) : Type 0 where
  pub after : take_text s (first ++ second) ≡ take_piece (take_text s first) second
  pub written : text_output s (first ++ second) ≡ text_output s first ++ next_output (take_text s first) second

pub piece_by_piece : (l : Ledger) (n : ℕ) (first second : List ℕ) → TwoAtOnce (run_at l n []) first second
piece_by_piece l n first second =
    let s = run_at l n [] in
    let r = take_text s first in
    let h : Partial r = partial_text first s (partial_none l n) in
    record {
      after = run_append first second s ∙ sym (piece_after r h second);
      written = output_append first second s ∙ ap (λ (x : List ℕ). text_output s first ++ x) (sym (piece_output_lem r h second));
    }

pieces_after : (pieces : List (List ℕ)) (r : Run) → Partial r → take_pieces r pieces ≡ take_text r (at_once pieces)
unfolding take_text take_pieces at_once
pieces_after [] r h = refl
pieces_after (p ∷ rest) r h =
    ap (λ (x : Run). take_pieces x rest) (piece_after r h p)
    ∙ pieces_after rest (take_text r p) (partial_text p r h)
    ∙ sym (run_append p (at_once rest) r)

pieces_output_lem : (pieces : List (List ℕ)) (r : Run) → Partial r → pieces_output r pieces ≡ text_output r (at_once pieces)
unfolding text_output pieces_output at_once
pieces_output_lem [] r h = refl
pieces_output_lem (p ∷ rest) r h =
    ap (λ (x : Run). next_output r p ++ pieces_output x rest) (piece_after r h p)
    ∙ ap (λ (x : List ℕ). x ++ pieces_output (take_text r p) rest) (piece_output_lem r h p)
    ∙ ap (λ (x : List ℕ). text_output r p ++ x) (pieces_output_lem rest (take_text r p) (partial_text p r h))
    ∙ sym (output_append p (at_once rest) r)

pub in_pieces : InPieces
in_pieces l n pieces =
    let e = pieces_after pieces (run_at l n []) (partial_none l n) in
    record {
      after = e;
      written = pieces_output_lem pieces (run_at l n []) (partial_none l n);
      end_after = ap end_text e;
      end_output_lem = ap end_output e;
    }

-- ---- a text line by line: the lines before a place have been answered, and a line begins there

pub record Answering (s : Run) (text : List ℕ) (at : ℕ) (l : Ledger) (n : ℕ) (written : List ℕ) : Type 0 where
  pub now : take_text s (take at text) ≡ run_at l n []
  pub so_far : text_output s (take at text) ≡ written

pub answering_start : (l : Ledger) (n : ℕ) (text : List ℕ) → Answering (run_at l n []) text 0 l n []
unfolding take_text text_output
answering_start l n text = record { now = refl; so_far = refl }

-- the line from a place to its end
module _ (text : List ℕ) (at k : ℕ) (f : FirstEnd text at k) where
  -- what the line adds to a run
  module _ (s : Run) (l : Ledger) (n : ℕ) (written line : List ℕ) (a : Answering s text at l n written) (p : line ≡ take (k + 1 - at) (drop at text)) where
    whole : line ≡ segment text at k f ++ (line_end ∷ [])
    whole = p ∙ segment_end text at k f

    pub line_after : take_text s (take (k + 1) text) ≡ ended (run_at l n []) line
    line_after =
        ap (take_text s) (split_line text at k f)
        ∙ run_append (take at text) (take (k + 1 - at) (drop at text)) s
        ∙ ap (λ (r : Run). take_text r (take (k + 1 - at) (drop at text))) a.now
        ∙ ap (take_text (run_at l n [])) (segment_end text at k f)
        ∙ (one_line l n (segment text at k f) (segment_endless text at k f)).after
        ∙ ap (ended (run_at l n [])) (sym whole)

    pub line_output_lem : text_output s (take (k + 1) text) ≡ written ++ line_output (run_at l n []) line
    line_output_lem =
        ap (text_output s) (split_line text at k f)
        ∙ output_append (take at text) (take (k + 1 - at) (drop at text)) s
        ∙ ap (λ (x : List ℕ). x ++ text_output (take_text s (take at text)) (take (k + 1 - at) (drop at text))) a.so_far
        ∙ ap (λ (r : Run). written ++ text_output r (take (k + 1 - at) (drop at text))) a.now
        ∙ ap (λ (x : List ℕ). written ++ text_output (run_at l n []) x) (segment_end text at k f)
        ∙ ap (λ (x : List ℕ). written ++ x) (one_line l n (segment text at k f) (segment_endless text at k f)).written
        ∙ ap (λ (x : List ℕ). written ++ line_output (run_at l n []) x) (sym whole)

    pub answering_line : (l' : Ledger) (n' : ℕ) → run_at l' n' [] ≡ ended (run_at l n []) line → Answering s text (k + 1) l' n' (written ++ line_output (run_at l n []) line)
    answering_line l' n' e = record { now = line_after ∙ sym e; so_far = line_output_lem }

-- the bytes behind the last line
module _ (text : List ℕ) (at : ℕ) (none : (j : ℕ) → at ≤ j → j < length text → get_or text j 0 ≢ line_end) where
  module _ (s : Run) (l : Ledger) (n : ℕ) (written : List ℕ) (a : Answering s text at l n written) where
    pub rest_after : take_text s text ≡ run_at l n (clipped (drop at text))
    rest_after =
        ap (take_text s) (sym (take-append-drop at text))
        ∙ run_append (take at text) (drop at text) s
        ∙ ap (λ (r : Run). take_text r (drop at text)) a.now
        ∙ run_partial (drop at text) (run_at l n []) (rest_endless text at none) (omega arith)

    pub rest_output : text_output s text ≡ written
    rest_output =
        ap (text_output s) (sym (take-append-drop at text))
        ∙ output_append (take at text) (drop at text) s
        ∙ ap (λ (x : List ℕ). x ++ text_output (take_text s (take at text)) (drop at text)) a.so_far
        ∙ ap (λ (x : List ℕ). written ++ x) (output_partial (drop at text) (take_text s (take at text)) (rest_endless text at none))
        ∙ append-nil written
