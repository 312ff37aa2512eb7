-- Laws of specs/Input. To cite: `taken_none`, `taken_on`, `answered_whole`, `answered_past`. Assumes nothing.
use Rattle.std.specs.Prelude.{slice_range}
use Rattle.std.specs.Io.KnownBytes.{Keeps, Consumes, Appends, IsAtEnd}
use Rattle.std.proofs.Common.{Option}
use Rattle.std.proofs.KnownBytes.{Consumes-nil, Consumes-trans, Consumes-kept, Appends-nil, Appends-trans}
use mathlib.Core.Path.{◌≡◌, sym, ap, subst, ◌∙◌}
use mathlib.Core.Bool.{Bool, true}
use mathlib.Core.List.{List, [], ◌++◌}
use Prim.Native.Nat.{ℕ, ◌+◌, ◌-◌, ◌<◌}
use native.Mathlib.Nat.{zero-add, le_of_lt}
use native.Mathlib.Omega.{arith}
use lib.ListN.{length, take, drop, length-take}
use lib.Seq.{take-add, take-append_seam, length-take-le}
use Rattle.report.specs.Cut.{answered_lines}
use Rattle.desk.specs.declared.Piece.{Piece}
use Rattle.desk.specs.Lines.{rest_behind, kept_rest, output_of}
use Rattle.desk.specs.Slide.{slide_line_length, slide_said}
use Rattle.desk.specs.Promises.{Stage, take_piece, piece_output}
use Rattle.desk.proofs.Laws.Pieces.{stage_of, after, after_none, written_none, two_at_once, slide_long_alike}
use Rattle.slide.specs.Input.{is_past, Turned, InputTaken, InputAnswered}

-- ---- the whole input

pub taken_none : (left held : Option (List ℕ)) (text : List ℕ) → slide_line_length < length text → InputTaken left left held held 0 0 text
taken_none left held text h =
    record {
      input = [];
      read = Consumes-nil left;
      written = subst (Appends held held) (sym (written_none slide_line_length slide_said slide_long_alike 0)) (Appends-nil held);
      stage_is = sym (after_none slide_line_length slide_said slide_long_alike 0);
      room = omega (arith, h);
    }

module _
    (left now held so_far : Option (List ℕ)) (p : Piece) (text : List ℕ) (a : InputTaken left now held so_far p.lines p.partial text) where
  lines_taken : p.lines ≡ length (answered_lines 0 a.input)
  lines_taken = ap (λ (s : Stage). s.lines) a.stage_is ∙ zero-add _

  partial_taken : p.partial ≡ length (kept_rest slide_line_length 0 a.input)
  partial_taken = sym (length-take-le p.partial text (le_of_lt a.room)) ∙ ap (λ (s : Stage). length s.rest) a.stage_is

  -- the input is at its end
  pub answered_whole : (left' : Option (List ℕ)) → Keeps now left' × IsAtEnd left' → InputAnswered left left' held so_far p
  answered_whole left' e =
      record {
        input = a.input;
        read = Consumes-kept left now left' a.input a.read e.0;
        whole = λ q. e.1;
        written = a.written;
        lines_are = lines_taken;
        partial_is = partial_taken;
      }

  -- it goes past the last line that is answered
  pub answered_past : (past : Bool) → past ≡ is_past p.lines p.partial → past ≡ true → InputAnswered left now held so_far p
  answered_past past is e =
      record {
        input = a.input;
        read = a.read;
        whole = λ q. absurd (cc);
        written = a.written;
        lines_are = lines_taken;
        partial_is = partial_taken;
      }

  -- a read behind the rest, and its turn
  module _ (got : ℕ) (text' : List ℕ) (front : take p.partial text' ≡ take p.partial text) where
    -- the bytes that were read
    abbrev bytes : List ℕ
    bytes = slice_range text' p.partial (p.partial + got)

    given_is : take (p.partial + got) text' ≡ take p.partial text ++ bytes
    given_is =
        let m : p.partial + got - p.partial ≡ got = omega arith in
        take-add p.partial got text'
        ∙ ap (λ (x : List ℕ). x ++ take got (drop p.partial text')) front
        ∙ ap (λ (k : ℕ). take p.partial text ++ take k (drop p.partial text')) (sym m)

    abbrev kept : List ℕ
    kept = kept_rest slide_line_length p.lines (take (p.partial + got) text')

    pub taken_on : (out : List ℕ) (r : Piece) (text'' out' : List ℕ) (next grown : Option (List ℕ))
        → slide_line_length < length text''
        → Consumes now next bytes
        → Turned p (p.partial + got) text' out r text'' out'
        → Appends so_far grown (take r.written out')
        → InputTaken left next held grown r.lines r.partial text''
    taken_on out r text'' out' next grown h read t appended =
        let two = two_at_once slide_line_length slide_said slide_long_alike 0 a.input bytes in
        let given = take (p.partial + got) text' in
        let lines_are : r.lines ≡ p.lines + length (answered_lines p.lines given) = ap (λ (x : Piece). x.lines) t.piece_is in
        let partial_is : r.partial ≡ length kept = ap (λ (x : Piece). x.partial) t.piece_is in
        let kept_is : take r.partial text'' ≡ kept =
        ap (λ (n : ℕ). take n text'') partial_is ∙ ap (take (length kept)) t.text_is ∙ take-append_seam kept (drop (0 + length kept) text') in
        let more = output_of slide_said p.lines given in
        let written_is : take r.written out' ≡ more =
        ap (λ (n : ℕ). take n out') (ap (λ (x : Piece). x.written) t.piece_is)
        ∙ ap (take (length more)) t.out_is
        ∙ take-append_seam more (drop (0 + length more) out) in
        let behind : more ≡ piece_output slide_said (after slide_line_length 0 a.input) bytes =
        ap (output_of slide_said p.lines) given_is ∙ ap (λ (s : Stage). piece_output slide_said s bytes) a.stage_is in
        record {
          input = a.input ++ bytes;
          read = Consumes-trans left now next a.input bytes a.read read;
          written =
              subst (Appends held grown) (sym two.written)
              (Appends-trans held so_far grown (output_of slide_said 0 a.input) _ a.written
              (subst (Appends so_far grown) (written_is ∙ behind) appended));
          stage_is =
              stage_of lines_are kept_is
              ∙ ap (λ (x : List ℕ). after slide_line_length p.lines x) given_is
              ∙ ap (λ (s : Stage). take_piece slide_line_length s bytes) a.stage_is
              ∙ sym two.after_is;
          room = omega (arith, h, partial_is, length-take slide_line_length (rest_behind p.lines given));
        }
