-- Laws of specs/Lines and specs/Answering, for the functions of src/answering.rt in their order. To cite: `AnsweredTo` with
-- `answered_start`, `answered_next`, `answered_last`; `length_numbered`. Assumes nothing.
use Rattle.std.specs.List.{copy_within, concat}
use Rattle.std.proofs.Common.{Some, None}
use mathlib.Core.Path.{◌≡◌, refl, sym, ap, ◌∙◌}
use mathlib.Core.Bool.{true}
use mathlib.Core.List.{List, [], ◌∷◌, ◌++◌, append_assoc, append-nil}
use Prim.Native.Nat.{ℕ, suc, ◌+◌, ◌-◌, ◌*◌, ◌/◌, ◌≤◌, ◌<◌, min}
use native.Mathlib.Nat.{zero-add, add-sub_cancel_left, mul-le-mul_left, mul-suc, mul-div-le}
use native.Mathlib.Omega.{arith}
use borrow.Author.Tests.{ltb-true, leb-true}
use lib.Dec.{leb, ltb}
use lib.ListN.{length, take, drop, set, length-append, length-take, length-drop}
use lib.Seq.{take-nil, length-take-le, get_or-drop, get_or-take, ext_get_or, drop-drop}
use Rattle.common.proofs.Tests.{either, and_halves}
use Rattle.digits.specs.Field.{blank, pasted, put_at}
use Rattle.digits.proofs.Laws.Field.{length_signed_field}
use Rattle.digits.proofs.Laws.Buffer.{pasted_next, written_none, written_field, written_more, written_inside, written_byte}
use Rattle.lines.specs.Line.{line_end}
use Rattle.report.specs.Cut.{lines_from, answered_lines}
use Rattle.report.specs.Layout.{last_number}
use Rattle.report.specs.declared.layout.Progress.{Progress}
use Rattle.report.proofs.Laws.Cut.{FirstEnd, end_from_at, end_from_none}
use Rattle.report.proofs.Laws.Lines.{lines_first, lines_none, rest_endless, answered_first, answered_none}
use Rattle.desk.specs.Lines.{rest_behind, numbered, lines_output, piece_fits}
use Rattle.desk.specs.Promises.{InOrder}
use Rattle.desk.specs.Answering.{next_end, AllWide, LineAnswered, LinesAnswered}

-- ---- an answer

module _ (number : ℕ) (said : List ℕ) where
  -- with the columns of the number and the byte that ends it
  pub length_numbered : length (numbered number said) ≡ length said + 7
  unfolding numbered
  length_numbered = simp (length-append, length_signed_field) (omega arith)

  -- it is written part by part
  pub answer_written : (at wide last : ℕ) (out a b : List ℕ)
      → length (numbered number said) ≡ wide
      → at + wide ≤ length out
      → last ≡ at + wide - 1
      → a ≡ put_at at 6 blank number out
      → b ≡ pasted (at + 6) said a
      → set b last line_end ≡ pasted at (numbered number said) out
  unfolding numbered
  answer_written at wide last out a b w h l p q =
      let n = length_numbered in
      let f = written_field at out [] at out (written_none at out) 6 blank number a (at + 6) refl (omega arith) p in
      let i = written_inside at out _ (at + 6) a f (omega arith) in
      let g = written_more at out _ (at + 6) a f i said b last (omega arith) q in
      (written_byte at out _ last b g line_end (at + wide) (omega arith) h).bytes

-- an answer has bytes
module _ (wide : ℕ) (said : List ℕ → List ℕ) (all : AllWide wide said) where
  pub some_wide : 0 < wide
  some_wide = omega (arith, all.each 0 [], length_numbered 0 (said []))

  pub said_wide : (line : List ℕ) → length (said line) + 7 ≡ wide
  said_wide line = sym (length_numbered 0 (said line)) ∙ all.each 0 line

-- ---- the next line, where n were answered before

module _ (n : ℕ) (text : List ℕ) (at k : ℕ) (f : FirstEnd text at k) (e : ltb n last_number ≡ true) where
  abbrev pub next_line : List ℕ
  next_line = take (k + 1 - at) (drop at text)

  next_answered : answered_lines n (drop at text) ≡ next_line ∷ answered_lines (n + 1) (drop (k + 1) text)
  unfolding answered_lines
  next_answered = ap (take (last_number - n)) (lines_first text at k f) ∙ answered_first n next_line (lines_from [] (drop (k + 1) text)) e

  next_length : length next_line ≡ k + 1 - at
  next_length = length-take-le (k + 1 - at) (drop at text) (omega (arith, length-drop at text, f.inside, f.onward))

  next_rest : rest_behind n (drop at text) ≡ rest_behind (n + 1) (drop (k + 1) text)
  unfolding rest_behind
  next_rest =
      let more = concat (answered_lines (n + 1) (drop (k + 1) text)) in
      let m : at + (k + 1 - at) ≡ k + 1 = omega (arith, f.onward) in
      ap (λ (ls : List (List ℕ)). drop (length (concat ls)) (drop at text)) next_answered
      ∙ ap (λ (j : ℕ). drop j (drop at text)) (length-append next_line more)
      ∙ sym (drop-drop (length more) (length next_line) (drop at text))
      ∙ ap (λ (j : ℕ). drop (length more) (drop j (drop at text))) next_length
      ∙ ap (drop (length more)) (drop-drop (k + 1 - at) at text ∙ ap (λ (j : ℕ). drop j text) m)

-- none is answered, and all that there is is the rest
module _ (n : ℕ) (text : List ℕ) (e : answered_lines n text ≡ []) where
  all_rest : rest_behind n text ≡ text
  unfolding rest_behind
  all_rest = ap (λ (ls : List (List ℕ)). drop (length (concat ls)) text) e

-- ---- where the next line ends

pub record NextEnd (n : ℕ) (text : List ℕ) (at k : ℕ) : Type 0 where
  pub less : ltb n last_number ≡ true
  pub first : FirstEnd text at k

pub next_end_at : (n : ℕ) (text : List ℕ) (at k : ℕ) → next_end n text at ≡ Some k → NextEnd n text at k
unfolding next_end
next_end_at n text at k e =
    either (ltb n last_number)
    (λ t. record { less = t; first = end_from_at text at k (rw t at e) })
    (λ t. absurd (let q : None ≡ Some k = rw t at e in cc))

next_end_none : (n : ℕ) (text : List ℕ) (at : ℕ) → next_end n text at ≡ None → answered_lines n (drop at text) ≡ []
unfolding answered_lines next_end
next_end_none n text at e =
    either (ltb n last_number)
    (λ t.
    ap (take (last_number - n)) (lines_none (drop at text) [] (rest_endless text at (end_from_none text at (rw t at e))))
    ∙ take-nil (last_number - n))
    (λ t. answered_none n (lines_from [] (drop at text)) t)

pub end_inside : (n : ℕ) (text : List ℕ) (at k : ℕ) → next_end n text at ≡ Some k → k < length text
end_inside n text at k e = (next_end_at n text at k e).first.inside

pub end_onward : (n : ℕ) (text : List ℕ) (at k : ℕ) → next_end n text at ≡ Some k → at ≤ k
end_onward n text at k e = (next_end_at n text at k e).first.onward

pub end_before_last : (n : ℕ) (text : List ℕ) (at k : ℕ) → next_end n text at ≡ Some k → n ≤ last_number
end_before_last n text at k e = omega (arith, ltb-true n last_number (next_end_at n text at k e).less)

-- ---- the lines before a place have been answered

-- one more of so many
room_more : (wide at k : ℕ) → at < k → wide * at + wide ≤ wide * k
room_more wide at k h = omega (arith, mul-le-mul_left wide h, mul-suc wide at)

pub record AnsweredTo (wide : ℕ) (said : List ℕ → List ℕ) (n : ℕ) (text out : List ℕ) (at : ℕ) (p : Progress) (out' : List ℕ) : Type 0 where
  pub so_far : List ℕ
  pub bytes : out' ≡ pasted 0 so_far out
  pub written : p.written ≡ length so_far
  -- what is written with what is still to be written is the whole, and the rest of the lines that are left is the rest
  pub whole : so_far ++ lines_output said p.lines (answered_lines p.lines (drop at text)) ≡ lines_output said n (answered_lines n text)
  pub count : p.lines + length (answered_lines p.lines (drop at text)) ≡ n + length (answered_lines n text)
  pub rest : rest_behind p.lines (drop at text) ≡ rest_behind n text
  pub few : p.written ≤ wide * at
  pub inside : at ≤ length text

module _ (wide : ℕ) (said : List ℕ → List ℕ) (n : ℕ) (text out : List ℕ) where
  pub answered_start : (p : Progress) → p.lines ≡ n → p.written ≡ 0 → AnsweredTo wide said n text out 0 p out
  answered_start p same none =
      record {
        so_far = [];
        bytes = refl;
        written = none;
        whole = ap (λ (m : ℕ). lines_output said m (answered_lines m text)) same;
        count = ap (λ (m : ℕ). m + length (answered_lines m text)) same;
        rest = ap (λ (m : ℕ). rest_behind m text) same;
        few = omega arith;
        inside = omega arith;
      }

  module _ (at : ℕ) (p : Progress) (mid : List ℕ) (t : AnsweredTo wide said n text out at p mid) where
    -- one line more, to its end at k
    module _ (k : ℕ) (e : NextEnd p.lines text at k) (all : AllWide wide said) where
      pub answered_room : wide * length text ≤ length out → p.written + wide ≤ length out
      answered_room h = omega (arith, t.few, room_more wide at (length text) (omega (arith, e.first.onward, e.first.inside)))

      pub answered_next : (line next : List ℕ) (r : Progress)
          → line ≡ next_line p.lines text at k e.first e.less
          → LineAnswered said p line mid r next
          → AnsweredTo wide said n text out (k + 1) r next
      unfolding lines_output
      answered_next line next r same a =
          let more = numbered (p.lines + 1) (said line) in
          let left = answered_lines (p.lines + 1) (drop (k + 1) text) in
          let q : answered_lines p.lines (drop at text) ≡ line ∷ left =
          next_answered p.lines text at k e.first e.less ∙ ap (λ (x : List ℕ). x ∷ left) (sym same) in
          let w : length more ≡ wide = all.each (p.lines + 1) line in
          record {
            so_far = t.so_far ++ more;
            bytes = pasted_next 0 t.so_far out p.written more mid next (omega arith) (sym t.written) t.bytes (rw (zero-add) a.bytes);
            written = omega (arith, a.written, t.written, length-append t.so_far more);
            whole =
                ap (λ (m : ℕ). (t.so_far ++ more) ++ lines_output said m (answered_lines m (drop (k + 1) text))) a.lines_are
                ∙ append_assoc t.so_far more (lines_output said (p.lines + 1) left)
                ∙ ap (λ (ls : List (List ℕ)). t.so_far ++ lines_output said p.lines ls) (sym q)
                ∙ t.whole;
            count =
                ap (λ (m : ℕ). m + length (answered_lines m (drop (k + 1) text))) a.lines_are
                ∙ omega (arith, ap length q, t.count);
            rest =
                ap (λ (m : ℕ). rest_behind m (drop (k + 1) text)) a.lines_are
                ∙ sym (next_rest p.lines text at k e.first e.less)
                ∙ t.rest;
            few = omega (arith, a.written, w, t.few, room_more wide at (k + 1) (omega (arith, e.first.onward)));
            inside = omega (arith, e.first.inside);
          }

    -- no line more
    pub answered_last : next_end p.lines text at ≡ None → LinesAnswered said n text out (record { progress = p; at = at }) mid
    unfolding lines_output
    answered_last e =
        let q = next_end_none p.lines text at e in
        let w : t.so_far ≡ lines_output said n (answered_lines n text) =
        sym (append-nil t.so_far) ∙ ap (λ (ls : List (List ℕ)). t.so_far ++ lines_output said p.lines ls) (sym q) ∙ t.whole in
        record {
          lines_are = omega (arith, ap length q, t.count);
          bytes = t.bytes ∙ ap (λ (x : List ℕ). pasted 0 x out) w;
          written = t.written ∙ ap length w;
          rest = sym (all_rest p.lines (drop at text) q) ∙ t.rest;
          inside = t.inside;
        }

-- ---- the rest that is kept

module _ (most at filled n : ℕ) (text : List ℕ) (h : at ≤ filled) (k : filled ≤ length text) (e : n ≡ min most (filled - at)) where
  pub rest_length : n ≡ length (take most (drop at (take filled text)))
  rest_length = omega (arith, length-take most (drop at (take filled text)), length-drop at (take filled text), length-take-le filled text k)

  rest_same : take n (drop at text) ≡ take most (drop at (take filled text))
  rest_same =
      let d = drop at text in
      let x = drop at (take filled text) in
      let c = length-take-le n d (omega (arith, length-drop at text)) in
      ext_get_or 0 (take n d) (take most x)
      (c ∙ rest_length)
      (λ j l.
      get_or-take n d j 0 (omega arith)
      ∙ get_or-drop at text j 0
      ∙ sym (get_or-take filled text (at + j) 0 (omega arith))
      ∙ sym (get_or-drop at (take filled text) j 0)
      ∙ sym (get_or-take most x j 0 (omega arith)))

  -- what is copied to the front
  pub rest_kept : copy_within text at (at + n) 0 ≡ pasted 0 (take most (drop at (take filled text))) text
  rest_kept =
      ap (λ (m : ℕ). take m (drop at text) ++ drop (0 + m) text) (add-sub_cancel_left at n)
      ∙ ap (λ (x : List ℕ). x ++ drop (0 + n) text) rest_same
      ∙ ap (λ (m : ℕ). take most (drop at (take filled text)) ++ drop (0 + m) text) rest_length

-- ---- the call for a piece

module _ (wide filled : ℕ) (text out : List ℕ) (fits : piece_fits wide filled text out ≡ true) where
  pub piece_long : filled ≤ length text
  piece_long = leb-true filled (length text) (and_halves (leb filled (length text)) fits).0

  pub piece_room : 0 < wide → wide * length (take filled text) ≤ length out
  piece_room h =
      let t = leb-true filled (length out / wide) (and_halves (leb filled (length text)) fits).1 in
      rw (length-take-le filled text piece_long) (omega (arith, mul-le-mul_left wide t, mul-div-le (length out) wide))

-- ---- the lines are numbered from 1 on

pub in_order : InOrder
unfolding lines_output numbered
in_order said n [] line after = let e : n + 0 ≡ n = omega arith in rw e
in_order said n (x ∷ before) line after =
    let e : n + 1 + length before ≡ n + suc (length before) = omega arith in
    let own : List ℕ = numbered (n + 1) (said x) in
    let earlier : List ℕ = lines_output said (n + 1) before in
    let this : List ℕ = numbered (n + suc (length before) + 1) (said line) in
    let later : List ℕ = lines_output said (n + suc (length before) + 1) after in
    ap (λ (l : List ℕ). own ++ l) (rw e at (in_order said (n + 1) before line after))
    ∙ sym (append_assoc own (earlier ++ this) later)
    ∙ ap (λ (l : List ℕ). l ++ later) (sym (append_assoc own earlier this))
