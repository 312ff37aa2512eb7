-- Laws of a text by its lines, specs/Cut. To cite: of the line from a place to its end `segment` with its laws; `rest_endless`; `lines_first`,
-- `lines_none`; of no more than 999,999 lines `no_more_answered`, `answered_first`, `answered_none`; of a text in two parts `lines_append`, `last_endless`,
-- `lines_partial`, `all_bytes`. Assumes nothing.
use Rattle.std.specs.List.{concat}
use mathlib.Core.Path.{◌≡◌, refl, sym, ap, ◌∙◌}
use mathlib.Core.Bool.{true, false}
use mathlib.Core.List.{List, [], ◌∷◌, ◌++◌, append_assoc, append-nil}
use mathlib.Core.Logic.{⊎_elim, ◌≢◌}
use Prim.Native.Nat.{ℕ, suc, ◌+◌, ◌-◌, ◌≤◌, ◌<◌}
use native.Mathlib.Nat.{eq-or-lt_of_le, sub-eq-zero_of_le}
use native.Mathlib.Omega.{arith}
use borrow.Author.Tests.{ne_eqb, eqb-false, ltb-true, ltb-false}
use lib.Dec.{eqb, ltb}
use lib.ListN.{length, take, drop, get_or, length-append, length-take, length-drop, take-append-drop, get_or-append}
use lib.Seq.{length-take-le, take-add, take-suc, get_or-take, get_or-drop, get_or-append_seam, drop-drop}
use Rattle.common.proofs.Tests.{either}
use Rattle.common.proofs.Walk.{one_more}
use Rattle.lines.specs.Line.{line_end}
use Rattle.report.specs.Cut.{lines_from, answered_lines, NoMoreAnswered, last_from}
use Rattle.report.specs.Layout.{last_number}
use Rattle.report.proofs.Laws.Cut.{Endless, FirstEnd}

-- the bytes behind the first
pub endless_rest : (b : ℕ) (h : List ℕ) → Endless (b ∷ h) → Endless h
endless_rest b h e j l = e (suc j) (omega arith)

-- ---- the lines that there are

lines_end : (s p rest : List ℕ) → Endless s → lines_from p ((s ++ (line_end ∷ [])) ++ rest) ≡ (p ++ (s ++ (line_end ∷ []))) ∷ lines_from [] rest
unfolding lines_from
lines_end [] p rest e = refl
lines_end (b ∷ s) p rest e =
    rw (ne_eqb b line_end (e 0 (omega arith)))
    (lines_end s (p ++ (b ∷ [])) rest (endless_rest b s e)
    ∙ ap (λ (x : List ℕ). x ∷ lines_from [] rest) (append_assoc p (b ∷ []) (s ++ (line_end ∷ []))))

pub lines_none : (s p : List ℕ) → Endless s → lines_from p s ≡ []
unfolding lines_from
lines_none [] p e = refl
lines_none (b ∷ s) p e =
    rw (ne_eqb b line_end (e 0 (omega arith))) (lines_none s (p ++ (b ∷ [])) (endless_rest b s e))

-- the line from a place to its end
module _ (text : List ℕ) (at k : ℕ) (f : FirstEnd text at k) where
  abbrev pub segment : List ℕ
  segment = take (k - at) (drop at text)

  length_segment : length segment ≡ k - at
  length_segment = length-take-le (k - at) (drop at text) (omega (arith, length-drop at text, f.inside, f.onward))

  pub segment_endless : Endless segment
  segment_endless j h q =
      let m = length_segment in
      f.none_before (at + j) (omega arith) (omega (arith, f.onward))
      (sym (get_or-drop at text j 0) ∙ sym (get_or-take (k - at) (drop at text) j 0 (omega arith)) ∙ q)

  pub segment_end : take (k + 1 - at) (drop at text) ≡ segment ++ (line_end ∷ [])
  segment_end =
      let n : k + 1 - at ≡ suc (k - at) = omega (arith, f.onward) in
      let m : at + (k - at) ≡ k = omega (arith, f.onward) in
      ap (λ (z : ℕ). take z (drop at text)) n
      ∙ take-suc (drop at text) (k - at) 0 (omega (arith, length-drop at text, f.inside, f.onward))
      ∙ ap (λ (z : ℕ). segment ++ (z ∷ []))
      (get_or-drop at text (k - at) 0 ∙ ap (λ (z : ℕ). get_or text z 0) m ∙ f.ends)

  pub split_line : take (k + 1) text ≡ take at text ++ take (k + 1 - at) (drop at text)
  split_line =
      let m : k + 1 ≡ at + (k + 1 - at) = omega (arith, f.onward) in
      ap (λ (z : ℕ). take z text) m ∙ take-add at (k + 1 - at) text

  -- it is the first of those from the place on, and the others are those behind it
  pub lines_first : lines_from [] (drop at text) ≡ take (k + 1 - at) (drop at text) ∷ lines_from [] (drop (k + 1) text)
  lines_first =
      let m : at + (k + 1 - at) ≡ k + 1 = omega (arith, f.onward) in
      let behind : drop (k + 1 - at) (drop at text) ≡ drop (k + 1) text = drop-drop (k + 1 - at) at text ∙ ap (λ (z : ℕ). drop z text) m in
      ap (lines_from []) (sym (take-append-drop (k + 1 - at) (drop at text)))
      ∙ ap (λ (x : List ℕ). lines_from [] (x ++ drop (k + 1 - at) (drop at text))) segment_end
      ∙ lines_end segment [] (drop (k + 1 - at) (drop at text)) segment_endless
      ∙ ap (λ (x : List ℕ). (segment ++ (line_end ∷ [])) ∷ lines_from [] x) behind
      ∙ ap (λ (x : List ℕ). x ∷ lines_from [] (drop (k + 1) text)) (sym segment_end)

-- the bytes behind the last line
pub rest_endless : (text : List ℕ) (at : ℕ) → ((j : ℕ) → at ≤ j → j < length text → get_or text j 0 ≢ line_end) → Endless (drop at text)
rest_endless text at none j h q =
    none (at + j) (omega arith) (omega (arith, length-drop at text)) (sym (get_or-drop at text j 0) ∙ q)

-- ---- the lines that are answered, where n were before: no more than 999,999

-- the first line is answered while fewer than 999,999 were
pub answered_first :
    (n : ℕ) (line : List ℕ) (rest : List (List ℕ))
    → ltb n last_number ≡ true
    → take (last_number - n) (line ∷ rest) ≡ line ∷ take (last_number - (n + 1)) rest
answered_first n line rest e = rw (one_more n last_number (ltb-true n last_number e))

pub no_more_answered : NoMoreAnswered
unfolding answered_lines
no_more_answered n text h = omega (arith, length-take (last_number - n) (lines_from [] text))

pub answered_none : (n : ℕ) (rest : List (List ℕ)) → ltb n last_number ≡ false → take (last_number - n) rest ≡ []
answered_none n rest e = rw (sub-eq-zero_of_le (ltb-false n last_number e))

-- ---- a text in two parts

-- one byte more that ends no line
endless_more : (x : List ℕ) (b : ℕ) → Endless x → b ≢ line_end → Endless (x ++ (b ∷ []))
endless_more x b e n j h q =
    let m = length-append x (b ∷ []) in
    ⊎_elim
    (λ (i : j ≡ length x). n (sym (get_or-append_seam x b [] 0) ∙ ap (λ (z : ℕ). get_or (x ++ (b ∷ [])) z 0) (sym i) ∙ q))
    (λ (i : j < length x). e j i (sym (get_or-append x (b ∷ []) 0 j i) ∙ q))
    (eq-or-lt_of_le (omega arith))

-- the bytes behind the last line end none
pub last_endless : (x p : List ℕ) → Endless p → Endless (last_from p x)
unfolding last_from
last_endless [] p e = e
last_endless (b ∷ x) p e =
    either (eqb b line_end)
    (λ t. rw t (last_endless x [] (λ j h. absurd (omega arith))))
    (λ t. rw t (last_endless x (p ++ (b ∷ [])) (endless_more p b e (eqb-false b line_end t))))

-- they stand before the second part
pub lines_append : (x p y : List ℕ) → lines_from p (x ++ y) ≡ lines_from p x ++ lines_from (last_from p x) y
unfolding lines_from last_from
lines_append [] p y = refl
lines_append (b ∷ x) p y =
    either (eqb b line_end)
    (λ t. rw t (ap (λ (ls : List (List ℕ)). (p ++ (b ∷ [])) ∷ ls) (lines_append x [] y)))
    (λ t. rw t (lines_append x (p ++ (b ∷ [])) y))

pub lines_partial : (q p y : List ℕ) → Endless q → lines_from p (q ++ y) ≡ lines_from (p ++ q) y
unfolding lines_from
lines_partial [] p y e = ap (λ (x : List ℕ). lines_from x y) (sym (append-nil p))
lines_partial (b ∷ q) p y e =
    rw (ne_eqb b line_end (e 0 (omega arith)))
    (lines_partial q (p ++ (b ∷ [])) y (endless_rest b q e) ∙ ap (λ (x : List ℕ). lines_from x y) (append_assoc p (b ∷ []) q))

-- the lines and the bytes behind them are the whole text
pub all_bytes : (x p : List ℕ) → concat (lines_from p x) ++ last_from p x ≡ p ++ x
unfolding lines_from last_from
all_bytes [] p = sym (append-nil p)
all_bytes (b ∷ x) p =
    either (eqb b line_end)
    (λ t.
    rw t
    (append_assoc (p ++ (b ∷ [])) (concat (lines_from [] x)) (last_from [] x)
    ∙ ap (λ (z : List ℕ). (p ++ (b ∷ [])) ++ z) (all_bytes x [])
    ∙ append_assoc p (b ∷ []) x))
    (λ t. rw t (all_bytes x (p ++ (b ∷ [])) ∙ append_assoc p (b ∷ []) x))
