-- Laws of specs/Cut. To cite: `FirstEnd` with `end_from_at`, `end_from_none`, `end_from_first`, `end_from_past`, and `end_from_cases`, from which both
-- follow; `Endless` with `is_none_endless`. The rest serves the functions of src/cut.rt. Assumes nothing.
use Rattle.std.proofs.Common.{None, Option, Some, MatchOption, EachIndex, option_map, ◌*◌, ℕ}
use Rattle.std.specs.List.{prefix_len}
use Rattle.std.proofs.lemmas.List.{take_rest}
use Rattle.std.specs.Simd.{first_chunks}
use mathlib.Core.Path.{◌≡◌, refl, sym, ap, ◌∙◌}
use mathlib.Core.Bool.{Bool, true, false, not, ◌&&◌, and-true, and-false}
use mathlib.Core.List.{List}
use mathlib.Core.Logic.{⊎_elim, ◌≢◌}
use Prim.Native.Nat.{ℕ, zero, suc, ◌+◌, ◌-◌, ◌≤◌, ◌<◌}
use native.Mathlib.Nat.{eq-or-lt_of_le, add-zero}
use native.Mathlib.Omega.{arith}
use borrow.Author.Tests.{eq-eqb, eqb-true, eqb-false, leb-true, leb-false}
use lib.Dec.{leb}
use lib.ListN.{length, take, drop, get_or, length-take, length-drop}
use lib.Seq.{length-take-le, get_or-take, get_or-drop}
use Rattle.common.specs.Walk.{first_from}
use Rattle.common.proofs.Tests.{either, false_unless}
use Rattle.common.proofs.Walk.{first_from_hit, first_from_miss, first_from_end, cases_from}
use Rattle.lines.specs.Line.{line_end}
use Rattle.report.specs.Cut.{ends_at, end_from, is_none, is_at, IsFirstEnd}

-- no byte of it ends a line
abbrev pub Endless : List ℕ → Type 0
Endless text = (j : ℕ) → j < length text → get_or text j 0 ≢ line_end

-- the first end of a line from a place on is at k
pub record FirstEnd (text : List ℕ) (from k : ℕ) : Type 0 where
  pub onward : from ≤ k
  pub inside : k < length text
  pub ends : get_or text k 0 ≡ line_end
  pub none_before : (j : ℕ) → from ≤ j → j < k → get_or text j 0 ≢ line_end

module _ (text : List ℕ) (from : ℕ) where
  pub end_from_walk : first_from (ends_at text) Some None from (length text - from) ≡ end_from text from
  unfolding end_from
  end_from_walk = refl

  pub end_from_cases :
      (P : Option ℕ → Type 0) → ((k : ℕ) → FirstEnd text from k → P (Some k))
      → (((j : ℕ) → from ≤ j → j < length text → get_or text j 0 ≢ line_end) → P None) → P (end_from text from)
  unfolding end_from
  end_from_cases P found none =
      cases_from (ends_at text) Some None P from (length text - from)
      (λ k lo hi e below.
      found k
      (record {
        onward = lo;
        inside = omega arith;
        ends = eqb-true (get_or text k 0) line_end e;
        none_before = λ j l h. eqb-false (get_or text j 0) line_end (below j l h);
      }))
      (λ below. none (λ j l h. eqb-false (get_or text j 0) line_end (below j l (omega arith))))

  pub end_from_at : (k : ℕ) → end_from text from ≡ Some k → FirstEnd text from k
  end_from_at k e =
      end_from_cases (λ (a : Option ℕ). a ≡ Some k → FirstEnd text from k)
      (λ i f q. let p : i ≡ k = cc in rw (← p) f)
      (λ none q. absurd cc)
      e

  pub end_from_none : end_from text from ≡ None → (j : ℕ) → from ≤ j → j < length text → get_or text j 0 ≢ line_end
  end_from_none e =
      end_from_cases (λ (a : Option ℕ). a ≡ None → (j : ℕ) → from ≤ j → j < length text → get_or text j 0 ≢ line_end)
      (λ k f q. absurd cc)
      (λ none q. none)
      e

  pub end_from_first : (k : ℕ) → FirstEnd text from k → end_from text from ≡ Some k
  end_from_first k f =
      end_from_cases (λ (a : Option ℕ). a ≡ Some k)
      (λ i g. ap Some (same i g))
      (λ none. absurd (none k f.onward f.inside f.ends))
    where
      same : (i : ℕ) → FirstEnd text from i → i ≡ k
      same i g =
          either (leb k i)
          (λ h.
          ⊎_elim
          (λ (e : k ≡ i). sym e)
          (λ (l : k < i). absurd (g.none_before k f.onward l f.ends))
          (eq-or-lt_of_le (leb-true k i h)))
          (λ h. absurd (f.none_before i g.onward (leb-false k i h) g.ends))

module _ (text : List ℕ) (from : ℕ) where
  pub end_from_no : ((j : ℕ) → from ≤ j → j < length text → get_or text j 0 ≢ line_end) → end_from text from ≡ None
  end_from_no none = end_from_cases text from (λ (a : Option ℕ). a ≡ None) (λ i f. absurd (none i f.onward f.inside f.ends)) (λ n. refl)

-- the first end by the bytes behind a place
pub end_from_drop : (text : List ℕ) (k j : ℕ) → k ≤ length text → end_from text (k + j) ≡ option_map (λ i. k + i) (end_from (drop k text) j)
end_from_drop text k j h =
    end_from_cases (drop k text) j (λ (a : Option ℕ). end_from text (k + j) ≡ option_map (λ i. k + i) a)
    (λ i f.
    end_from_first text (k + j) (k + i)
    (record {
      onward = omega (arith, f.onward);
      inside = let d = length-drop k text in omega (arith, f.inside);
      ends = sym (get_or-drop k text i 0) ∙ f.ends;
      none_before = λ n lo hi q.
          let m : k + (n - k) ≡ n = omega arith in
          f.none_before (n - k) (omega arith) (omega arith) (get_or-drop k text (n - k) 0 ∙ ap (λ (x : ℕ). get_or text x 0) m ∙ q);
    }))
    (λ none.
    end_from_no text (k + j)
    (λ n lo hi q.
    let m : k + (n - k) ≡ n = omega arith in
    let d = length-drop k text in
    none (n - k) (omega arith) (omega arith) (get_or-drop k text (n - k) 0 ∙ ap (λ (x : ℕ). get_or text x 0) m ∙ q)))

pub end_from_rest : (text rest : List ℕ) (k : ℕ)
    → k ≤ length text
    → rest ≡ take (length text - k) (drop k text)
    → end_from text k ≡ option_map (λ i. k + i) (end_from rest 0)
end_from_rest text rest k h e =
    ap (end_from text) (sym (add-zero k))
    ∙ end_from_drop text k 0 h
    ∙ ap (λ (r : List ℕ). option_map (λ i. k + i) (end_from r 0)) (sym (e ∙ take_rest text k))

pub first_end_is : (text : List ℕ) (r : Option ℕ) → MatchOption r (EachIndex text (λ k. get_or text k 0 ≢ line_end)) (IsFirstEnd text) → r ≡ end_from text 0
first_end_is text None e = sym (end_from_no text 0 (λ j lo hi. e j hi))
first_end_is text (Some i) e =
    sym (end_from_first text 0 i (record { onward = omega arith; inside = e.0; ends = e.1; none_before = λ j lo hi. e.2 j hi }))

-- bytes that end no line are passed over
module _ (text : List ℕ) (from k : ℕ) (h : from + k ≤ length text) (none : Endless (take (from + k - from) (drop from text))) where
  endless_before : (j : ℕ) → from ≤ j → j < from + k → get_or text j 0 ≢ line_end
  endless_before j lo hi q =
      let d = length-drop from text in
      let m : from + (j - from) ≡ j = omega arith in
      none (j - from) (omega (arith, length-take-le (from + k - from) (drop from text) (omega arith)))
      (get_or-take (from + k - from) (drop from text) (j - from) 0 (omega arith)
      ∙ get_or-drop from text (j - from) 0
      ∙ ap (λ (i : ℕ). get_or text i 0) m
      ∙ q)

  -- none from the place behind them on, so none at all
  none_at_all : ((j : ℕ) → from + k ≤ j → j < length text → get_or text j 0 ≢ line_end) → (j : ℕ) → from ≤ j → j < length text → get_or text j 0 ≢ line_end
  none_at_all f j lo hi =
      either (leb (from + k) j) (λ e. f j (leb-true (from + k) j e) hi)
      (λ e. endless_before j lo (leb-false (from + k) j e))

  pub end_from_past : end_from text (from + k) ≡ end_from text from
  end_from_past =
      end_from_cases text (from + k) (λ (a : Option ℕ). a ≡ end_from text from)
      (λ i f.
      sym
      (end_from_first text from i
      (record {
        onward = omega (arith, f.onward);
        inside = f.inside;
        ends = f.ends;
        none_before = λ j lo hi.
            either (leb (from + k) j) (λ e. f.none_before j (leb-true (from + k) j e) hi)
            (λ e. endless_before j lo (leb-false (from + k) j e));
      })))
      (λ g.
      end_from_cases text from (λ (a : Option ℕ). None ≡ a) (λ i f. absurd (none_at_all g i f.onward f.inside f.ends)) (λ n. refl))

  -- a line that ends behind them
  end_from_behind : from + k < length text → get_or text (from + k) 0 ≡ line_end → end_from text from ≡ Some (from + k)
  end_from_behind l e =
      end_from_first text from (from + k) (record { onward = omega arith; inside = l; ends = e; none_before = endless_before })

-- ---- the answers of the code

none_is : (a : Option ℕ) → is_none a ≡ true → a ≡ None
none_is None e = refl
none_is (Some i) e = absurd cc

pub is_at_true : (k : ℕ) (a : Option ℕ) → is_at k a ≡ true → a ≡ Some k
is_at_true k None e = absurd cc
is_at_true k (Some i) e = ap Some (eqb-true i k e)

pub is_none_endless : (text : List ℕ) → is_none (end_from text 0) ≡ true → Endless text
is_none_endless text e j h = end_from_none text 0 (none_is (end_from text 0) e) j (omega arith) h

endless_none : (text : List ℕ) → Endless text → is_none (end_from text 0) ≡ true
endless_none text e =
    end_from_cases text 0 (λ (a : Option ℕ). is_none a ≡ true) (λ k f. absurd (e k f.inside f.ends)) (λ n. refl)

-- one byte more that ends no line
pub none_step : (text : List ℕ) (i : ℕ) (none : Bool) → i < length text → (none && not (ends_at text i)) && is_none (end_from text (i + 1)) ≡ none && is_none (end_from text i)
none_step text i none h =
    either (ends_at text i)
    (λ e.
    let f : end_from text i ≡ Some i = sym (end_from_walk text i) ∙ first_from_hit (ends_at text) Some None i (length text) h e in
    rw (e, f, and-false none))
    (λ e.
    let f : end_from text i ≡ end_from text (i + 1) =
    sym (end_from_walk text i) ∙ first_from_miss (ends_at text) Some None i (length text) h e ∙ end_from_walk text (i + 1) in
    rw (e, f, and-true none))

pub none_end : (text : List ℕ) (i : ℕ) (none : Bool) → length text ≤ i → none ≡ none && is_none (end_from text i)
none_end text i none h =
    let f : end_from text i ≡ None = sym (end_from_walk text i) ∙ first_from_end (ends_at text) Some None i (length text) h in
    rw (f, and-true none)

-- the line from a place on does not end k bytes on: the text is too short, or another byte stands there
module _ (text : List ℕ) (from k : ℕ) where
  pub not_short : length text ≤ from + k → false ≡ is_at (from + k) (end_from text from)
  not_short h =
      sym
      (false_unless _ (λ e. omega (arith, (end_from_at text from (from + k) (is_at_true (from + k) (end_from text from) e)).inside)))

  pub not_other : get_or text (from + k) 0 ≢ line_end → false ≡ is_at (from + k) (end_from text from)
  not_other h =
      sym (false_unless _ (λ e. h (end_from_at text from (from + k) (is_at_true (from + k) (end_from text from) e)).ends))

  -- it does if there is no end before
  pub none_before_is : from + k < length text → get_or text (from + k) 0 ≡ line_end → is_none (end_from (take (from + k - from) (drop from text)) 0) ≡ is_at (from + k) (end_from text from)
  none_before_is h g =
      let part = take (from + k - from) (drop from text) in
      either (is_none (end_from part 0))
      (λ e.
      let f : end_from text from ≡ Some (from + k) = end_from_behind text from k (omega arith) (is_none_endless part e) h g in
      rw (e, f) (sym (eq-eqb (from + k) (from + k) refl)))
      (λ e.
      e
      ∙ sym
      (false_unless (is_at (from + k) (end_from text from))
      (λ q. cc (endless_none part (part_endless (end_from_at text from (from + k) (is_at_true (from + k) (end_from text from) q)))))))
    where
      part_endless : FirstEnd text from (from + k) → Endless (take (from + k - from) (drop from text))
      part_endless f j l q =
          let n = length-take (from + k - from) (drop from text) in
          f.none_before (from + j) (omega arith) (omega arith)
          (sym (get_or-drop from text j 0) ∙ sym (get_or-take (from + k - from) (drop from text) j 0 (omega arith)) ∙ q)

-- parts of 16 bytes that end no line
abbrev pub endless_parts : ℕ → List ℕ → ℕ
endless_parts n text = prefix_len (λ part. is_none (end_from part 0)) (first_chunks 16 n text)

pub parts_past : (n : ℕ) (text : List ℕ) → n * 16 ≤ length text → end_from text (16 * endless_parts n text) ≡ end_from text 0
parts_past zero text h = refl
parts_past (suc n) text h =
    either (is_none (end_from (take 16 text) 0))
    (λ e.
    let d = length-drop 16 text in
    let q : 16 * (1 + endless_parts n (drop 16 text)) ≡ 16 + 16 * endless_parts n (drop 16 text) = omega arith in
    rw (e, q, end_from_drop text 16 (16 * endless_parts n (drop 16 text)) (omega arith), parts_past n (drop 16 text) (omega arith))
    (sym (end_from_drop text 16 0 (omega arith)) ∙ end_from_past text 0 16 (omega arith) (is_none_endless (take 16 text) e)))
    (λ e. rw e)
