-- Laws of specs/Past: the lines of a text counted byte by byte. To cite: `Counted` with `count_step`, `count_end`; `few_bytes`;
-- `past_next`; `past_holds`. Assumes nothing.
use Rattle.std.specs.List.{count_by}
use Rattle.std.proofs.lemmas.List.{drop_all}
use Rattle.std.proofs.lemmas.List.Recursion.{is_count_by}
use Rattle.std.proofs.lemmas.List.Sums.{count_by-le-length, sum_by-append, sum_by-drop_more}
use mathlib.Core.Path.{◌≡◌, refl, sym, ap, ◌∙◌}
use mathlib.Core.Bool.{Bool, true, false, cond}
use mathlib.Core.List.{List, [], ◌∷◌, ◌++◌}
use Prim.Native.Nat.{ℕ, suc, ◌+◌, ◌-◌, ◌≤◌, ◌<◌}
use native.Mathlib.Nat.{zero-add}
use native.Mathlib.Omega.{arith}
use borrow.Author.Tests.{ne_eqb}
use lib.Dec.{eqb, ltb}
use lib.ListN.{length, take, drop, get_or, length-take, length-drop}
use Rattle.lines.specs.Line.{line_end}
use Rattle.report.specs.Cut.{lines_from, answered_lines}
use Rattle.report.specs.Layout.{last_number}
use Rattle.report.proofs.Laws.Cut.{Endless}
use Rattle.run.specs.Run.{end_lines}
use Rattle.listing.specs.Past.{lines_past, goes_past, PastHolds}

abbrev line_count : List ℕ → ℕ
line_count text = length (lines_from [] text)

-- how many lines end does not depend on the bytes before
count_any : (text p : List ℕ) → length (lines_from p text) ≡ line_count text
unfolding lines_from
count_any [] p = refl
count_any (b ∷ bs) p = by_end (eqb b line_end) (λ q. count_any bs q)
  where
    by_end : (e : Bool)
        → ((q : List ℕ) → length (lines_from q bs) ≡ line_count bs)
        → length (cond e ((p ++ (b ∷ [])) ∷ lines_from [] bs) (lines_from (p ++ (b ∷ [])) bs)) ≡ length (cond e ((b ∷ []) ∷ lines_from [] bs) (lines_from (b ∷ []) bs))
    by_end true any = refl
    by_end false any = any (p ++ (b ∷ [])) ∙ sym (any (b ∷ []))

count_byte : (b : ℕ) (bs : List ℕ) → line_count (b ∷ bs) ≡ cond (eqb b line_end) (1 + line_count bs) (line_count bs)
unfolding lines_from
count_byte b bs = by_end (eqb b line_end)
  where
    by_end : (e : Bool) → length (cond e ((b ∷ []) ∷ lines_from [] bs) (lines_from (b ∷ []) bs)) ≡ cond e (1 + line_count bs) (line_count bs)
    by_end true = omega arith
    by_end false = count_any bs (b ∷ [])

-- it is the count of the bytes that end a line
abbrev ends : ℕ → Bool
ends b = eqb b line_end

count_is : (text : List ℕ) → line_count text ≡ count_by ends text
unfolding lines_from
count_is text = is_count_by line_count ends refl count_byte text

count_both : (a b : List ℕ) → line_count (a ++ b) ≡ line_count a + line_count b
count_both a b = rw (count_is (a ++ b), count_is a, count_is b) (sum_by-append (λ c. cond (ends c) 1 0) a b)

count_endless : (x : List ℕ) → Endless x → line_count x ≡ 0
unfolding lines_from
count_endless [] e = refl
count_endless (b ∷ bs) e =
    count_byte b bs ∙ rw (ne_eqb b line_end (e 0 (omega arith))) (count_endless bs (λ j h. e (suc j) (omega (arith, h))))

-- ---- the loop: n lines end before place i

pub record Counted (text : List ℕ) (n i : ℕ) : Type 0 where
  pub inside : i ≤ length text
  pub few : n ≤ i
  pub rest : n + line_count (drop i text) ≡ line_count text

pub count_step : (text : List ℕ) (n i r : ℕ) → Counted text n i → i < length text → r ≡ cond (eqb (get_or text i 0) line_end) 1 0 → Counted text (n + r) (i + 1)
count_step text n i r c h e =
    record {
      inside = omega (arith, h);
      few = let few = c.few in grind arith;
      rest = omega (arith, e, c.rest, count_is (drop i text), count_is (drop (i + 1) text), sum_by-drop_more (λ b. cond (ends b) 1 0) text i 0 h);
    }

pub count_end : (text : List ℕ) (n i : ℕ) → Counted text n i → length text ≤ i → n ≡ line_count text
unfolding lines_from
count_end text n i c h = omega (arith, c.rest, ap line_count (drop_all i text h))

-- ---- the lines past the last

past_is : (n : ℕ) (text : List ℕ) → lines_past n text ≡ line_count text - (last_number - n)
past_is n text = length-drop (last_number - n) (lines_from [] text)

module _ (n : ℕ) (text : List ℕ) (left : ℕ) (e : left ≡ last_number - n) where
  pub few_bytes : length text ≤ left → 0 ≡ lines_past n text
  few_bytes h = omega (arith, e, past_is n text, count_is text, count_by-le-length ends text)

-- ---- an input in two parts: all lines of the first are answered, and the second comes behind its partial line

-- for any last number: with the literal of the program the tactics run out of stack
whole_taken : (m : ℕ) (ls : List (List ℕ)) → length (drop m ls) ≡ 0 → length (take m ls) ≡ length ls
whole_taken m ls e = omega (arith, length-take m ls, length-drop m ls, e)

same_over : (last first n second : ℕ) → first - (last - 0) ≡ 0 → n ≡ first → second - (last - n) ≡ first + second - (last - 0)
same_over last first n second few e = omega (arith, few, e)

pub past_next :
    (first : List ℕ) → lines_past 0 first ≡ 0 → (n : ℕ) (partial second : List ℕ) → n ≡ length (answered_lines 0 first) → Endless partial
    → lines_past n (partial ++ second) ≡ lines_past 0 (first ++ second)
unfolding answered_lines
past_next first few n partial second e endless =
    past_is n (partial ++ second)
    ∙ ap (λ (k : ℕ). k - (last_number - n)) (count_both partial second ∙ rw (count_endless partial endless) (zero-add (line_count second)))
    ∙ same_over last_number (line_count first) n (line_count second) (sym (past_is 0 first) ∙ few)
    (e ∙ whole_taken (last_number - 0) (lines_from [] first) few)
    ∙ ap (λ (k : ℕ). k - (last_number - 0)) (sym (count_both first second))
    ∙ sym (past_is 0 (first ++ second))

-- ---- the lines that there are, and those that are answered

all_lines : (n : ℕ) (text : List ℕ) → length (answered_lines n text) + lines_past n text ≡ line_count text
unfolding answered_lines
all_lines n text = omega (arith, length-take (last_number - n) (lines_from [] text), length-drop (last_number - n) (lines_from [] text))

last_answered : (n : ℕ) (text : List ℕ) → 0 < lines_past n text → last_number ≤ n + length (answered_lines n text)
unfolding answered_lines
last_answered n text h =
    omega (arith, h, length-take (last_number - n) (lines_from [] text), length-drop (last_number - n) (lines_from [] text))

more_lines :
    (over lines partial : ℕ) → (0 < over → last_number ≤ lines)
    → goes_past over lines partial ≡ ltb (end_lines lines partial) (lines + over + cond (ltb 0 partial) 1 0)
more_lines over lines partial h = grind arith

pub past_holds : PastHolds
past_holds = record { all_lines = all_lines; last_answered = last_answered; more_lines = more_lines }
