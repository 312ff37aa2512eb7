-- An input in pieces, specs/Promises. To cite: `two_at_once` for two pieces, `in_pieces` and `slide_in_pieces` for any number. Assumes nothing.
use Rattle.std.specs.List.{concat}
use Rattle.std.proofs.lemmas.List.{drop-append-le}
use Rattle.std.proofs.lemmas.List.Folds.{concat-append}
use Rattle.std.proofs.Common.{Result, Err}
use mathlib.Core.Path.{◌≡◌, refl, sym, ap, ◌∙◌, subst}
use mathlib.Core.Bool.{true, false}
use mathlib.Core.List.{List, [], ◌∷◌, ◌++◌, append_assoc, append-nil}
use Prim.Native.Nat.{ℕ, zero, suc, ◌+◌, ◌-◌, ◌≤◌, ◌<◌}
use native.Mathlib.Omega.{arith}
use native.Mathlib.Nat.{add-zero, add_assoc}
use borrow.Author.Tests.{ne_eqb, leb-true, leb-false, ltb-true}
use lib.Dec.{eqb, leb, ltb}
use lib.ListN.{length, take, drop, length-append, length-take, take-append-drop}
use lib.Seq.{take-nil, take_all, take-append-le, take-append-add, take-take, length-take-le, get_or-take}
use lib.Seq.{drop-append_seam, drop-append-add, drop-drop}
use Rattle.common.proofs.Tests.{either}
use Rattle.refusals.specs.declared.Refusal.{Refusal}
use Rattle.refusals.specs.declared.Refusal.TheVariants.{BadLine}
use Rattle.lines.specs.Line.{line_end}
use Rattle.report.specs.Cut.{lines_from, last_from, answered_lines}
use Rattle.report.specs.Layout.{last_number}
use Rattle.report.proofs.Laws.Cut.{Endless}
use Rattle.report.proofs.Laws.Lines.{last_endless, lines_append, lines_partial, all_bytes, answered_none}
use Rattle.desk.specs.Lines.{rest_behind, numbered, lines_output, kept_rest, output_of}
use Rattle.desk.specs.Slide.{slide_line_length, requested, slide_of, said_of, slide_said}
use Rattle.desk.specs.Promises.{Stage, stage_at, take_piece, piece_output, take_pieces, pieces_output, SameAtOnce, LongAlike, InPieces, SlideInPieces}

-- ---- a text in two parts: the second begins behind the lines that are answered in the first

-- for any last number: with the literal of the program the tactics run out of stack
module _ (last n : ℕ) (ls ms : List (List ℕ)) where
  few_split : length ls ≤ last - n → take (last - n) (ls ++ ms) ≡ ls ++ take (last - (n + length ls)) ms
  few_split h =
      let q : last - n ≡ length ls + (last - (n + length ls)) = omega arith in
      ap (λ (k : ℕ). take k (ls ++ ms)) q ∙ take-append-add ls ms (last - (n + length ls))

  none_left : last - n ≤ length ls → last - (n + length (take (last - n) ls)) ≡ 0
  none_left h = let q = length-take-le (last - n) ls h in omega arith

front_short : (k : ℕ) (x : List ℕ) → length (concat (take k (lines_from [] x))) ≤ length x
front_short k x =
    let ls = lines_from [] x in
    let s : concat ls ≡ concat (take k ls) ++ concat (drop k ls) = ap concat (sym (take-append-drop k ls)) ∙ concat-append (take k ls) (drop k ls) in
    let a = length-append (concat (take k ls)) (concat (drop k ls)) in
    let b = length-append (concat ls) (last_from [] x) in
    omega (arith, ap length s, ap length (all_bytes x []))

module _ (n : ℕ) (x : List ℕ) where
  abbrev answered : List (List ℕ)
  answered = answered_lines n x

  -- the lines answered then
  abbrev so_many : ℕ
  so_many = n + length answered

  abbrev rest : List ℕ
  rest = rest_behind n x

  abbrev lines : List (List ℕ)
  lines = lines_from [] x

  abbrev last : List ℕ
  last = last_from [] x

  last_is_endless : Endless last
  last_is_endless = last_endless x [] (λ j h. absurd (omega arith))

  -- all lines are answered
  few_lines : length lines ≤ last_number - n → answered ≡ lines
  unfolding answered_lines
  few_lines h = take_all (last_number - n) lines h

  few_rest : length lines ≤ last_number - n → rest ≡ last
  unfolding rest_behind
  few_rest h =
      ap (λ (ls : List (List ℕ)). drop (length (concat ls)) x) (few_lines h)
      ∙ ap (drop (length (concat lines))) (sym (all_bytes x []))
      ∙ drop-append_seam (concat lines) last

  -- the rest holds no end of a line while fewer than 999,999 were answered
  rest_line : ltb so_many last_number ≡ true → Endless rest
  unfolding answered_lines
  rest_line e =
      either (leb (length lines) (last_number - n))
      (λ t. subst Endless (sym (few_rest (leb-true _ _ t))) last_is_endless)
      (λ t. absurd (not_less last_number n lines (leb-false _ _ t) (ltb-true _ _ e)))
    where
      not_less : (l k : ℕ) (ls : List (List ℕ)) → l - k < length ls → k + length (take (l - k) ls) < l → ⊥
      not_less l k ls h q = let z = none_left l k ls [] (omega arith) in omega arith

  module _ (y : List ℕ) where
    few_answered : length lines ≤ last_number - n → answered_lines n (x ++ y) ≡ answered ++ answered_lines so_many (rest ++ y)
    unfolding answered_lines
    few_answered h =
        ap (take (last_number - n)) (lines_append x [] y)
        ∙ few_split last_number n lines (lines_from last y) h
        ∙ ap (λ (z : List (List ℕ)). lines ++ take (last_number - (n + length lines)) z) (sym (lines_partial last [] y last_is_endless))
        ∙ ap (λ (z : List ℕ). lines ++ answered_lines (n + length lines) (z ++ y)) (sym (few_rest h))
        ∙ ap (λ (ls : List (List ℕ)). ls ++ answered_lines (n + length ls) (rest ++ y)) (sym (few_lines h))

    many_answered : last_number - n ≤ length lines → answered_lines n (x ++ y) ≡ answered ++ answered_lines so_many (rest ++ y)
    unfolding answered_lines
    many_answered h =
        ap (take (last_number - n)) (lines_append x [] y)
        ∙ take-append-le (last_number - n) lines (lines_from last y) h
        ∙ sym (append-nil answered)
        ∙ ap (λ (k : ℕ). answered ++ take k (lines_from [] (rest ++ y))) (sym (none_left last_number n lines [] h))

    two_answered : answered_lines n (x ++ y) ≡ answered ++ answered_lines so_many (rest ++ y)
    two_answered =
        either (leb (length lines) (last_number - n))
        (λ t. few_answered (leb-true _ _ t))
        (λ t. many_answered (less_equal (leb-false _ _ t)))
      where
        less_equal : {a b : ℕ} → a < b → a ≤ b
        less_equal h = omega arith

    two_rest : rest_behind n (x ++ y) ≡ rest_behind so_many (rest ++ y)
    unfolding rest_behind answered_lines
    two_rest =
        let more = answered_lines so_many (rest ++ y) in
        ap (λ (ls : List (List ℕ)). drop (length (concat ls)) (x ++ y)) two_answered
        ∙ ap (λ (j : ℕ). drop j (x ++ y)) (ap length (concat-append answered more) ∙ length-append (concat answered) (concat more))
        ∙ sym (drop-drop (length (concat more)) (length (concat answered)) (x ++ y))
        ∙ ap (drop (length (concat more))) (drop-append-le (length (concat answered)) x y (front_short (last_number - n) x))

-- what is written to lines behind others
output_append :
    (said : List ℕ → List ℕ) (ls ms : List (List ℕ)) (n : ℕ)
    → lines_output said n (ls ++ ms) ≡ lines_output said n ls ++ lines_output said (n + length ls) ms
unfolding lines_output
output_append said [] ms n = ap (λ (k : ℕ). lines_output said k ms) (sym (add-zero n))
output_append said (l ∷ ls) ms n =
    let e : n + 1 + length ls ≡ n + length (l ∷ ls) = omega arith in
    let here = numbered (n + 1) (said l) in
    ap (λ (z : List ℕ). here ++ z) (output_append said ls ms (n + 1) ∙ ap (λ (k : ℕ). lines_output said (n + 1) ls ++ lines_output said k ms) e)
    ∙ sym (append_assoc here (lines_output said (n + 1) ls) (lines_output said (n + length (l ∷ ls)) ms))

-- ---- a rest that is clipped is answered as the whole rest is

module _ (long : ℕ) (said : List ℕ → List ℕ) (alike : LongAlike long said) where
  -- m lines of a text behind p, and of the same behind q
  record Alike (n m : ℕ) (p q y : List ℕ) : Type 0 where
    count : length (take m (lines_from p y)) ≡ length (take m (lines_from q y))
    bytes : lines_output said n (take m (lines_from p y)) ≡ lines_output said n (take m (lines_from q y))
    kept :
        take long (drop (length (concat (take m (lines_from p y)))) (p ++ y))
        ≡ take long (drop (length (concat (take m (lines_from q y)))) (q ++ y))

  behind_line : (l c y : List ℕ) → drop (length (l ++ c)) (l ++ y) ≡ drop (length c) y
  behind_line l c y = ap (λ (k : ℕ). drop k (l ++ y)) (length-append l c) ∙ drop-append-add l y (length c)

  -- long enough fronts of which as much is the same as is kept
  record Fronts (p q : List ℕ) : Type 0 where
    first : long ≤ length p
    second : long ≤ length q
    same : take long p ≡ take long q

  fronts_more : (p q y z : List ℕ) → Fronts p q → take long (p ++ y) ≡ take long (q ++ z)
  fronts_more p q y z f = take-append-le long p y f.first ∙ f.same ∙ sym (take-append-le long q z f.second)

  alike_end : (m n b : ℕ) (y p q : List ℕ) → Fronts p q → eqb b line_end ≡ true → Alike n m p q (b ∷ y)
  unfolding lines_from lines_output
  alike_end zero n b y p q f t = record { count = refl; bytes = refl; kept = fronts_more p q (b ∷ y) (b ∷ y) f }
  alike_end (suc m) n b y p q f t =
      let e = b ∷ [] in
      let more = take m (lines_from [] y) in
      let s = alike (p ++ e) (q ++ e) (omega (arith, f.first, length-append p e)) (omega (arith, f.second, length-append q e)) in
      let left : (l : List ℕ) → drop (length ((l ++ e) ++ concat more)) (l ++ (b ∷ y)) ≡ drop (length (concat more)) y =
      λ l. ap (drop (length ((l ++ e) ++ concat more))) (sym (append_assoc l e y)) ∙ behind_line (l ++ e) (concat more) y in
      record {
        count = rw t refl;
        bytes = rw t (ap (λ (x : List ℕ). numbered (n + 1) x ++ lines_output said (n + 1) more) s);
        kept = rw t (ap (take long) (left p ∙ sym (left q)));
      }

  alike_by : (y p q : List ℕ) (n m : ℕ) → Fronts p q → Alike n m p q y
  unfolding lines_from
  alike_by [] p q n m f =
      record {
        count = refl;
        bytes = refl;
        kept = rw (take-nil {A = List ℕ} m) (fronts_more p q [] [] f);
      }
  alike_by (b ∷ y) p q n m f =
      either (eqb b line_end)
      (λ t. alike_end m n b y p q f t)
      (λ t.
      let e = b ∷ [] in
      let g : Fronts (p ++ e) (q ++ e) =
      record {
        first = omega (arith, f.first, length-append p e);
        second = omega (arith, f.second, length-append q e);
        same = fronts_more p q e e f;
      } in
      let a = alike_by y (p ++ e) (q ++ e) n m g in
      record {
        count = rw t a.count;
        bytes = rw t a.bytes;
        kept = rw t (rw (append_assoc p e y, append_assoc q e y) at a.kept);
      })

  -- the rest of a text and what is kept of it, before a second part
  module _ (n : ℕ) (x y : List ℕ) where
    record KeptAlike (r : List ℕ) : Type 0 where
      count : length (answered_lines (so_many n x) (rest n x ++ y)) ≡ length (answered_lines (so_many n x) (r ++ y))
      bytes : output_of said (so_many n x) (rest n x ++ y) ≡ output_of said (so_many n x) (r ++ y)
      kept : kept_rest long (so_many n x) (rest n x ++ y) ≡ kept_rest long (so_many n x) (r ++ y)

    abbrev clipped : List ℕ
    clipped = take long (rest n x)

    fronts : long < length (rest n x) → Fronts (rest n x) clipped
    fronts h =
        record {
          first = omega arith;
          second = omega (arith, length-take-le long (rest n x) (omega arith));
          same = sym (take-take long long (rest n x) (omega arith));
        }

    -- the rest is a line that is too long
    alike_line : long < length (rest n x) → ltb (so_many n x) last_number ≡ true → KeptAlike clipped
    unfolding answered_lines rest_behind
    alike_line h e =
        let r = rest n x in
        let k = so_many n x in
        let a = alike_by y r clipped k (last_number - k) (fronts h) in
        let whole : lines_from [] (r ++ y) ≡ lines_from r y = lines_partial r [] y (rest_line n x e) in
        let line : Endless clipped =
        λ j l q. let m = length-take long r in rest_line n x e j (omega arith) (sym (get_or-take long r j 0 (omega arith)) ∙ q) in
        let part : lines_from [] (clipped ++ y) ≡ lines_from clipped y = lines_partial clipped [] y line in
        record {
          count = rw (whole, part) a.count;
          bytes = rw (whole, part) a.bytes;
          kept = rw (whole, part) a.kept;
        }

    -- no line is answered any more
    alike_last : long < length (rest n x) → ltb (so_many n x) last_number ≡ false → KeptAlike clipped
    unfolding answered_lines rest_behind
    alike_last h e =
        let none : (z : List ℕ) → answered_lines (so_many n x) z ≡ [] = λ z. answered_none (so_many n x) (lines_from [] z) e in
        record {
          count = rw (none (rest n x ++ y), none (clipped ++ y)) refl;
          bytes = rw (none (rest n x ++ y), none (clipped ++ y)) refl;
          kept = rw (none (rest n x ++ y), none (clipped ++ y)) (fronts_more (rest n x) clipped y y (fronts h));
        }

    kept_alike : KeptAlike clipped
    kept_alike =
        either (leb (length (rest n x)) long)
        (λ t. subst KeptAlike (sym (take_all long (rest n x) (leb-true _ _ t))) (record { count = refl; bytes = refl; kept = refl }))
        (λ t.
        either (ltb (so_many n x) last_number)
        (λ e. alike_line (leb-false _ _ t) e)
        (λ e. alike_last (leb-false _ _ t) e))

-- ---- two pieces

pub stage_of : {k m : ℕ} {x y : List ℕ} → k ≡ m → x ≡ y → ◌≡◌ {A = Stage} (record { lines = k; rest = x }) (record { lines = m; rest = y })
stage_of p q = cc

abbrev pub after : ℕ → ℕ → List ℕ → Stage
after long n x = take_piece long (stage_at n) x

pub record TwoAtOnce (long : ℕ) (said : List ℕ → List ℕ) (n : ℕ) (first second : List ℕ) : Type 0 where
  pub after_is : after long n (first ++ second) ≡ take_piece long (after long n first) second
  pub written : output_of said n (first ++ second) ≡ output_of said n first ++ piece_output said (after long n first) second

module _ (long : ℕ) (said : List ℕ → List ℕ) (alike : LongAlike long said) (n : ℕ) where
  pub two_at_once : (first second : List ℕ) → TwoAtOnce long said n first second
  two_at_once first second =
      let x = answered_lines n first in
      let more = answered_lines (so_many n first) (rest n first ++ second) in
      let q = two_answered n first second in
      let a = kept_alike long said alike n first second in
      record {
        after_is =
            stage_of
            (ap (λ (ls : List (List ℕ)). n + length ls) q
            ∙ ap (λ (k : ℕ). n + k) (length-append x more)
            ∙ sym (add_assoc n (length x) (length more))
            ∙ ap (λ (k : ℕ). n + length x + k) a.count)
            (ap (take long) (two_rest n first second) ∙ a.kept);
        written =
            ap (lines_output said n) q
            ∙ output_append said x more n
            ∙ ap (λ (z : List ℕ). output_of said n first ++ z) a.bytes;
      }

  -- ---- any number of pieces, behind a text that was answered before

  pieces_after : (pieces : List (List ℕ)) (x : List ℕ) → take_pieces long (after long n x) pieces ≡ after long n (x ++ concat pieces)
  unfolding take_pieces
  pieces_after [] x = ap (after long n) (sym (append-nil x))
  pieces_after (piece ∷ more) x =
      ap (λ (s : Stage). take_pieces long s more) (sym (two_at_once x piece).after_is)
      ∙ pieces_after more (x ++ piece)
      ∙ ap (after long n) (append_assoc x piece (concat more))

  pieces_written :
      (pieces : List (List ℕ)) (x : List ℕ)
      → output_of said n x ++ pieces_output long said (after long n x) pieces ≡ output_of said n (x ++ concat pieces)
  unfolding pieces_output
  pieces_written [] x = append-nil (output_of said n x) ∙ ap (output_of said n) (sym (append-nil x))
  pieces_written (piece ∷ more) x =
      let here = piece_output said (after long n x) piece in
      sym (append_assoc (output_of said n x) here (pieces_output long said (take_piece long (after long n x) piece) more))
      ∙ ap (λ (z : List ℕ). z ++ pieces_output long said (take_piece long (after long n x) piece) more) (sym (two_at_once x piece).written)
      ∙ ap (λ (s : Stage). output_of said n (x ++ piece) ++ pieces_output long said s more) (sym (two_at_once x piece).after_is)
      ∙ pieces_written more (x ++ piece)
      ∙ ap (output_of said n) (append_assoc x piece (concat more))

  -- no text answers no line, and leaves no rest
  none_answered : answered_lines n [] ≡ []
  unfolding answered_lines lines_from
  none_answered = take-nil {A = List ℕ} (last_number - n)

  pub after_none : after long n [] ≡ stage_at n
  unfolding rest_behind
  after_none =
      stage_of
      (ap (λ (ls : List (List ℕ)). n + length ls) none_answered ∙ add-zero n)
      (ap (λ (ls : List (List ℕ)). take long (drop (length (concat ls)) [])) none_answered ∙ take-nil {A = ℕ} long)

  pub written_none : output_of said n [] ≡ []
  unfolding lines_output
  written_none = ap (lines_output said n) none_answered

  pub same_at_once : (pieces : List (List ℕ)) → SameAtOnce long said n pieces
  same_at_once pieces =
      record {
        after = ap (λ (s : Stage). take_pieces long s pieces) (sym after_none) ∙ pieces_after pieces [];
        written =
            ap (λ (s : Stage). pieces_output long said s pieces) (sym after_none)
            ∙ ap (λ (z : List ℕ). z ++ pieces_output long said (after long n []) pieces) (sym written_none)
            ∙ pieces_written pieces [];
      }

pub in_pieces : InPieces
in_pieces long said alike n pieces = same_at_once long said alike n pieces

-- ---- the kept due date

pub slide_long_alike : LongAlike slide_line_length slide_said
unfolding slide_said requested
slide_long_alike x y h k = ap (λ (a : Result ℕ Refusal). said_of (slide_of a)) (no_line x h ∙ sym (no_line y k))
  where
    no_line : (z : List ℕ) → slide_line_length < length z → requested z ≡ Err BadLine
    no_line z l = let e : eqb (length z) slide_line_length ≡ false = ne_eqb (length z) slide_line_length (λ q. omega arith) in rw e

pub slide_in_pieces : SlideInPieces
slide_in_pieces n pieces = same_at_once slide_line_length slide_said slide_long_alike n pieces
