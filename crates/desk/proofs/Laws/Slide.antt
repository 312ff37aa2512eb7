-- Laws of specs/Slide. To cite: `kept_found`, `slide_number`, `all_wide`, `slide_says`. Assumes nothing.
use Rattle.std.proofs.Common.{Some, None, Ok, Err, Option, Result, ◌^◌}
use mathlib.Core.Path.{◌≡◌, refl, sym, ap, subst, ◌∙◌}
use mathlib.Core.Bool.{Bool, true, false, cond}
use mathlib.Core.List.{List, [], ◌∷◌, ◌++◌, append_assoc}
use mathlib.Core.Logic.{◌≢◌}
use Prim.Native.Nat.{ℕ, ◌+◌, ◌≤◌, ◌<◌}
use native.Mathlib.Omega.{arith}
use borrow.Author.Tests.{eqb-true}
use lib.Dec.{eqb, lit<}
use lib.ListN.{length, take, drop, get_or, length-append}
use lib.Seq.{take_all, take_at, drop_at, take-suc, length-take-le, get_or-append_seam}
use Rattle.common.proofs.Tests.{either, and_halves}
use Rattle.common.proofs.Checks.{check_passes}
use Rattle.calendar.specs.Gregorian.{in_range}
use Rattle.calendar.specs.Target.{kept}
use Rattle.calendar.specs.declared.KeptDate.{KeptDate}
use Rattle.calendar.proofs.Laws.Gregorian.{range_facts}
use Rattle.calendar.proofs.Laws.Promises.{kept_due_lem, slide_limit_lem}
use Rattle.digits.specs.Field.{blank, field_bytes, read_field, field_at, pasted, put_at}
use Rattle.digits.proofs.Laws.Field.{length_signed_field, read_field_field_bytes, field_bytes_read_field, read_field_narrow}
use Rattle.digits.proofs.Laws.Buffer.{written_none, written_field}
use Rattle.lines.specs.Line.{line_end}
use Rattle.refusals.specs.Refusals.{answer_number}
use Rattle.refusals.specs.declared.Refusal.{Refusal}
use Rattle.refusals.specs.declared.Refusal.TheVariants.{BadLine, BadField}
use Rattle.refusals.proofs.Laws.Refusals.{number_of_most}
use Rattle.desk.specs.Answering.{AllWide}
use Rattle.desk.specs.Slide.{value_or, slide, is_question, requested, slide_of, said_of, asked, shown, slide_said, slide_answer_length}
use Rattle.desk.specs.Promises.{Says, question_of, SlideSays}
use Rattle.desk.proofs.Laws.Lines.{length_numbered}

-- ---- the answer to a requested date

-- every date of the range has a kept due date
pub kept_found : (x : ℕ) → in_range x ≡ true → (answer : KeptDate) × (kept x ≡ Some answer)
kept_found x h =
    let s = slide_limit_lem.every_date x (range_facts x h).is_date_lem in
    (s.answer, s.is)

pub slide_number : (x : ℕ) (a : Result KeptDate Refusal) → a ≡ slide x → answer_number a ≡ cond (in_range x) 0 5
unfolding slide
slide_number x a e =
    either (in_range x)
    (λ h. let f = kept_found x h in rw (e, h, f.1))
    (λ h. rw (e, h))

-- ---- what is said

said_length : (a : Result KeptDate Refusal) → length (said_of a) ≡ 14
said_length a = simp (length-append, length_signed_field)

pub said_written : (a : Result KeptDate Refusal) (at number date days : ℕ) (line out x y z : List ℕ)
    → at + length (slide_said line) ≤ length out
    → a ≡ asked line
    → number ≡ answer_number a
    → date ≡ (shown a).date
    → days ≡ (shown a).slid.0
    → x ≡ put_at at 3 blank number out
    → y ≡ put_at (at + 3) 9 blank date x
    → z ≡ put_at (at + 12) 2 blank days y
    → z ≡ pasted at (slide_said line) out
unfolding slide_said
said_written a at number date days line out x y z h e p q t u v w =
    let n = said_length (asked line) in
    let f = written_field at out [] at out (written_none at out) 3 blank number x (at + 3) refl (omega arith) u in
    let g = written_field at out _ (at + 3) x f 9 blank date y (at + 12) (omega arith) (omega arith) v in
    let i = written_field at out _ (at + 12) y g 2 blank days z (at + 14) (omega arith) (omega arith) w in
    let m : number ≡ answer_number (asked line) = p ∙ ap answer_number e in
    let k : date ≡ (shown (asked line)).date = q ∙ ap (λ (b : Result KeptDate Refusal). (shown b).date) e in
    let l : days ≡ (shown (asked line)).slid.0 = t ∙ ap (λ (b : Result KeptDate Refusal). (shown b).slid.0) e in
    rw (← m, ← k, ← l) i.bytes

-- each answer has 21 bytes
pub all_wide : AllWide slide_answer_length slide_said
unfolding slide_said
all_wide = record { each = λ number line. length_numbered number (slide_said line) ∙ ap (λ (n : ℕ). n + 7) (said_length (asked line)) }

-- ---- no field cuts a number off

record ReadBack (a : Result KeptDate Refusal) (said : List ℕ) : Type 0 where
  answer : read_field (take 3 said) ≡ Some (answer_number a)
  date : read_field (take 9 (drop 3 said)) ≡ Some (shown a).date
  days : read_field (take 2 (drop 12 said)) ≡ Some (shown a).slid.0

record Fits (a : Result KeptDate Refusal) : Type 0 where
  number : answer_number a < 10 ^ 3
  date : (shown a).date < 10 ^ 9
  days : (shown a).slid.0 < 10 ^ 2

refused_fits : (r : Refusal) → Fits (Err r)
refused_fits r = record { number = omega (arith, number_of_most r); date = lit< tt; days = lit< tt }

answered_fits : (x : ℕ) (answer : KeptDate) → in_range x ≡ true → kept x ≡ Some answer → Fits (Ok answer)
answered_fits x answer h e =
    let s = slide_limit_lem.every_date x (range_facts x h).is_date_lem in
    let k = kept_due_lem x h in
    let same : answer ≡ s.answer = let q : Some answer ≡ Some s.answer = sym e ∙ s.is in cc in
    let date : s.answer.date ≡ k.date = let q : Some s.answer.date ≡ Some k.date = sym s.first ∙ k.is in cc in
    let most = (range_facts k.date k.in_range_lem).to in
    let limit = s.limit in
    record {
      number = lit< tt;
      date = omega (arith, ap (λ (a : KeptDate). a.date) same, date, most);
      days = omega (arith, ap (λ (a : KeptDate). a.slid.0) same, limit);
    }

slide_fits : (x : ℕ) → Fits (slide x)
unfolding slide
slide_fits x =
    either (in_range x)
    (λ h. let f = kept_found x h in rw (h, f.1) (answered_fits x f.0 h f.1))
    (λ h. rw h (refused_fits BadField))

asked_fits : (r : Result ℕ Refusal) → Fits (slide_of r)
asked_fits (Ok x) = slide_fits x
asked_fits (Err r) = refused_fits r

read_back : (a : Result KeptDate Refusal) → Fits a → ReadBack a (said_of a)
read_back a f =
    let x = field_bytes 3 (answer_number a) in
    let y = field_bytes 9 (shown a).date in
    let z = field_bytes 2 (shown a).slid.0 in
    let m = length_signed_field 3 blank (answer_number a) in
    let n = length_signed_field 9 blank (shown a).date in
    record {
      answer =
          ap (λ (l : List ℕ). read_field (take 3 l)) (append_assoc x y z)
          ∙ ap read_field (take_at x (y ++ z) 3 m)
          ∙ read_field_field_bytes 3 (answer_number a) (lit< tt) f.number;
      date =
          ap (λ (l : List ℕ). read_field (take 9 (drop 3 l))) (append_assoc x y z)
          ∙ ap (λ (l : List ℕ). read_field (take 9 l)) (drop_at x (y ++ z) 3 m)
          ∙ ap read_field (take_at y z 9 n)
          ∙ read_field_field_bytes 9 (shown a).date (lit< tt) f.date;
      days =
          ap (λ (l : List ℕ). read_field (take 2 l)) (drop_at (x ++ y) z 12 (omega (arith, length-append x y, m, n)))
          ∙ ap read_field (take_all 2 z (omega (arith, length_signed_field 2 blank (shown a).slid.0)))
          ∙ read_field_field_bytes 2 (shown a).slid.0 (lit< tt) f.days;
    }

-- what is said to a line is what it asks for
says : (line : List ℕ) (a : Result KeptDate Refusal) → asked line ≡ a → Says line (answer_number a) (shown a).date (shown a).slid.0
unfolding slide_said
says line a e =
    let r = read_back (asked line) (asked_fits (requested line)) in
    record {
      answer_read = r.answer ∙ ap (λ (b : Result KeptDate Refusal). Some (answer_number b)) e;
      date_read = r.date ∙ ap (λ (b : Result KeptDate Refusal). Some (shown b).date) e;
      days_read = r.days ∙ ap (λ (b : Result KeptDate Refusal). Some (shown b).slid.0) e;
      long = said_length (asked line);
    }

-- ---- what the line of a number asks for

module _ (x : ℕ) (h : x < 10 ^ 9) where
  nine : length (field_bytes 9 x) ≡ 9
  nine = length_signed_field 9 blank x

  ten : length (question_of x) ≡ 10
  ten = length-append (field_bytes 9 x) (line_end ∷ []) ∙ ap (λ (n : ℕ). n + 1) nine

  its_end : get_or (question_of x) 9 0 ≡ line_end
  its_end = ap (λ (n : ℕ). get_or (question_of x) n 0) (sym nine) ∙ get_or-append_seam (field_bytes 9 x) line_end [] 0

  its_field : field_at 0 9 (question_of x) ≡ Some x
  unfolding field_at
  its_field =
      rw ten
      (ap read_field (take_at (field_bytes 9 x) (line_end ∷ []) 9 nine) ∙ read_field_field_bytes 9 x (lit< tt) h)

  its_request : requested (question_of x) ≡ Ok x
  unfolding requested
  its_request = rw (ten, its_end, its_field)

  its_answer : asked (question_of x) ≡ slide x
  its_answer = ap slide_of its_request

-- ---- a line that asks for a number is the line of that number

value_found : {A : Type 0} (r : Refusal) (o : Option A) (x : A) → value_or r o ≡ Ok x → o ≡ Some x
value_found r (Some y) x e = cc
value_found r None x e = absurd cc

only_its : (line : List ℕ) (x : ℕ) → requested line ≡ Ok x → (x < 10 ^ 9) × (line ≡ question_of x)
unfolding requested field_at
only_its line x e =
    let p = check_passes (is_question line) (value_or BadLine (field_at 0 9 line)) (Err BadLine) refl e in
    let q = and_halves (eqb (length line) 10) p.0 in
    let l : length line ≡ 10 = eqb-true (length line) 10 q.0 in
    let b : get_or line 9 0 ≡ line_end = eqb-true (get_or line 9 0) line_end q.1 in
    let f : read_field (take 9 line) ≡ Some x = rw l at (value_found BadLine (field_at 0 9 line) x p.1) in
    let m : length (take 9 line) ≡ 9 = length-take-le 9 line (omega arith) in
    let front : take 9 line ≡ field_bytes 9 x = sym (field_bytes_read_field (take 9 line) x f) ∙ ap (λ (n : ℕ). field_bytes n x) m in (
      subst (λ (n : ℕ). x < 10 ^ n) m (read_field_narrow (take 9 line) x f),
      sym (take_all 10 line (omega arith))
          ∙ take-suc line 9 0 (omega arith)
          ∙ ap (λ (c : ℕ). take 9 line ++ (c ∷ [])) b
          ∙ ap (λ (c : List ℕ). c ++ (line_end ∷ [])) front,
    )

-- a line of another shape is refused by 1
bad_line : (b : Bool) (o : Option ℕ) (r : Refusal) → cond b (value_or BadLine o) (Err BadLine) ≡ Err r → r ≡ BadLine
bad_line true (Some x) r e = absurd cc
bad_line true None r e = cc
bad_line false o r e = cc

only_bad : (line : List ℕ) (r : Refusal) → requested line ≡ Err r → r ≡ BadLine
unfolding requested
only_bad line r e = bad_line (is_question line) (field_at 0 9 line) r e

by_request : (line : List ℕ) → ((x : ℕ) → x < 10 ^ 9 → line ≢ question_of x) → (r : Result ℕ Refusal) → requested line ≡ r → Says line 1 0 0
by_request line n (Ok x) e = let o = only_its line x e in absurd (n x o.0 o.1)
by_request line n (Err r) e = says line (Err BadLine) (ap slide_of e ∙ ap (λ (f : Refusal). Err f) (only_bad line r e))

slide_found : (x : ℕ) → in_range x ≡ true → (answer : KeptDate) → kept x ≡ Some answer → slide x ≡ Ok answer
unfolding slide
slide_found x h answer e = rw (h, e)

slide_outside : (x : ℕ) → in_range x ≡ false → slide x ≡ Err BadField
unfolding slide
slide_outside x h = rw h

pub slide_says : SlideSays
slide_says = record {
  to_date = λ x h.
      let r = range_facts x h in
      let s = slide_limit_lem.every_date x r.is_date_lem in
      let a : slide x ≡ Ok s.answer = slide_found x h s.answer s.is in
      record {
        due = s.answer.date;
        days = s.answer.slid.0;
        is_due = s.first;
        counted = s.counted;
        says = says (question_of x) (Ok s.answer) (its_answer x (omega (arith, r.to)) ∙ a);
      };
  to_number = λ x l h. says (question_of x) (Err BadField) (its_answer x l ∙ slide_outside x h);
  to_bytes = λ line n. by_request line n (requested line) refl;
}
