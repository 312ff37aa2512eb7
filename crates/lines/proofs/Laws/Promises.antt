-- The promises of specs/Promises, proved: each theorem has the name of its statement. Assumes nothing.
use Rattle.std.proofs.Common.{Err, Ok, Result}
use mathlib.Core.Path.{◌≡◌, refl, sym, ◌∙◌, ap}
use mathlib.Core.Bool.{Bool, true, false, cond, ◌&&◌}
use mathlib.Core.List.{List, [], ◌∷◌, ◌++◌}
use Prim.Native.Nat.{ℕ, suc, ◌+◌, ◌≤◌}
use native.Mathlib.Omega.{arith}
use lib.Dec.{leb, eqb}
use lib.ListN.{length, take, drop, get_or, length-append, take-append-drop, drop_of_length-le}
use lib.Seq.{drop-cons, take_at, get_or_at}
use borrow.Author.Tests.{le-leb, eqb-true, eq-eqb}
use Rattle.common.proofs.Checks.{check_passes}
use Rattle.common.proofs.Tests.{and_halves, and_true}
use Rattle.calendar.specs.Gregorian.{in_range}
use Rattle.refusals.specs.declared.Refusal.{Refusal}
use Rattle.refusals.specs.Refusals.{answer_number}
use Rattle.refusals.specs.declared.Refusal.TheVariants.{BadLine, UnfitMemory, UnknownKind, BadDate, BadField}
use Rattle.events.specs.declared.Event.{Event}
use Rattle.events.specs.Limits.{within, kinds, fields_fit, checked}
use Rattle.lines.specs.Line.{widths, fields_of, event_of, columns, line_length, line_end, fields_bytes, line_of, Fields, Values, Unreadable, read_fields, answer_of, taken, read_line, write_answer, bytes_after}
use Rattle.common.specs.Tests.{among}
use Rattle.lines.specs.Promises.{LineHasItsLength, ReadsWhatWasWritten, WritesWhatWasRead, OnlyWithinIsTaken, EveryEventHasALine, NoEventHasTwoLines, NoLineHasTwoEvents, ReaderAnswers, WriterAnswers}
use Rattle.events.proofs.Laws.Limits.{checked_facts}
use Rattle.lines.proofs.Laws.Line.{length_fields_bytes, read_fields_fields_bytes, fields_bytes_read_fields, narrow_fields, fields_of_event_of}

length_columns : (e : Event) → length (fields_bytes widths (fields_of e)) ≡ columns
length_columns e = length_fields_bytes widths (fields_of e) refl

pub line_has_its_length : LineHasItsLength
unfolding line_of
line_has_its_length e =
    length-append (fields_bytes widths (fields_of e)) (line_end ∷ []) ∙ ap (λ (n : ℕ). n + 1) (length_columns e)

pub every_event_has_a_line : EveryEventHasALine
unfolding line_of read_line
every_event_has_a_line e h =
    let l : List ℕ = fields_bytes widths (fields_of e) ++ (line_end ∷ []) in
    let n : length l ≡ line_length = line_has_its_length e in
    let g : get_or l columns 0 ≡ line_end = get_or_at (fields_bytes widths (fields_of e)) line_end [] 0 columns (length_columns e) in
    let f : read_fields widths 0 l ≡ Values (fields_of e) =
    read_fields_fields_bytes widths (fields_of e) [] (line_end ∷ []) 0 refl (narrow_fields e (checked_facts e h)) in
    rw (and_true (eq-eqb (length l) line_length n) (eq-eqb (get_or l columns 0) line_end g), f, h)

-- what a line that was taken is
record Read (l : List ℕ) (e : Event) : Type 0 where
  long : length l ≡ line_length
  ended : get_or l columns 0 ≡ line_end
  values : List ℕ
  fields : read_fields widths 0 l ≡ Values values
  event : event_of values ≡ e
  within : checked e ≡ (Ok tt)

answer_of_taken : (f e : Event) (c : Result Unit Refusal) → answer_of f c ≡ Ok e → (c ≡ (Ok tt)) × (f ≡ e)
answer_of_taken f e (Ok tt) t = (refl, cc)
answer_of_taken f e (Err r) t = absurd cc

record Held (f : Fields) (e : Event) : Type 0 where
  values : List ℕ
  fields : f ≡ Values values
  event : event_of values ≡ e
  within : checked e ≡ (Ok tt)

taken_held : (f : Fields) (e : Event) → taken f ≡ Ok e → Held f e
taken_held Unreadable e t = absurd cc
taken_held (Values vs) e t =
    let p = answer_of_taken (event_of vs) e (checked (event_of vs)) t in
    record { values = vs; fields = refl; event = p.1; within = ap checked (sym p.1) ∙ p.0 }

read_facts : (l : List ℕ) (e : Event) → read_line l ≡ Ok e → Read l e
unfolding read_line
read_facts l e t =
    let p = check_passes (eqb (length l) line_length && eqb (get_or l columns 0) line_end) _ (Err BadLine) refl t in
    let q = and_halves (eqb (length l) line_length) p.0 in
    let f = taken_held (read_fields widths 0 l) e p.1 in
    record {
      long = eqb-true _ _ q.0;
      ended = eqb-true _ _ q.1;
      values = f.values;
      fields = f.fields;
      event = f.event;
      within = f.within;
    }

pub only_within_is_taken : OnlyWithinIsTaken
only_within_is_taken l e t = (read_facts l e t).within

pub no_event_has_two_lines : NoEventHasTwoLines
unfolding line_of
no_event_has_two_lines l e t =
    let r = read_facts l e t in
    let w = fields_bytes_read_fields widths 0 l r.values (omega (arith, r.long)) r.fields in
    let f : fields_of e ≡ r.values = ap fields_of (sym r.event) ∙ fields_of_event_of r.values w.0 in
    let d : drop columns l ≡ line_end ∷ [] =
    drop-cons l columns 0 (omega (arith, r.long))
    ∙ rw (r.ended, drop_of_length-le l {i = suc columns} (omega (arith, r.long))) in
    sym (take-append-drop columns l)
    ∙ ap (λ (s : List ℕ). take columns l ++ s) d
    ∙ ap (λ (s : List ℕ). s ++ (line_end ∷ [])) (sym w.1 ∙ ap (fields_bytes widths) (sym f))

pub no_line_has_two_events : NoLineHasTwoEvents
no_line_has_two_events e f p q t =
    let s : Ok e ≡ Ok f = sym (every_event_has_a_line e p) ∙ ap read_line t ∙ every_event_has_a_line f q in
    cc

-- the writer takes every event within its limits where the buffer has room
written : (e : Event) (out : List ℕ)
    → checked e ≡ (Ok tt)
    → line_length ≤ length out
    → bytes_after e out ≡ line_of e ++ drop line_length out
unfolding bytes_after write_answer checked
written e out p h = rw (le-leb line_length (length out) h, p)

pub reads_what_was_written : ReadsWhatWasWritten
reads_what_was_written e out p h =
    rw (written e out p h, take_at (line_of e) (drop line_length out) line_length (line_has_its_length e)) (every_event_has_a_line e p)

pub writes_what_was_read : WritesWhatWasRead
writes_what_was_read l e out t h =
    written e out (only_within_is_taken l e t) h
    ∙ ap (λ (s : List ℕ). s ++ drop line_length out) (sym (no_event_has_two_lines l e t))

-- ---- the numbers of the answers

-- the answer of a line whose event fails one of the checks, or none
event_number_lem : (e : Event) (kind date field : Bool)
    → among (0 ∷ 1 ∷ 3 ∷ 4 ∷ 5 ∷ [])
    (answer_number (answer_of e (cond kind (cond date (cond field (Ok tt) (Err BadField)) (Err BadDate)) (Err UnknownKind))))
    ≡ true
event_number_lem e false date field = refl
event_number_lem e true false field = refl
event_number_lem e true true false = refl
event_number_lem e true true true = refl

taken_number : (f : Fields) → among (0 ∷ 1 ∷ 3 ∷ 4 ∷ 5 ∷ []) (answer_number (taken f)) ≡ true
unfolding checked
taken_number Unreadable = refl
taken_number (Values vs) =
    let e = event_of vs in
    event_number_lem e (within kinds e.kind) (in_range e.date) (fields_fit e)

line_number_lem : (b : Bool) (f : Fields)
    → among (0 ∷ 1 ∷ 3 ∷ 4 ∷ 5 ∷ []) (answer_number (cond b (taken f) (Err BadLine))) ≡ true
line_number_lem false f = refl
line_number_lem true f = taken_number f

pub reader_answers : ReaderAnswers
unfolding read_line
reader_answers l = line_number_lem (eqb (length l) line_length && eqb (get_or l columns 0) line_end) (read_fields widths 0 l)

write_number_lem : (room kind date field : Bool)
    → among (0 ∷ 2 ∷ 3 ∷ 4 ∷ 5 ∷ [])
    (answer_number {A = Unit}
    (cond room
    (cond kind (cond date (cond field (Ok tt) (Err BadField)) (Err BadDate)) (Err UnknownKind))
    (Err UnfitMemory)))
    ≡ true
write_number_lem false kind date field = refl
write_number_lem true false date field = refl
write_number_lem true true false field = refl
write_number_lem true true true false = refl
write_number_lem true true true true = refl

pub writer_answers : WriterAnswers
unfolding write_answer
writer_answers e out =
    write_number_lem (leb line_length (length out)) (within kinds e.kind) (in_range e.date) (fields_fit e)
