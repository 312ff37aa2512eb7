-- The answers in the paper's numbers. To cite: `reader_number_lem`, `writer_number_lem`. Assumes nothing.
use Rattle.std.proofs.Common.{Err, Ok, Result}
use mathlib.Core.Path.{◌≡◌, refl, sym, ◌∙◌}
use mathlib.Core.Bool.{Bool, true, false, cond, ◌&&◌}
use mathlib.Core.List.{List, [], ◌∷◌}
use Prim.Native.Nat.{ℕ}
use lib.Dec.{eqb, leb}
use lib.ListN.{length, get_or}
use Rattle.common.specs.Checks.{check, judged}
use Rattle.calendar.specs.Gregorian.{in_range}
use Rattle.refusals.specs.declared.Refusal.{Refusal}
use Rattle.refusals.specs.Refusals.{answer_number}
use Rattle.refusals.specs.declared.Refusal.TheVariants.{BadLine, UnfitMemory, UnknownKind, BadDate, BadField}
use Rattle.events.specs.declared.Event.{Event}
use Rattle.events.proofs.Laws.Numbers.{by_limits, limit_number_lem}
use Rattle.events.specs.Limits.{within, kinds, fields_fit, checked}
use Rattle.lines.specs.Line.{widths, event_of, columns, line_length, line_end, Fields, Values, Unreadable, read_fields, answer_of, taken, read_line, write_answer, fields_number, reader_number, writer_number}

-- ---- the reader

answer_number_lem : (e : Event) (c : Result Unit Refusal) → answer_number (answer_of e c) ≡ answer_number c
answer_number_lem e (Ok tt) = refl
answer_number_lem e (Err r) = refl

taken_number : (f : Fields) → answer_number (taken f) ≡ fields_number f
taken_number Unreadable = refl
taken_number (Values vs) = answer_number_lem (event_of vs) (checked (event_of vs)) ∙ limit_number_lem (event_of vs)

by_line : (b : Bool) (f : Fields) → answer_number (cond b (taken f) (Err BadLine)) ≡ cond b (fields_number f) 1
by_line true f = taken_number f
by_line false f = refl

pub reader_number_lem : (l : List ℕ) → answer_number (read_line l) ≡ reader_number l
unfolding read_line reader_number
reader_number_lem l = by_line (eqb (length l) line_length && eqb (get_or l columns 0) line_end) (read_fields widths 0 l)

pub reader_number_is : (l : List ℕ) → reader_number l ≡ answer_number (read_line l)
reader_number_is l = sym (reader_number_lem l)

-- ---- the writer

by_room : (b kind date fields : Bool) → answer_number {A = Unit} (judged (check b (Err UnfitMemory) ∷ check kind (Err UnknownKind) ∷ check date (Err BadDate) ∷ check fields (Err BadField) ∷ []) (Ok tt)) ≡ judged (check b 2 ∷ check kind 3 ∷ check date 4 ∷ check fields 5 ∷ []) 0
by_room false kind date fields = refl
by_room true kind date fields = by_limits kind date fields

pub writer_number_lem : (e : Event) (out : List ℕ) → answer_number (write_answer e out) ≡ writer_number e out
unfolding write_answer writer_number
writer_number_lem e out = by_room (leb line_length (length out)) (within kinds e.kind) (in_range e.date) (fields_fit e)

pub writer_number_is : (e : Event) (out : List ℕ) → writer_number e out ≡ answer_number (write_answer e out)
writer_number_is e out = sym (writer_number_lem e out)
