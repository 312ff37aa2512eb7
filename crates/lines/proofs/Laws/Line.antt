-- Laws of specs/Line. To cite, of fields one after the other: `read_fields_fields_bytes` and `fields_bytes_read_fields` (reading and
-- writing undo each other); of a line: `narrow_fields` (every limit fits its column). The rest serves the functions of src/line.rt.
-- Assumes nothing.
use Rattle.std.specs.List.{AllZip, sum}
use Rattle.std.proofs.lemmas.List.Sums.{sum_by-cons}
use Rattle.std.proofs.Common.{Err, None, Option, Some, ℕ}
use Rattle.std.proofs.lemmas.List.FromFn.{fill_by_all}
use mathlib.Core.Path.{◌≡◌, refl, sym, ◌∙◌, ap, subst}
use mathlib.Core.Bool.{Bool, true, ◌&&◌}
use mathlib.Core.List.{List, [], ◌∷◌, ◌++◌, append_assoc, append-nil}
use Prim.Native.Nat.{ℕ, suc, ◌+◌, ◌^◌, ◌≤◌, ◌<◌}
use native.Mathlib.Omega.{arith}
use lib.Dec.{leb, ltb}
use lib.ListN.{length, take, drop, get_or, set, length-append, length-drop}
use lib.Seq.{take_at, drop_at, drop-drop, take-add, length-take-le}
use borrow.Author.Tests.{leb-true, ltb-true, ne_eqb}
use Rattle.common.proofs.Tests.{and_halves}
use Rattle.calendar.specs.Gregorian.{last_date}
use Rattle.calendar.proofs.Laws.Gregorian.{range_facts}
use Rattle.events.specs.declared.Event.{Event}
use Rattle.events.specs.declared.limits.Row.{Row}
use Rattle.refusals.specs.declared.Refusal.TheVariants.{BadLine}
use Rattle.events.proofs.Laws.Limits.{Limited, every_row, row_of_every, row_of_codes, second_le}
use Rattle.events.specs.Limits.{table, last_kind}
use Rattle.digits.specs.Field.{blank, field_bytes, read_field, has_room, field_at, put_at}
use Rattle.digits.proofs.Laws.Field.{length_signed_field, read_field_field_bytes, field_bytes_read_field}
use Rattle.digits.proofs.Laws.Buffer.{field_inside, written_none, written_field, written_byte, written_front}
use Rattle.lines.specs.Line.{widths, line_length, line_end, line_of, read_line, fields_of, event_of, fields_bytes, Fields, Values, Unreadable, joined, read_fields}

-- ---- fields one after the other

-- a number for each column, of at most as many digits as the column is wide
abbrev pub Narrow : List ℕ → List ℕ → Type 0
Narrow [] [] = Unit {0}
Narrow [] (v ∷ vs) = ⊥
Narrow (w ∷ ws) [] = ⊥
Narrow (w ∷ ws) (v ∷ vs) = (0 < w) × (v < 10 ^ w) × Narrow ws vs

pub length_fields_bytes : (ws vs : List ℕ) → length vs ≡ length ws → length (fields_bytes ws vs) ≡ sum ws
length_fields_bytes [] vs e = refl
length_fields_bytes (w ∷ ws) [] e = absurd (omega arith)
length_fields_bytes (w ∷ ws) (v ∷ vs) e =
    let i = length_fields_bytes ws vs (omega arith) in
    length-append (field_bytes w v) (fields_bytes ws vs) ∙ rw (length_signed_field w blank v, i) (sym (sum_by-cons (λ n. n) w ws))

-- reading fields gives what was written
pub read_fields_fields_bytes : (ws vs p r : List ℕ) (at : ℕ)
    → length p ≡ at
    → Narrow ws vs
    → read_fields ws at (p ++ (fields_bytes ws vs ++ r)) ≡ Values vs
read_fields_fields_bytes [] [] p r at h n = refl
read_fields_fields_bytes [] (v ∷ vs) p r at h n = absurd n
read_fields_fields_bytes (w ∷ ws) [] p r at h n = absurd n
read_fields_fields_bytes (w ∷ ws) (v ∷ vs) p r at h n =
    let q : List ℕ = fields_bytes ws vs ++ r in
    let a : (field_bytes w v ++ fields_bytes ws vs) ++ r ≡ field_bytes w v ++ q = append_assoc (field_bytes w v) (fields_bytes ws vs) r in
    let here : read_field (take w (drop at (p ++ (field_bytes w v ++ q)))) ≡ Some v =
    rw (drop_at p (field_bytes w v ++ q) at h, take_at (field_bytes w v) q w (length_signed_field w blank v))
    (read_field_field_bytes w v n.0 n.1) in
    let after : read_fields ws (at + w) (p ++ (field_bytes w v ++ q)) ≡ Values vs =
    subst (λ (l : List ℕ). read_fields ws (at + w) l ≡ Values vs) (append_assoc p (field_bytes w v) q)
    (read_fields_fields_bytes ws vs (p ++ field_bytes w v) r (at + w)
    (length-append p (field_bytes w v) ∙ omega (arith, length_signed_field w blank v))
    n.2) in
    rw (a, here, after)

record Joined (a : Option ℕ) (f : Fields) (vs : List ℕ) : Type 0 where
  value : ℕ
  rest : List ℕ
  here : a ≡ Some value
  after : f ≡ Values rest
  whole : value ∷ rest ≡ vs

joined_values : (a : Option ℕ) (f : Fields) (vs : List ℕ) → joined a f ≡ Values vs → Joined a f vs
joined_values None f vs e = absurd cc
joined_values (Some v) Unreadable vs e = absurd cc
joined_values (Some v) (Values rest) vs e = record { value = v; rest = rest; here = refl; after = refl; whole = cc }

-- writing the fields that were read gives their bytes
pub fields_bytes_read_fields : (ws : List ℕ) (at : ℕ) (l vs : List ℕ)
    → at + sum ws ≤ length l
    → read_fields ws at l ≡ Values vs
    → (length vs ≡ length ws) × (fields_bytes ws vs ≡ take (sum ws) (drop at l))
fields_bytes_read_fields [] at l vs h e = let p : [] ≡ vs = cc in (ap length (sym p), refl)
fields_bytes_read_fields (w ∷ ws) at l vs h e =
    let j = joined_values (read_field (take w (drop at l))) (read_fields ws (at + w) l) vs e in
    let s : sum (w ∷ ws) ≡ w + sum ws = sum_by-cons (λ n. n) w ws in
    let i = fields_bytes_read_fields ws (at + w) l j.rest (omega arith) j.after in
    let n : length (take w (drop at l)) ≡ w = length-take-le w (drop at l) (simp length-drop (omega arith)) in
    let b : field_bytes w j.value ≡ take w (drop at l) =
    subst (λ (k : ℕ). field_bytes k j.value ≡ take w (drop at l)) n
    (field_bytes_read_field (take w (drop at l)) j.value j.here) in (
      ap length (sym j.whole) ∙ ap suc i.0,
      rw (← j.whole, b, i.1, s, take-add w (sum ws) (drop at l), drop-drop w at l),
    )

-- ---- every limit fits its column

-- `Narrow` as a test
abbrev all_narrow : List ℕ → List ℕ → Bool
all_narrow [] hs = true
all_narrow (w ∷ ws) [] = true
all_narrow (w ∷ ws) (h ∷ hs) = ltb 0 w && ltb h (10 ^ w) && all_narrow ws hs

all_narrow_narrow : (ws vs hs : List ℕ) → length ws ≡ length hs → AllZip (λ v h. v ≤ h) vs hs → all_narrow ws hs ≡ true → Narrow ws vs
all_narrow_narrow [] [] [] l m t = tt
all_narrow_narrow [] [] (h ∷ hs) l m t = absurd m
all_narrow_narrow [] (v ∷ vs) [] l m t = absurd m
all_narrow_narrow [] (v ∷ vs) (h ∷ hs) l m t = absurd (omega arith)
all_narrow_narrow (w ∷ ws) [] [] l m t = absurd (omega arith)
all_narrow_narrow (w ∷ ws) [] (h ∷ hs) l m t = absurd m
all_narrow_narrow (w ∷ ws) (v ∷ vs) [] l m t = absurd m
all_narrow_narrow (w ∷ ws) (v ∷ vs) (h ∷ hs) l m t =
    let p = and_halves (ltb 0 w && ltb h (10 ^ w)) t in
    let q = and_halves (ltb 0 w) p.0 in
    let b : h < 10 ^ w = ltb-true h (10 ^ w) q.1 in
    (ltb-true 0 w q.0, omega (arith, m.0), all_narrow_narrow ws vs hs (omega arith) m.1 p.1)

-- the largest number of each field, by the limits of a row
abbrev largest : Row → List ℕ
largest r =
    last_kind
    ∷ last_date
    ∷ r.mandate.high
    ∷ r.a.high
    ∷ r.b.high
    ∷ r.c.high
    ∷ r.amount.high
    ∷ last_date
    ∷ r.codes.high
    ∷ []

table_narrow : every_row (λ r. all_narrow widths (largest r)) table ≡ true
unfolding table
table_narrow = refl

pub narrow_fields : (e : Event) → Limited e → Narrow widths (fields_of e)
narrow_fields e m =
    let f = m.fits in
    all_narrow_narrow widths (fields_of e) (largest m.limits) refl (
      m.kind.to,
      (
        (range_facts e.date m.date).to,
        (
          f.mandate.to,
          (
            f.a.to,
            (
              f.b.to,
              (
                f.c.to,
                (f.amount.to, (second_le m.limits.second e.date e.second f.second, ((row_of_codes _ _ _ m.found).to, tt))),
              ),
            ),
          ),
        ),
      ),
    )
    (row_of_every (λ r. all_narrow widths (largest r)) _ _ _ table_narrow m.found)

-- ---- an event and its nine fields

-- nine fields are those of an event
pub fields_of_event_of : (vs : List ℕ) → length vs ≡ length widths → fields_of (event_of vs) ≡ vs
fields_of_event_of vs h = sym (fill_by_all (λ (k : ℕ). get_or vs k 0) vs 9 0 h (λ k l. refl))

-- ---- reading a line field by field

-- a field that lies in the line
field_is : (l : List ℕ) (at w : ℕ) → length l ≡ line_length → leb w 12 && has_room at w line_length ≡ true → read_field (take w (drop at l)) ≡ field_at at w l
field_is l at w h fits =
    let p = and_halves (leb w 12) fits in
    sym (field_inside at w l (leb-true w 12 p.0) (omega (arith, h, leb-true (at + w) line_length p.1)))

-- the fields of a line, each at its place
pub fields_are : (l : List ℕ)
    → length l ≡ line_length
    → read_fields widths 0 l
    ≡ joined (field_at 0 2 l)
    (joined (field_at 2 9 l)
    (joined (field_at 11 10 l)
    (joined (field_at 21 10 l)
    (joined (field_at 31 10 l)
    (joined (field_at 41 10 l)
    (joined (field_at 51 12 l)
    (joined (field_at 63 9 l)
    (joined (field_at 72 2 l) (Values [])))))))))
fields_are l h =
    rw (
      field_is l 0 2 h refl,
      field_is l 2 9 h refl,
      field_is l 11 10 h refl,
      field_is l 21 10 h refl,
      field_is l 31 10 h refl,
      field_is l 41 10 h refl,
      field_is l 51 12 h refl,
      field_is l 63 9 h refl,
      field_is l 72 2 h refl,
    )

-- ---- a line written field by field

-- the nine fields, written one after the other, and the byte that ends them are the line
pub line_of_written : (e : Event) (o o1 o2 o3 o4 o5 o6 o7 o8 o9 : List ℕ)
    → line_length ≤ length o
    → o1 ≡ put_at 0 2 blank e.kind o
    → o2 ≡ put_at 2 9 blank e.date o1
    → o3 ≡ put_at 11 10 blank e.mandate o2
    → o4 ≡ put_at 21 10 blank e.a o3
    → o5 ≡ put_at 31 10 blank e.b o4
    → o6 ≡ put_at 41 10 blank e.c o5
    → o7 ≡ put_at 51 12 blank e.amount o6
    → o8 ≡ put_at 63 9 blank e.second o7
    → o9 ≡ put_at 72 2 blank e.code o8
    → set o9 74 line_end ≡ line_of e ++ drop line_length o
unfolding line_of
line_of_written e o o1 o2 o3 o4 o5 o6 o7 o8 o9 h p1 p2 p3 p4 p5 p6 p7 p8 p9 =
    let w1 = written_field 0 o [] 0 o (written_none 0 o) 2 blank e.kind o1 2 refl (omega arith) p1 in
    let w2 = written_field 0 o _ 2 o1 w1 9 blank e.date o2 11 refl (omega arith) p2 in
    let w3 = written_field 0 o _ 11 o2 w2 10 blank e.mandate o3 21 refl (omega arith) p3 in
    let w4 = written_field 0 o _ 21 o3 w3 10 blank e.a o4 31 refl (omega arith) p4 in
    let w5 = written_field 0 o _ 31 o4 w4 10 blank e.b o5 41 refl (omega arith) p5 in
    let w6 = written_field 0 o _ 41 o5 w5 10 blank e.c o6 51 refl (omega arith) p6 in
    let w7 = written_field 0 o _ 51 o6 w6 12 blank e.amount o7 63 refl (omega arith) p7 in
    let w8 = written_field 0 o _ 63 o7 w7 9 blank e.second o8 72 refl (omega arith) p8 in
    let w9 = written_field 0 o _ 72 o8 w8 2 blank e.code o9 74 refl (omega arith) p9 in
    written_front _ line_length o _ (written_byte 0 o _ 74 o9 w9 line_end 75 refl h) ∙ simp (append_assoc, append-nil)

-- ---- read_line

pub read_line_length : (l : List ℕ) → (length l ≡ line_length → ⊥) → read_line l ≡ Err BadLine
unfolding read_line
read_line_length l n = rw (ne_eqb (length l) line_length n)
