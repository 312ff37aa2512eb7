-- Laws of specs/Layout. To cite: `length_answer_line`, `length_position_line`. The rest serves the functions of src/layout.rt.
-- Assumes nothing.
use mathlib.Core.Path.{◌≡◌, refl, ◌∙◌, ap}
use mathlib.Core.Bool.{Bool, true, ◌&&◌}
use mathlib.Core.List.{List, []}
use Prim.Native.Nat.{ℕ, ◌+◌, ◌≤◌}
use native.Mathlib.Omega.{arith}
use borrow.Author.Tests.{le-leb, leb-true}
use lib.Dec.{leb}
use lib.IntN.{ℤ, nat_abs}
use lib.ListN.{length, set, length-append}
use Rattle.common.proofs.Tests.{and_halves}
use Rattle.positions.specs.Positions.{position_limit, in_limit}
use Rattle.digits.specs.Field.{blank, sign_of, has_room, pasted, put_at}
use Rattle.lines.specs.Line.{line_end}
use Rattle.digits.proofs.Laws.Field.{length_signed_field}
use Rattle.digits.proofs.Laws.Buffer.{written_none, written_field, written_byte}
use Rattle.report.specs.Layout.{answer_line, answer_length, position_line, position_length, widest_kind, last_answer, last_number, answer_fits, position_fits}

-- ---- the lines

pub length_answer_line : (number answer : ℕ) → length (answer_line number answer) ≡ answer_length
unfolding answer_line
length_answer_line number answer = simp (length-append, length_signed_field)

pub length_position_line : (kind number : ℕ) (cents : ℤ) → length (position_line kind number cents) ≡ position_length
unfolding position_line
length_position_line kind number cents = simp (length-append, length_signed_field)

-- ---- a line written field by field

module _ (at number : ℕ) (out : List ℕ) where
  pub answer_line_written : (answer : ℕ) (a b : List ℕ)
      → at + answer_length ≤ length out
      → a ≡ put_at at 6 blank number out
      → b ≡ put_at (at + 6) 3 blank answer a
      → set b (at + 9) line_end ≡ pasted at (answer_line number answer) out
  unfolding answer_line
  answer_line_written answer a b h p q =
      let f = written_field at out [] at out (written_none at out) 6 blank number a (at + 6) refl (omega arith) p in
      let g = written_field at out _ (at + 6) a f 3 blank answer b (at + 9) (omega arith) (omega arith) q in
      (written_byte at out _ (at + 9) b g line_end (at + 10) (omega arith) h).bytes

  pub position_line_written : (kind sign size : ℕ) (cents : ℤ) (a b d : List ℕ)
      → at + position_length ≤ length out
      → sign ≡ sign_of cents
      → size ≡ nat_abs cents
      → a ≡ put_at at 2 blank kind out
      → b ≡ put_at (at + 2) 6 blank number a
      → d ≡ put_at (at + 8) 18 sign size b
      → set d (at + 26) line_end ≡ pasted at (position_line kind number cents) out
  unfolding position_line
  position_line_written kind sign size cents a b d h e k p q t =
      let f = written_field at out [] at out (written_none at out) 2 blank kind a (at + 2) refl (omega arith) p in
      let g = written_field at out _ (at + 2) a f 6 blank number b (at + 8) (omega arith) (omega arith) q in
      let i = written_field at out _ (at + 8) b g 18 (sign_of cents) (nat_abs cents) d (at + 26) (omega arith) (omega arith) (rw (e, k) at t) in
      (written_byte at out _ (at + 26) d i line_end (at + 27) (omega arith) h).bytes

-- ---- answer_fits, position_fits

module _ (at number answer : ℕ) (out : List ℕ) where
  pub answer_fits_made : at + answer_length ≤ length out → number ≤ last_number → answer ≤ last_answer → answer_fits at number answer out ≡ true
  unfolding answer_fits
  answer_fits_made h n a =
      rw (le-leb (at + answer_length) (length out) h, le-leb number last_number n, le-leb answer last_answer a)

module _ (at kind number : ℕ) (cents : ℤ) (out : List ℕ) where
  pub position_fits_is : (room limit : Bool)
      → room ≡ has_room at position_length (length out)
      → limit ≡ in_limit position_limit cents
      → room && leb kind widest_kind && leb number last_number && limit ≡ position_fits at kind number cents out
  unfolding position_fits
  position_fits_is room limit e l =
      ap (λ (b : Bool). b && leb kind widest_kind && leb number last_number && limit) e
      ∙ ap (λ (b : Bool). has_room at position_length (length out) && leb kind widest_kind && leb number last_number && b) l

  pub position_fits_facts :
      position_fits at kind number cents out ≡ true → (at + position_length ≤ length out) × (in_limit position_limit cents ≡ true)
  unfolding position_fits
  position_fits_facts e =
      let room = has_room at position_length (length out) in
      let p = and_halves (room && leb kind widest_kind && leb number last_number) e in
      let q = and_halves (room && leb kind widest_kind) p.0 in
      (leb-true (at + position_length) (length out) (and_halves room q.0).0, p.1)
