-- Laws of a field at a place of a line or a buffer, specs/Field. To cite: `field_inside` and `put_inside` (where it has room); of a
-- buffer: `length_pasted`, `drop_written` (what stands before and behind stays), `take_line`, `pasted_pasted` (one
-- piece behind the other); of a buffer written so far: `written_none`, `written_more`, `written_field`, `written_byte`,
-- `written_length`. The rest serves the functions of this crate. Assumes nothing.
use Rattle.std.proofs.Common.{None, Option, ℕ}
use mathlib.Core.Path.{◌≡◌, refl, sym, ◌∙◌, ap}
use mathlib.Core.Bool.{false, cond, ◌&&◌}
use mathlib.Core.List.{List, [], ◌∷◌, ◌++◌, append_assoc}
use Prim.Native.Nat.{ℕ, suc, ◌+◌, ◌-◌, ◌/◌, ◌≤◌, ◌<◌}
use native.Mathlib.Nat.{add-zero}
use native.Mathlib.Numerals.{add-one}
use native.Mathlib.Omega.{arith}
use borrow.Author.Tests.{le-leb, ltb-false}
use lib.Dec.{leb, ltb}
use lib.ListN.{length, take, drop, set, length-append, length-drop, take-append-drop}
use lib.Seq.{length-take-le, take_at, drop_at, drop-drop, drop-cons, set_split, take-set-le, lt-length-set, get_or-set_same, drop-set-lt}
use Rattle.common.proofs.Tests.{either, same_arms}
use Rattle.digits.specs.Field.{blank, last_digit, signed_padded, signed_field, read_field, has_room, field_at, pasted, put_at}
use Rattle.digits.proofs.Laws.Field.{signed_padded_none, signed_padded_more, length_signed_field}

-- ---- a field at a place

module _ (at w : ℕ) (l : List ℕ) where
  pub field_inside : w ≤ 12 → at + w ≤ length l → field_at at w l ≡ read_field (take w (drop at l))
  unfolding field_at
  field_inside n h = rw (le-leb w 12 n, le-leb (at + w) (length l) h)

  -- of no column nothing is read
  pub field_outside : ltb 0 w && leb w 12 && has_room at w (length l) ≡ false → field_at at w l ≡ None
  unfolding field_at read_field
  field_outside e =
      either (ltb 0 w)
      (λ t. rw (rw t at e))
      (λ t.
      let z : w ≡ 0 = omega (arith, ltb-false 0 w t) in
      ap (λ (x : Option ℕ). cond (leb w 12 && has_room at w (length l)) x None) (ap (λ (n : ℕ). read_field (take n (drop at l))) z)
      ∙ same_arms (leb w 12 && has_room at w (length l)) None)

module _ (at w s v : ℕ) (out : List ℕ) where
  pub put_inside : at + w ≤ length out → put_at at w s v out ≡ pasted at (signed_field w s v) out
  put_inside h = rw (le-leb (at + w) (length out) h)

  -- no column is no byte
  pub put_outside : ltb 0 w && has_room at w (length out) ≡ false → put_at at w s v out ≡ out
  unfolding signed_field
  put_outside e =
      either (ltb 0 w)
      (λ t. rw (rw t at e))
      (λ t.
      let z : w ≡ 0 = omega (arith, ltb-false 0 w t) in
      ap (λ (l : List ℕ). cond (has_room at w (length out)) l out)
      (ap (λ (n : ℕ). pasted at (signed_field n s v) out) z ∙ ap (λ (n : ℕ). take at out ++ drop n out) (add-zero at) ∙ take-append-drop at out)
      ∙ same_arms (has_room at w (length out)) out)

-- ---- pasted

module _ (at : ℕ) (s out : List ℕ) where
  pub length_pasted : at + length s ≤ length out → length (pasted at s out) ≡ length out
  length_pasted h =
      let a = length-take-le at out (omega arith) in
      let b = length-drop (at + length s) out in
      length-append (take at out) (s ++ drop (at + length s) out)
      ∙ omega (arith, a, b, length-append s (drop (at + length s) out))

  -- all that is written so far
  pub take_written : at ≤ length out → take (at + length s) (pasted at s out) ≡ take at out ++ s
  take_written h =
      let a = length-take-le at out h in
      ap (take (at + length s)) (sym (append_assoc (take at out) s (drop (at + length s) out)))
      ∙ take_at (take at out ++ s) (drop (at + length s) out) (at + length s) (length-append (take at out) s ∙ omega arith)

  -- the same by the bytes' number
  pub take_line : (n : ℕ) → at ≤ length out → length s ≡ n → take (at + n) (pasted at s out) ≡ take at out ++ s
  take_line n h e = ap (λ (k : ℕ). take (at + k) (pasted at s out)) (sym e) ∙ take_written h

  -- and all behind stays
  pub drop_written : at ≤ length out → drop (at + length s) (pasted at s out) ≡ drop (at + length s) out
  drop_written h =
      let a = length-take-le at out h in
      ap (drop (at + length s)) (sym (append_assoc (take at out) s (drop (at + length s) out)))
      ∙ drop_at (take at out ++ s) (drop (at + length s) out) (at + length s) (length-append (take at out) s ∙ omega arith)

  -- one line behind the other
  pub pasted_pasted : (t : List ℕ) → at ≤ length out → pasted (at + length s) t (pasted at s out) ≡ pasted at (s ++ t) out
  pasted_pasted t h =
      let d : drop (at + length s + length t) (pasted at s out) ≡ drop (at + length s + length t) out =
      sym (drop-drop (length t) (at + length s) (pasted at s out))
      ∙ ap (drop (length t)) (drop_written h)
      ∙ drop-drop (length t) (at + length s) out in
      let n : at + length (s ++ t) ≡ at + length s + length t = omega (arith, length-append s t) in
      let r = drop (at + length s + length t) out in
      rw (take_written h, d, n, append_assoc (take at out) s (t ++ r), append_assoc s t r)

  -- the same by the bytes' number, for a buffer that is written step by step
  pub pasted_next : (n : ℕ) (t now next : List ℕ)
      → at ≤ length out
      → length s ≡ n
      → now ≡ pasted at s out
      → next ≡ pasted (at + n) t now
      → next ≡ pasted at (s ++ t) out
  pasted_next n t now next h e p q =
      q ∙ ap (pasted (at + n) t) p ∙ ap (λ (k : ℕ). pasted (at + k) t (pasted at s out)) (sym e) ∙ pasted_pasted t h

-- a byte alone
pub set_pasted : (i b : ℕ) (out : List ℕ) → i < length out → set out i b ≡ pasted i (b ∷ []) out
set_pasted i b out h = rw (add-one) (set_split out i b h)

-- ---- a buffer written so far

-- from a place on the bytes s are written, and `next` is the place behind them
pub record Written (at : ℕ) (out s : List ℕ) (next : ℕ) (now : List ℕ) : Type 0 where
  pub place : next ≡ at + length s
  pub bytes : now ≡ pasted at s out

module _ (at : ℕ) (out : List ℕ) where
  pub written_none : Written at out [] at out
  written_none =
      record {
        place = omega arith;
        bytes = sym (ap (λ (k : ℕ). take at out ++ drop k out) (add-zero at) ∙ take-append-drop at out);
      }

  module _ (s : List ℕ) (next : ℕ) (now : List ℕ) (w : Written at out s next now) (h : at + length s ≤ length out) where
    pub written_length : length now ≡ length out
    written_length = ap length w.bytes ∙ length_pasted at s out h

    -- one more line, or several
    pub written_more : (t last : List ℕ) (r : ℕ) → r ≡ next + length t → last ≡ pasted next t now → Written at out (s ++ t) r last
    written_more t last r p q =
        record {
          place = omega (arith, p, w.place, length-append s t);
          bytes = pasted_next at s out (length s) t now last (omega arith) refl w.bytes (q ∙ ap (λ (k : ℕ). pasted k t now) w.place);
        }

  module _ (s : List ℕ) (next : ℕ) (now : List ℕ) (w : Written at out s next now) where
    pub written_inside : next ≤ length out → at + length s ≤ length out
    written_inside h = omega (arith, w.place)

    -- one more field
    pub written_field : (width sign v : ℕ) (last : List ℕ) (r : ℕ)
        → r ≡ next + width
        → r ≤ length out
        → last ≡ put_at next width sign v now
        → Written at out (s ++ signed_field width sign v) r last
    written_field width sign v last r p h q =
        let i = written_inside (omega arith) in
        let l = written_length s next now w i in
        written_more s next now w i (signed_field width sign v) last r
        (omega (arith, p, length_signed_field width sign v))
        (q ∙ put_inside next width sign v now (omega arith))

    -- one more byte
    pub written_byte : (b r : ℕ) → r ≡ next + 1 → r ≤ length out → Written at out (s ++ (b ∷ [])) r (set now next b)
    written_byte b r p h =
        let i = written_inside (omega arith) in
        let l = written_length s next now w i in
        written_more s next now w i (b ∷ []) _ r p (set_pasted next b now (omega arith))

-- at the front of a buffer
pub written_front : (s : List ℕ) (next : ℕ) (out now : List ℕ) → Written 0 out s next now → now ≡ s ++ drop next out
written_front s next out now w = w.bytes ∙ ap (λ (k : ℕ). s ++ drop k out) (sym w.place)

-- ---- a field written from its right edge on: what stands in the buffer and what is still to come make up the whole

-- what stands behind i is written; the rest of the field, s, is still to come
abbrev pub still : ℕ → ℕ → List ℕ → List ℕ → List ℕ
still at i s out = take at out ++ (s ++ drop i out)

-- a byte stored before i is the last of what was to come
pub still_store : (at i b : ℕ) (s out : List ℕ)
    → at ≤ i
    → i < length out
    → still at i s (set out i b) ≡ still at (i + 1) (s ++ (b ∷ [])) out
still_store at i b s out l h =
    rw (
      take-set-le at out i b l,
      drop-cons (set out i b) i 0 (lt-length-set out i b h),
      get_or-set_same out i b 0 h,
      drop-set-lt (suc i) out i b (omega arith),
      add-one,
      append_assoc,
    )

-- at the field's left edge nothing is to come
pub still_nothing : (at i s v : ℕ) (out : List ℕ) → i ≡ at → still at i (signed_padded (i - at) s v) out ≡ out
unfolding signed_padded
still_nothing at i s v out e =
    let z : i - at ≡ 0 = omega arith in
    ap (λ (k : ℕ). take at out ++ (signed_padded k s v ++ drop i out)) z
    ∙ ap (λ (k : ℕ). take at out ++ drop k out) e
    ∙ take-append-drop at out

-- the field from a place at up to j is still to come; the byte before j is stored
module _ (at j : ℕ) (out : List ℕ) (l : at < j) (h : j ≤ length out) where
  before : j - 1 + 1 ≡ j
  before = omega arith

  left : j - at ≡ suc (j - 1 - at)
  left = omega arith

  store : (b : ℕ) (s : List ℕ) → still at (j - 1) s (set out (j - 1) b) ≡ still at j (s ++ (b ∷ [])) out
  store b s =
      still_store at (j - 1) b s out (omega arith) (omega arith)
      ∙ ap (λ (k : ℕ). still at k (s ++ (b ∷ [])) out) before

  -- the sign, where no digit is left; blanks are still to come
  pub still_sign : (s v : ℕ)
      → v ≡ 0
      → still at (j - 1) (signed_padded (j - 1 - at) blank v) (set out (j - 1) s) ≡ still at j (signed_padded (j - at) s v) out
  still_sign s v e =
      let p : signed_padded (j - at) s v ≡ signed_padded (j - 1 - at) blank v ++ (s ∷ []) =
      ap (λ (w : ℕ). signed_padded w s v) left ∙ signed_padded_none (j - 1 - at) s v e in
      store s (signed_padded (j - 1 - at) blank v) ∙ ap (λ (f : List ℕ). still at j f out) (sym p)

  -- a digit, where one is left
  pub still_more : (s v b : ℕ)
      → (v ≡ 0 → ⊥)
      → b ≡ last_digit v
      → still at (j - 1) (signed_padded (j - 1 - at) s (v / 10)) (set out (j - 1) b) ≡ still at j (signed_padded (j - at) s v) out
  still_more s v b n e =
      let p : signed_padded (j - at) s v ≡ signed_padded (j - 1 - at) s (v / 10) ++ (b ∷ []) =
      ap (λ (w : ℕ). signed_padded w s v) left
      ∙ signed_padded_more (j - 1 - at) s v n
      ∙ ap (λ (x : ℕ). signed_padded (j - 1 - at) s (v / 10) ++ (x ∷ [])) (sym e) in
      store b (signed_padded (j - 1 - at) s (v / 10)) ∙ ap (λ (f : List ℕ). still at j f out) (sym p)

  -- the last digit, which every field has
  pub still_edge : (w s v b : ℕ)
      → at + w ≡ j
      → b ≡ last_digit v
      → still at (j - 1) (signed_padded (j - 1 - at) s (v / 10)) (set out (j - 1) b) ≡ pasted at (signed_field w s v) out
  unfolding signed_field
  still_edge w s v b e d =
      let k : w ≡ suc (j - 1 - at) = omega arith in
      let n : j ≡ at + length (signed_field w s v) = omega (arith, length_signed_field w s v) in
      store b (signed_padded (j - 1 - at) s (v / 10))
      ∙ ap (λ (x : ℕ). still at j (signed_padded (j - 1 - at) s (v / 10) ++ (x ∷ [])) out) d
      ∙ ap (λ (m : ℕ). still at j (signed_field m s v) out) (sym k)
      ∙ ap (λ (m : ℕ). take at out ++ (signed_field w s v ++ drop m out)) n
