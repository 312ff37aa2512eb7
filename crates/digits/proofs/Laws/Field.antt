-- Laws of a field, specs/Field. To cite: `length_signed_field`, `signed_field_digits` (the sign directly before the digits),
-- `read_field_field_bytes` and `field_bytes_read_field` (reading and writing undo each other), `read_field_narrow`. The rest serves the
-- functions of this crate. Assumes nothing.
use Rattle.std.proofs.Common.{None, Option, Some, ℕ}
use mathlib.Core.Path.{◌≡◌, refl, sym, ◌∙◌, ap, subst}
use mathlib.Core.Bool.{Bool, true, false, cond, ◌&&◌, and-false}
use mathlib.Core.List.{List, [], ◌∷◌, ◌++◌, append_assoc, append-nil}
use mathlib.Core.Logic.{⊎_elim}
use Prim.Native.Nat.{ℕ, zero, suc, ◌+◌, ◌-◌, ◌*◌, ◌/◌, ◌^◌, ◌≤◌, ◌<◌}
use native.Mathlib.Nat.{pow-succ', one-le-pow, eq-zero-or-pos, eq-or-lt_of_le, add-zero}
use native.Mathlib.Omega.{arith}
use lib.Dec.{leb, ltb, eqb, lit<}
use lib.ListN.{length}
use borrow.Author.Tests.{leb-true, le-leb, lt-ltb, eqb-true, eqb-false, eq-eqb, ne_eqb}
use Rattle.std.proofs.lemmas.List.{length_push}
use Rattle.common.proofs.Tests.{and_halves, and_true, either, false_unless}
use Rattle.digits.specs.Field.{blank, zero_digit, last_digit, signed_padded, signed_field, field_bytes, is_digit, read_digits, read_number, read_field}

-- ---- signed_padded, signed_field

-- of 0 the sign is last
pub signed_padded_none : (w s v : ℕ) → v ≡ 0 → signed_padded (suc w) s v ≡ signed_padded w blank v ++ (s ∷ [])
unfolding signed_padded
signed_padded_none w s v e =
    ap
    (λ (b : Bool). cond b (signed_padded w blank v ++ (s ∷ [])) (signed_padded w s (v / 10) ++ (last_digit v ∷ [])))
    (eq-eqb v 0 e)

-- of a number above 0 its last digit
pub signed_padded_more : (w s v : ℕ) → (v ≡ 0 → ⊥) → signed_padded (suc w) s v ≡ signed_padded w s (v / 10) ++ (last_digit v ∷ [])
unfolding signed_padded
signed_padded_more w s v n =
    ap
    (λ (b : Bool). cond b (signed_padded w blank v ++ (s ∷ [])) (signed_padded w s (v / 10) ++ (last_digit v ∷ [])))
    (ne_eqb v 0 n)

length_signed_padded : (w s v : ℕ) → length (signed_padded w s v) ≡ w
unfolding signed_padded
length_signed_padded zero s v = refl
length_signed_padded (suc w) s v =
    either (eqb v 0)
    (λ e. omega (arith, ap length (signed_padded_none w s v (eqb-true v 0 e)), length_push (signed_padded w blank v) s, length_signed_padded w blank v))
    (λ e. omega (arith, ap length (signed_padded_more w s v (eqb-false v 0 e)), length_push (signed_padded w s (v / 10)) (last_digit v), length_signed_padded w s (v / 10)))

pub length_signed_field : (w s v : ℕ) → length (signed_field w s v) ≡ w
unfolding signed_field
length_signed_field zero s v = refl
length_signed_field (suc w) s v = omega (arith, length_push (signed_padded w s (v / 10)) (last_digit v), length_signed_padded w s (v / 10))

-- ---- without a sign

abbrev pub padded : ℕ → ℕ → List ℕ
padded w v = signed_padded w blank v

padded_last : (w v b : ℕ) → cond (eqb v 0) blank (last_digit v) ≡ b → padded (suc w) v ≡ padded w (v / 10) ++ (b ∷ [])
padded_last w v b i =
    either (eqb v 0)
    (λ e.
    let z : v ≡ v / 10 = omega (arith, eqb-true v 0 e) in
    signed_padded_none w blank v (eqb-true v 0 e)
    ∙ ap (λ (x : ℕ). padded w x ++ (blank ∷ [])) z
    ∙ ap (λ (x : ℕ). padded w (v / 10) ++ (x ∷ [])) (ap (λ (t : Bool). cond t blank (last_digit v)) (sym e) ∙ i))
    (λ e.
    signed_padded_more w blank v (eqb-false v 0 e)
    ∙ ap (λ (x : ℕ). padded w (v / 10) ++ (x ∷ [])) (ap (λ (t : Bool). cond t blank (last_digit v)) (sym e) ∙ i))

padded_more : (w v : ℕ) → 0 < v → padded (suc w) v ≡ padded w (v / 10) ++ (last_digit v ∷ [])
padded_more w v h = signed_padded_more w blank v (λ e. omega arith)

-- one column more is one blank more
padded_wider : (w v : ℕ) → v < 10 ^ w → padded (suc w) v ≡ blank ∷ padded w v
unfolding signed_padded
padded_wider zero v h = rw (eq-eqb v 0 (omega arith))
padded_wider (suc w) v h =
    let b = cond (eqb v 0) blank (last_digit v) in
    padded_last (suc w) v b refl
    ∙ ap (λ (l : List ℕ). l ++ (b ∷ [])) (padded_wider w (v / 10) (omega (arith, h, pow-succ' 10 w)))
    ∙ ap (λ (l : List ℕ). blank ∷ l) (sym (padded_last w v b refl))

field_bytes_wider : (w v : ℕ) → v < 10 ^ suc w → field_bytes (suc (suc w)) v ≡ blank ∷ field_bytes (suc w) v
unfolding signed_field
field_bytes_wider w v h = rw (padded_wider w (v / 10) (omega (arith, h, pow-succ' 10 w)))

field_bytes_padded : (w v : ℕ) → 0 < v → field_bytes (suc w) v ≡ padded (suc w) v
unfolding signed_field
field_bytes_padded w v h = sym (padded_more w v h)

-- d digits, the sign before them and w blanks before that
signed_padded_digits : (w d s v : ℕ)
    → v < 10 ^ d
    → 10 ^ d ≤ 10 * v + 9
    → signed_padded (suc (w + d)) s v ≡ padded w 0 ++ (s ∷ padded d v)
unfolding signed_padded
signed_padded_digits w zero s v h l =
    let z : v ≡ 0 = omega arith in
    signed_padded_none (w + 0) s v z
    ∙ ap (λ (l : List ℕ). l ++ (s ∷ [])) (ap (λ (k : ℕ). padded k v) (add-zero w) ∙ ap (padded w) z)
signed_padded_digits w (suc d) s v h l =
    let p = pow-succ' 10 d in
    let n : v ≡ 0 → ⊥ = λ e. omega arith in
    let k : w + suc d ≡ suc (w + d) = omega arith in
    signed_padded_more (w + suc d) s v n
    ∙ ap (λ (m : ℕ). signed_padded m s (v / 10) ++ (last_digit v ∷ [])) k
    ∙ ap (λ (l : List ℕ). l ++ (last_digit v ∷ [])) (signed_padded_digits w d s (v / 10) (omega arith) (omega arith))
    ∙ append_assoc (padded w 0) (s ∷ padded d (v / 10)) (last_digit v ∷ [])
    ∙ ap (λ (l : List ℕ). padded w 0 ++ (s ∷ l))
    (sym (padded_last d v (last_digit v) (ap (λ (b : Bool). cond b blank (last_digit v)) (ne_eqb v 0 n))))

-- a number of d + 1 digits: the sign stands directly before them
pub signed_field_digits : (w d s v : ℕ)
    → v < 10 ^ suc d
    → 10 ^ d ≤ 10 * (v / 10) + 9
    → signed_field (suc (suc (w + d))) s v ≡ padded w 0 ++ (s ∷ field_bytes (suc d) v)
unfolding signed_field
signed_field_digits w d s v h l =
    let p = pow-succ' 10 d in
    ap (λ (l : List ℕ). l ++ (last_digit v ∷ [])) (signed_padded_digits w d s (v / 10) (omega arith) l)
    ∙ append_assoc (padded w 0) (s ∷ padded d (v / 10)) (last_digit v ∷ [])

-- ---- read_digits, read_number, read_field

pub digit_facts : (b : ℕ) → is_digit b ≡ true → (zero_digit ≤ b) × (b ≤ 57)
digit_facts b e = let p = and_halves (leb zero_digit b) e in (leb-true _ _ p.0, leb-true _ _ p.1)

last_digit_is_digit : (v : ℕ) → is_digit (last_digit v) ≡ true
last_digit_is_digit v =
    and_true {a = leb zero_digit (last_digit v)} {b = leb (last_digit v) 57}
    (le-leb zero_digit (last_digit v) (omega arith))
    (le-leb (last_digit v) 57 (omega arith))

cond_value : (b : Bool) (x : Option ℕ) (v : ℕ) → cond b x None ≡ Some v → (b ≡ true) × (x ≡ Some v)
cond_value true x v e = (refl, e)
cond_value false x v e = absurd cc

cond_no : (b : Bool) (x : Option ℕ) (v : ℕ) → cond b None x ≡ Some v → (b ≡ false) × (x ≡ Some v)
cond_no true x v e = absurd cc
cond_no false x v e = (refl, e)

-- one digit more at the right edge
read_digits_more : (u v b : ℕ) (bs : List ℕ)
    → is_digit b ≡ true
    → read_digits u bs ≡ Some v
    → read_digits u (bs ++ (b ∷ [])) ≡ Some (v * 10 + (b - zero_digit))
unfolding read_digits
read_digits_more u v b [] d e = rw d (ap (λ (x : ℕ). Some (x * 10 + (b - zero_digit))) (let p : u ≡ v = cc in p))
read_digits_more u v b (x ∷ bs) d e =
    let p = cond_value (is_digit x) _ v e in
    rw p.0 (read_digits_more (u * 10 + (x - zero_digit)) v b bs d p.1)

-- digits after a number above 0 come to a number above 0
read_digits_pos : (u v : ℕ) (bs : List ℕ) → 0 < u → read_digits u bs ≡ Some v → 0 < v
unfolding read_digits
read_digits_pos u v [] h e = let p : u ≡ v = cc in omega arith
read_digits_pos u v (b ∷ bs) h e =
    read_digits_pos (u * 10 + (b - zero_digit)) v bs (omega arith) (cond_value (is_digit b) _ v e).1

-- a digit behind a number above 0
padded_next : (w u b : ℕ)
    → 0 < u
    → is_digit b ≡ true
    → padded (suc w) (u * 10 + (b - zero_digit)) ≡ padded w u ++ (b ∷ [])
padded_next w u b h d =
    let f = digit_facts b d in
    let q : (u * 10 + (b - zero_digit)) / 10 ≡ u = omega arith in
    let r : last_digit (u * 10 + (b - zero_digit)) ≡ b = omega arith in
    rw (padded_more w (u * 10 + (b - zero_digit)) (omega arith), q, r)

ne_digit : (b : ℕ) → zero_digit ≤ b → (b ≡ zero_digit → ⊥) → 0 < 0 * 10 + (b - zero_digit)
ne_digit b h n = ⊎_elim (λ e. absurd (n (sym e))) (λ l. omega arith) (eq-or-lt_of_le h)

-- a digit alone
padded_digit : (b : ℕ) → 0 < 0 * 10 + (b - zero_digit) → is_digit b ≡ true → padded 1 (0 * 10 + (b - zero_digit)) ≡ b ∷ []
unfolding signed_padded
padded_digit b h d =
    let f = digit_facts b d in
    padded_more 0 (0 * 10 + (b - zero_digit)) h ∙ ap (λ (x : ℕ). x ∷ []) (omega arith)

-- digits behind a number above 0: written, they follow it
read_digits_padded : (w u v : ℕ) (bs : List ℕ)
    → 0 < u
    → read_digits u bs ≡ Some v
    → padded (w + length bs) v ≡ padded w u ++ bs
unfolding read_digits
read_digits_padded w u v [] h e = let p : u ≡ v = cc in simp (add-zero, append-nil, p)
read_digits_padded w u v (b ∷ bs) h e =
    let p = cond_value (is_digit b) _ v e in
    let i = read_digits_padded (suc w) (u * 10 + (b - zero_digit)) v bs (omega arith) p.1 in
    ap (λ (n : ℕ). padded n v) (omega arith)
    ∙ i
    ∙ rw (padded_next w u b h p.0, append_assoc)

-- a number of w digits and more behind it
read_digits_narrow : (w u v : ℕ) (bs : List ℕ)
    → u < 10 ^ w
    → read_digits u bs ≡ Some v
    → v < 10 ^ (w + length bs)
unfolding read_digits
read_digits_narrow w u v [] h e = let p : u ≡ v = cc in rw (add-zero, ← p) h
read_digits_narrow w u v (b ∷ bs) h e =
    let p = cond_value (is_digit b) _ v e in
    let d = digit_facts b p.0 in
    let t = pow-succ' 10 w in
    subst (λ (n : ℕ). v < 10 ^ n) (omega arith)
    (read_digits_narrow (suc w) (u * 10 + (b - zero_digit)) v bs (omega arith) p.1)

-- ---- a field read

-- a number above 0 begins with another digit than 0
read_number_leads : (v b : ℕ) (bs : List ℕ) → 0 < v → read_number (b ∷ bs) ≡ Some v → eqb b zero_digit ≡ false
unfolding read_number read_digits
read_number_leads v b [] h e =
    false_unless (eqb b zero_digit) λ t.
    let p = cond_no (eqb b zero_digit && ltb 0 0) _ v e in
    let q = cond_value (is_digit b) _ v p.1 in
    let r : 0 * 10 + (b - zero_digit) ≡ v = cc q.1 in
    omega (arith, eqb-true b zero_digit t)
read_number_leads v b (x ∷ bs) h e =
    false_unless (eqb b zero_digit) λ t.
    cc (and_true t (lt-ltb 0 (suc (length bs)) (omega arith)), (cond_no (eqb b zero_digit && ltb 0 (suc (length bs))) _ v e).0)

-- a number above 0, and a digit more at its right edge
read_number_more : (v d : ℕ) (l : List ℕ)
    → 0 < v
    → is_digit d ≡ true
    → read_number l ≡ Some v
    → read_number (l ++ (d ∷ [])) ≡ Some (v * 10 + (d - zero_digit))
unfolding read_number
read_number_more v d [] h g e = absurd cc
read_number_more v d (b ∷ bs) h g e =
    rw (read_number_leads v b bs h e)
    (read_digits_more 0 v d (b ∷ bs) g (cond_no (eqb b zero_digit && ltb 0 (length bs)) _ v e).1)

read_field_more : (v d : ℕ) (l : List ℕ)
    → 0 < v
    → is_digit d ≡ true
    → read_field l ≡ Some v
    → read_field (l ++ (d ∷ [])) ≡ Some (v * 10 + (d - zero_digit))
unfolding read_field
read_field_more v d [] h g e = absurd cc
read_field_more v d (b ∷ bs) h g e =
    either (eqb b blank) (λ t. rw t (read_field_more v d bs h g (rw t at e)))
    (λ t. rw t (read_number_more v d (b ∷ bs) h g (rw t at e)))

-- blanks before a field are passed over
read_field_blanks : (w : ℕ) (l : List ℕ) → read_field (padded w 0 ++ l) ≡ read_field l
unfolding read_field signed_padded
read_field_blanks zero l = refl
read_field_blanks (suc w) l = rw (padded_wider w 0 (one-le-pow w 10 (lit< tt))) (read_field_blanks w l)

pub read_field_digit : (d : ℕ) → is_digit d ≡ true → read_field (d ∷ []) ≡ Some (d - zero_digit)
unfolding read_field read_number read_digits
read_field_digit d g =
    let f = digit_facts d g in
    rw (ne_eqb d blank (λ e. omega arith), g, and-false (eqb d zero_digit)) (ap Some (omega arith))

-- the digits of q and one more, d, with blanks before them
module _ (w : ℕ) (above : (q : ℕ) → 0 < q → q < 10 ^ w → read_field (padded w q) ≡ Some q) where
  read_field_last : (v : ℕ) → v < 10 ^ suc w → read_field (padded w (v / 10) ++ (last_digit v ∷ [])) ≡ Some v
  read_field_last v h =
      ⊎_elim
      (λ z.
      ap (λ (q : ℕ). read_field (padded w q ++ (last_digit v ∷ []))) z
      ∙ read_field_blanks w (last_digit v ∷ [])
      ∙ read_field_digit (last_digit v) (last_digit_is_digit v)
      ∙ ap Some (omega arith))
      (λ p.
      read_field_more (v / 10) (last_digit v) (padded w (v / 10)) p (last_digit_is_digit v) (above (v / 10) p (omega (arith, h, pow-succ' 10 w)))
      ∙ ap Some (omega arith))
      (eq-zero-or-pos (v / 10))

read_field_padded : (w v : ℕ) → 0 < v → v < 10 ^ w → read_field (padded w v) ≡ Some v
read_field_padded zero v p h = absurd (omega arith)
read_field_padded (suc w) v p h = rw (padded_more w v p) (read_field_last w (read_field_padded w) v h)

-- reading a field gives what was written
pub read_field_field_bytes : (w v : ℕ) → 0 < w → v < 10 ^ w → read_field (field_bytes w v) ≡ Some v
unfolding signed_field
read_field_field_bytes zero v p h = absurd (omega arith)
read_field_field_bytes (suc w) v p h = read_field_last w (read_field_padded w) v h

-- the bytes of a field, and its number has no more digits than they are
record Reads (l : List ℕ) (v : ℕ) : Type 0 where
  bytes : field_bytes (length l) v ≡ l
  narrow : v < 10 ^ length l

-- a single 0
reads_zero : (b v : ℕ) (bs : List ℕ) → eqb b zero_digit ≡ true → read_number (b ∷ bs) ≡ Some v → Reads (b ∷ bs) v
unfolding read_number read_digits signed_field signed_padded
reads_zero b v [] z e =
    let p = cond_no (eqb b zero_digit && ltb 0 0) _ v e in
    let q = cond_value (is_digit b) _ v p.1 in
    let r : 0 * 10 + (b - zero_digit) ≡ v = cc q.1 in
    let s = eqb-true b zero_digit z in
    record { bytes = ap (λ (x : ℕ). x ∷ []) (omega arith); narrow = omega arith }
reads_zero b v (x ∷ bs) z e =
    absurd
    (cc (and_true z (lt-ltb 0 (suc (length bs)) (omega arith)), (cond_no (eqb b zero_digit && ltb 0 (suc (length bs))) _ v e).0))

-- a digit above 0, and digits
reads_digits : (b v : ℕ) (bs : List ℕ) → eqb b zero_digit ≡ false → read_number (b ∷ bs) ≡ Some v → Reads (b ∷ bs) v
unfolding read_number read_digits
reads_digits b v bs z e =
    let p = cond_no (eqb b zero_digit && ltb 0 (length bs)) _ v e in
    let q = cond_value (is_digit b) _ v p.1 in
    let d = digit_facts b q.0 in
    let s : 0 < 0 * 10 + (b - zero_digit) = ne_digit b d.0 (eqb-false b zero_digit z) in
    record {
      bytes = field_bytes_padded (length bs) v (read_digits_pos _ v bs s q.1)
          ∙ ap (λ (n : ℕ). padded n v) (omega arith)
          ∙ read_digits_padded 1 (0 * 10 + (b - zero_digit)) v bs s q.1
          ∙ ap (λ (l : List ℕ). l ++ bs) (padded_digit b s q.0);
      narrow =
          subst
          (λ (n : ℕ). v < 10 ^ n)
          (omega arith)
          (read_digits_narrow 1 (0 * 10 + (b - zero_digit)) v bs (omega arith) q.1);
    }

read_number_reads : (b v : ℕ) (bs : List ℕ) → read_number (b ∷ bs) ≡ Some v → Reads (b ∷ bs) v
read_number_reads b v bs e =
    either (eqb b zero_digit) (λ z. reads_zero b v bs z e) (λ z. reads_digits b v bs z e)

-- a blank more
reads_blank : (b v : ℕ) (bs : List ℕ) → b ≡ blank → read_field bs ≡ Some v → Reads bs v → Reads (b ∷ bs) v
unfolding read_field
reads_blank b v [] s e r = absurd cc
reads_blank b v (x ∷ bs) s e r = record {
  bytes = field_bytes_wider (length bs) v r.narrow ∙ rw (r.bytes, s);
  narrow = omega (arith, r.narrow, pow-succ' 10 (suc (length bs)));
}

read_field_reads : (l : List ℕ) (v : ℕ) → read_field l ≡ Some v → Reads l v
unfolding read_field
read_field_reads [] v e = absurd cc
read_field_reads (b ∷ bs) v e =
    either (eqb b blank)
    (λ t. reads_blank b v bs (eqb-true b blank t) (rw t at e) (read_field_reads bs v (rw t at e)))
    (λ t. read_number_reads b v bs (rw t at e))

-- writing what was read of a field gives its bytes
pub field_bytes_read_field : (l : List ℕ) (v : ℕ) → read_field l ≡ Some v → field_bytes (length l) v ≡ l
field_bytes_read_field l v e = (read_field_reads l v e).bytes

-- and it has no more digits than the field columns
pub read_field_narrow : (l : List ℕ) (v : ℕ) → read_field l ≡ Some v → v < 10 ^ length l
read_field_narrow l v e = (read_field_reads l v e).narrow
