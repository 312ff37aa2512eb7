-- Laws of specs/Words. To cite: `high_no`, `high_fits`, `high_yes` (the test for eight digits), `value_fits`, `value_pairs` (their number by
-- pairs), `blanks_led`, `blanks_last` (a field of eight columns), `word_take` (eight bytes of a line, put together), `next_is` (one
-- column), `columns_none`, `columns_read` (columns that others follow), `last_digit_lem`, `last_other`, `eight_below`, `tail_digits` and
-- `tail_none` (those to the right edge). Assumes nothing.
use Rattle.std.proofs.Common.{None, Option, Some, IfSome, ℕ}
use mathlib.Core.Path.{◌≡◌, refl, sym, ap, ◌∙◌, subst}
use mathlib.Core.Bool.{Bool, true, false, cond, not, ◌&&◌, and-false, and_assoc}
use mathlib.Core.List.{List, [], ◌∷◌, ◌++◌}
use Prim.Native.Nat.{ℕ, zero, suc, ◌+◌, ◌-◌, ◌*◌, ◌/◌, ◌%◌, ◌^◌, ◌≤◌, ◌<◌}
use native.Mathlib.Nat.{pow-succ', pow-suc, one-le-pow, lt_of_le_of_lt}
use native.Mathlib.Omega.{arith}
use lib.Arith.{mod-mul}
use lib.Bits.{bit_and, and_block, and_le_r}
use lib.Dec.{leb, ltb, eqb, lit<, lit≤}
use lib.ListN.{length, take, drop, get_or, length-take, length-drop}
use lib.Seq.{drop-cons, drop-drop, take-add, take-take, length-take-le}
use borrow.Author.Tests.{leb-true, le-leb, lt-leb, ltb-true, ltb-false, lt-ltb, eqb-true, eqb-false, eq-eqb, ne_eqb}
use Rattle.std.specs.Int.{w64, byte_at, bytes_low_first, from_le_bytes}
use Rattle.std.proofs.lemmas.Nat.{le_bytes_8}
use Rattle.std.proofs.lemmas.List.{get_or-take, get_or_past}
use Rattle.std.proofs.Math.Nat.{div-div-eq-div-mul}
use Rattle.std.proofs.lemmas.Bool.{agree_below_at}
use Rattle.common.proofs.Tests.{either, not_true, same_arms, and_halves}
use Rattle.digits.specs.Field.{blank, zero_digit, is_digit, read_digits, read_number, read_field}
use Rattle.digits.specs.Words.{bytes_of, are_digits, digits_from, led_by, onward, onward_of}
use Rattle.digits.proofs.Laws.Field.{digit_facts, read_field_digit}

-- ---- the bytes of a word

-- bytes as one number, the first the lowest
abbrev pub word_of : List ℕ → ℕ
word_of [] = 0
word_of (b ∷ bs) = word_of bs * 256 + b

abbrev Bytes : List ℕ → Type 0
Bytes [] = Unit {0}
Bytes (b ∷ bs) = (b < 256) × Bytes bs

bytes_word : (bs : List ℕ) → Bytes bs → bytes_of (length bs) (word_of bs) ≡ bs
unfolding bytes_of
bytes_word [] p = refl
bytes_word (b ∷ bs) p =
    let h = p.0 in
    let r : (word_of bs * 256 + b) % 256 ≡ b = omega arith in
    let q : (word_of bs * 256 + b) / 256 ≡ word_of bs = omega arith in
    rw (r, q, bytes_word bs p.1)

word_bytes : (n w : ℕ) → w < 256 ^ n → word_of (bytes_of n w) ≡ w
unfolding bytes_of
word_bytes zero w h = omega arith
word_bytes (suc n) w h =
    let p = pow-succ' 256 n in
    rw (word_bytes n (w / 256) (omega arith)) (omega arith)

bytes_of_bytes : (n w : ℕ) → Bytes (bytes_of n w)
unfolding bytes_of
bytes_of_bytes zero w = tt
bytes_of_bytes (suc n) w = (omega arith, bytes_of_bytes n (w / 256))

-- ---- two words are equal where their bytes are

eqb_block : (x y a b : ℕ) → a < 256 → b < 256 → eqb (x * 256 + a) (y * 256 + b) ≡ eqb a b && eqb x y
eqb_block x y a b ha hb =
    grind arith

-- ---- the test for digits: the upper half of a byte, and of the byte with 6 added

abbrev high : ℕ → Bool
high b = eqb (bit_and b 240) 48

high_all : List ℕ → Bool
high_all [] = true
high_all (b ∷ bs) = high b && high_all bs

-- one byte for each of a list
same : ℕ → List ℕ → List ℕ
same c [] = []
same c (b ∷ bs) = c ∷ same c bs

high_word : (bs : List ℕ) → Bytes bs → eqb (bit_and (word_of bs) (word_of (same 240 bs))) (word_of (same 48 bs)) ≡ high_all bs
unfolding high_all same
high_word [] p = refl
high_word (b ∷ bs) p =
    ap (λ (x : ℕ). eqb x (word_of (same 48 bs) * 256 + 48)) (and_block 8 (word_of bs) (word_of (same 240 bs)) b 240 p.0 (lit< tt))
    ∙ eqb_block (bit_and (word_of bs) (word_of (same 240 bs))) (word_of (same 48 bs)) (bit_and b 240) 48
    (lt_of_le_of_lt (and_le_r b 240) (lit< tt))
    (lit< tt)
    ∙ ap (λ (t : Bool). high b && t) (high_word bs p.1)

-- of each byte, by one test over all of them
byte? : ℕ → Bool
byte? b = cond (high b) (cond (is_digit b) (high (b + 6)) (not (high (b + 6))) && leb b 63) (not (is_digit b))

byte_facts : (b : ℕ) → b < 256 → byte? b ≡ true
unfolding byte?
byte_facts b h = agree_below_at byte? (λ b. true) 256 b refl h

-- what the test says of a byte
digit_high : (b : ℕ) → b < 256 → high b ≡ false → is_digit b ≡ false
unfolding byte?
digit_high b h e = not_true (rw e at (byte_facts b h))

high_six : (b : ℕ) → b < 256 → high b ≡ true → (high (b + 6) ≡ is_digit b) × (b ≤ 63)
unfolding byte?
high_six b h e =
    let p = and_halves (cond (is_digit b) (high (b + 6)) (not (high (b + 6)))) (rw e at (byte_facts b h)) in
    (grind (arith, p.0), leb-true b 63 p.1)

-- of all bytes
high_digits : (bs : List ℕ) → Bytes bs → high_all bs ≡ false → are_digits bs ≡ false
unfolding high_all are_digits
high_digits [] p e = absurd cc
high_digits (b ∷ bs) p e =
    either (high b)
    (λ t.
    either (is_digit b) (λ d. rw d (high_digits bs p.1 (rw t at e))) (λ d. rw d))
    (λ t. rw (digit_high b p.0 t))

-- 6 added to each byte
six : List ℕ → List ℕ
six [] = []
six (b ∷ bs) = (b + 6) ∷ six bs

six_word : (bs : List ℕ) → word_of bs + word_of (same 6 bs) ≡ word_of (six bs)
unfolding same six
six_word [] = refl
six_word (b ∷ bs) = let i = six_word bs in omega arith

six_bytes : (bs : List ℕ) → Bytes bs → high_all bs ≡ true → Bytes (six bs)
unfolding high_all six
six_bytes [] p e = tt
six_bytes (b ∷ bs) p e =
    let t = and_halves (high b) e in
    let l = (high_six b p.0 t.0).1 in
    (omega arith, six_bytes bs p.1 t.1)

six_high : (bs : List ℕ) → Bytes bs → high_all bs ≡ true → high_all (six bs) ≡ are_digits bs
unfolding high_all six are_digits
six_high [] p e = refl
six_high (b ∷ bs) p e =
    let t = and_halves (high b) e in
    rw ((high_six b p.0 t.0).0, six_high bs p.1 t.1)

module _ (w : ℕ) (h : w < 2 ^ 64) where
  high_is : eqb (bit_and w 17361641481138401520) 3472328296227680304 ≡ high_all (bytes_of 8 w)
  unfolding bytes_of same
  high_is =
      subst (λ (x : ℕ). eqb (bit_and x 17361641481138401520) 3472328296227680304 ≡ high_all (bytes_of 8 w)) (word_bytes 8 w h)
      (high_word (bytes_of 8 w) (bytes_of_bytes 8 w))

  -- an upper half that is none of a digit's
  pub high_no : (bit_and w 17361641481138401520 ≡ 3472328296227680304 → ⊥) → are_digits (bytes_of 8 w) ≡ false
  high_no n = high_digits (bytes_of 8 w) (bytes_of_bytes 8 w) (sym high_is ∙ ne_eqb _ _ n)

  module _ (e : bit_and w 17361641481138401520 ≡ 3472328296227680304) where
    all_high : high_all (bytes_of 8 w) ≡ true
    all_high = sym high_is ∙ eq-eqb _ _ e

    six_is : w + 434041037028460038 ≡ word_of (six (bytes_of 8 w))
    unfolding bytes_of same six
    six_is =
        subst (λ (x : ℕ). x + 434041037028460038 ≡ word_of (six (bytes_of 8 w))) (word_bytes 8 w h) (six_word (bytes_of 8 w))

    pub high_fits : w + 434041037028460038 < 2 ^ 64
    unfolding bytes_of six
    high_fits =
        let p = six_bytes (bytes_of 8 w) (bytes_of_bytes 8 w) all_high in
        let i = six_is in
        eight_lt _ _ _ _ _ _ _ _ p i
      where
        eight_lt : (a b c d e f g h : ℕ) → Bytes (a ∷ b ∷ c ∷ d ∷ e ∷ f ∷ g ∷ h ∷ []) → {x : ℕ} → x ≡ word_of (a ∷ b ∷ c ∷ d ∷ e ∷ f ∷ g ∷ h ∷ []) → x < 2 ^ 64
        eight_lt a b c d e f g h p {x} q =
            let p1 = p.1 in
            let p2 = p1.1 in
            let p3 = p2.1 in
            let p4 = p3.1 in
            let p5 = p4.1 in
            let p6 = p5.1 in
            omega (arith, p.0, p1.0, p2.0, p3.0, p4.0, p5.0, p6.0, p6.1.0)

    pub high_yes : eqb (bit_and (w + 434041037028460038) 17361641481138401520) 3472328296227680304 ≡ are_digits (bytes_of 8 w)
    unfolding bytes_of same six
    high_yes =
        let bs = bytes_of 8 w in
        let p = bytes_of_bytes 8 w in
        ap (λ (x : ℕ). eqb (bit_and x 17361641481138401520) 3472328296227680304) six_is
        ∙ high_word (six bs) (six_bytes bs p all_high)
        ∙ six_high bs p all_high

-- ---- the number of eight digits, by pairs

-- two digits d and k, and u behind them, which begins with the digit j: the pair is the lowest byte, and behind it stands what comes of u
pair : (v d k j t : ℕ)
    → d ≤ 9
    → k ≤ 9
    → j ≤ 9
    → t ≡ ((v * 256 + j) * 256 + k) * 256 + d
    → ((t * 10 + t / 256) % 256 ≡ d * 10 + k) × ((t * 10 + t / 256) / 65536 ≡ (v * 256 + j) * 10 + v)
pair v d k j t hd hk hj e =
    let q : t / 256 ≡ (v * 256 + j) * 256 + k = omega arith in
    rw q (omega arith, omega arith)

last_pair : (g h : ℕ) → g ≤ 9 → h ≤ 9 → (((0 * 256 + h) * 256 + g) * 10 + (0 * 256 + h)) % 256 ≡ g * 10 + h
last_pair g h hg hh = omega arith

-- eight digits from the lowest byte on
abbrev tower : ℕ → ℕ → ℕ → ℕ → ℕ → ℕ → ℕ → ℕ → ℕ
tower a b c d e f g h = word_of (a ∷ b ∷ c ∷ d ∷ e ∷ f ∷ g ∷ h ∷ [])

module _ (a b c d e f g h : ℕ) (ha : a ≤ 9) (hb : b ≤ 9) (hc : c ≤ 9) (hd : d ≤ 9) (he : e ≤ 9) (hf : f ≤ 9) (hg : g ≤ 9) (hh : h ≤ 9) where
  pairs : (t : ℕ)
      → t ≡ tower a b c d e f g h
      → let p : ℕ = t * 10 + t / 256 in
      p % 256 * 1000000 + p / 65536 % 256 * 10000 + p / 4294967296 % 256 * 100 + p / 281474976710656 % 256
      ≡ (a * 10 + b) * 1000000 + (c * 10 + d) * 10000 + (e * 10 + f) * 100 + (g * 10 + h)
  pairs t i =
      let p : ℕ = t * 10 + t / 256 in
      let v3 : ℕ = word_of (d ∷ e ∷ f ∷ g ∷ h ∷ []) in
      let v5 : ℕ = word_of (f ∷ g ∷ h ∷ []) in
      let v7 : ℕ = word_of (h ∷ []) in
      let s0 = pair v3 a b c t ha hb hc i in
      let t2 : ℕ = v3 * 256 + c in
      let q2 : t2 / 256 ≡ v3 = omega arith in
      let s2 = pair v5 c d e t2 hc hd he refl in
      let t4 : ℕ = v5 * 256 + e in
      let q4 : t4 / 256 ≡ v5 = omega arith in
      let s4 = pair v7 e f g t4 he hf hg refl in
      let t6 : ℕ = v7 * 256 + g in
      let p2 : p / 65536 ≡ t2 * 10 + t2 / 256 = s0.1 ∙ ap (λ (x : ℕ). t2 * 10 + x) (sym q2) in
      let p4 : p / 4294967296 ≡ t4 * 10 + t4 / 256 =
      sym (div-div-eq-div-mul p 65536 65536) ∙ ap (λ (x : ℕ). x / 65536) p2 ∙ s2.1 ∙ ap (λ (x : ℕ). t4 * 10 + x) (sym q4) in
      let p6 : p / 281474976710656 ≡ t6 * 10 + v7 = sym (div-div-eq-div-mul p 4294967296 65536) ∙ ap (λ (x : ℕ). x / 65536) p4 ∙ s4.1 in
      let r0 : p % 256 ≡ a * 10 + b = s0.0 in
      let r2 : p / 65536 % 256 ≡ c * 10 + d = ap (λ (x : ℕ). x % 256) p2 ∙ s2.0 in
      let r4 : p / 4294967296 % 256 ≡ e * 10 + f = ap (λ (x : ℕ). x % 256) p4 ∙ s4.0 in
      let r6 : p / 281474976710656 % 256 ≡ g * 10 + h = ap (λ (x : ℕ). x % 256) p6 ∙ last_pair g h hg hh in
      rw (r0, r2, r4, r6)

-- the digits of bytes
record Eight (a b c d e f g h : ℕ) : Type 0 where
  a_is : (48 ≤ a) × (a ≤ 57)
  b_is : (48 ≤ b) × (b ≤ 57)
  c_is : (48 ≤ c) × (c ≤ 57)
  d_is : (48 ≤ d) × (d ≤ 57)
  e_is : (48 ≤ e) × (e ≤ 57)
  f_is : (48 ≤ f) × (f ≤ 57)
  g_is : (48 ≤ g) × (g ≤ 57)
  h_is : (48 ≤ h) × (h ≤ 57)

eight_digits : (a b c d e f g h : ℕ) → are_digits (a ∷ b ∷ c ∷ d ∷ e ∷ f ∷ g ∷ h ∷ []) ≡ true → Eight a b c d e f g h
unfolding are_digits
eight_digits a b c d e f g h t =
    let p0 = and_halves (is_digit a) t in
    let p1 = and_halves (is_digit b) p0.1 in
    let p2 = and_halves (is_digit c) p1.1 in
    let p3 = and_halves (is_digit d) p2.1 in
    let p4 = and_halves (is_digit e) p3.1 in
    let p5 = and_halves (is_digit f) p4.1 in
    let p6 = and_halves (is_digit g) p5.1 in
    let p7 = and_halves (is_digit h) p6.1 in
    record {
      a_is = digit_facts a p0.0;
      b_is = digit_facts b p1.0;
      c_is = digit_facts c p2.0;
      d_is = digit_facts d p3.0;
      e_is = digit_facts e p4.0;
      f_is = digit_facts f p5.0;
      g_is = digit_facts g p6.0;
      h_is = digit_facts h p7.0;
    }

-- what holds of eight bytes put together holds of a word
by_bytes : (P : ℕ → List ℕ → Type 0)
    → ((a b c d e f g h : ℕ) → P (tower a b c d e f g h) (a ∷ b ∷ c ∷ d ∷ e ∷ f ∷ g ∷ h ∷ []))
    → (w : ℕ)
    → w < 2 ^ 64
    → P w (bytes_of 8 w)
unfolding bytes_of
by_bytes P f w h = subst (λ (x : ℕ). P x (bytes_of 8 w)) (word_bytes 8 w h) (f _ _ _ _ _ _ _ _)

pub record ValueFits (w : ℕ) : Type 0 where
  pub from : 3472328296227680304 ≤ w
  pub to : w - 3472328296227680304 ≤ 651061555542690057

tower_fits : (a b c d e f g h : ℕ) → Eight a b c d e f g h → ValueFits (tower a b c d e f g h)
tower_fits a b c d e f g h p = record { from = omega arith; to = omega arith }

pub value_fits : (w : ℕ) → w < 2 ^ 64 → are_digits (bytes_of 8 w) ≡ true → ValueFits w
value_fits =
    by_bytes (λ (w : ℕ) (bs : List ℕ). are_digits bs ≡ true → ValueFits w)
    (λ a b c d e f g h t. tower_fits a b c d e f g h (eight_digits a b c d e f g h t))

pub value_from : (w : ℕ) → w < 2 ^ 64 → are_digits (bytes_of 8 w) ≡ true → 3472328296227680304 ≤ w
value_from w h t = (value_fits w h t).from

abbrev pub pairs_of : ℕ → ℕ
pairs_of p = p % 256 * 1000000 + p / 65536 % 256 * 10000 + p / 4294967296 % 256 * 100 + p / 281474976710656 % 256

tower_off : (a b c d e f g h : ℕ)
    → Eight a b c d e f g h
    → tower a b c d e f g h - 3472328296227680304 ≡ tower (a - 48) (b - 48) (c - 48) (d - 48) (e - 48) (f - 48) (g - 48) (h - 48)
tower_off a b c d e f g h p =
    omega (
      arith,
      shift a b c d e f g h (a - 48) (b - 48) (c - 48) (d - 48) (e - 48) (f - 48) (g - 48) (h - 48) (omega (arith, p.a_is)) (omega (arith, p.b_is))
          (omega (arith, p.c_is)) (omega (arith, p.d_is)) (omega (arith, p.e_is)) (omega (arith, p.f_is)) (omega (arith, p.g_is)) (omega (arith, p.h_is)),
    )
  where
    shift : (a b c d e f g h a' b' c' d' e' f' g' h' : ℕ)
        → a ≡ 48 + a' → b ≡ 48 + b' → c ≡ 48 + c' → d ≡ 48 + d' → e ≡ 48 + e' → f ≡ 48 + f' → g ≡ 48 + g' → h ≡ 48 + h'
        → tower a b c d e f g h ≡ tower a' b' c' d' e' f' g' h' + 3472328296227680304
    shift a b c d e f g h a' b' c' d' e' f' g' h' ia ib ic id ie if ig ih = omega arith

tower_value : (a b c d e f g h : ℕ)
    → Eight a b c d e f g h
    → let t : ℕ = tower a b c d e f g h - 3472328296227680304 in
    pairs_of (t * 10 + t / 256) ≡ digits_from 0 (a ∷ b ∷ c ∷ d ∷ e ∷ f ∷ g ∷ h ∷ [])
unfolding digits_from
tower_value a b c d e f g h p =
    pairs (a - 48) (b - 48) (c - 48) (d - 48) (e - 48) (f - 48) (g - 48) (h - 48)
    (omega (arith, p.a_is)) (omega (arith, p.b_is)) (omega (arith, p.c_is)) (omega (arith, p.d_is))
    (omega (arith, p.e_is)) (omega (arith, p.f_is)) (omega (arith, p.g_is)) (omega (arith, p.h_is))
    (tower a b c d e f g h - 3472328296227680304)
    (tower_off a b c d e f g h p)
    ∙ horner (a - 48) (b - 48) (c - 48) (d - 48) (e - 48) (f - 48) (g - 48) (h - 48)
  where
    horner : (a b c d e f g h : ℕ)
        → (a * 10 + b) * 1000000 + (c * 10 + d) * 10000 + (e * 10 + f) * 100 + (g * 10 + h)
        ≡ (((((((0 * 10 + a) * 10 + b) * 10 + c) * 10 + d) * 10 + e) * 10 + f) * 10 + g) * 10 + h
    horner a b c d e f g h = omega arith

pub value_pairs : (w : ℕ) → w < 2 ^ 64 → are_digits (bytes_of 8 w) ≡ true → let t : ℕ = w - 3472328296227680304 in pairs_of (t * 10 + t / 256) ≡ digits_from 0 (bytes_of 8 w)
value_pairs =
    by_bytes (λ (w : ℕ) (bs : List ℕ). are_digits bs ≡ true → let t : ℕ = w - 3472328296227680304 in pairs_of (t * 10 + t / 256) ≡ digits_from 0 bs)
    (λ a b c d e f g h t. tower_value a b c d e f g h (eight_digits a b c d e f g h t))

-- ---- blanks before a field

-- k times a byte before a list
abbrev pub rep : ℕ → ℕ → List ℕ → List ℕ
rep zero c l = l
rep (suc k) c l = c ∷ rep k c l

-- the first k bytes are blanks
are_blanks : ℕ → List ℕ → Bool
are_blanks zero bs = true
are_blanks (suc k) [] = false
are_blanks (suc k) (b ∷ bs) = eqb b blank && are_blanks k bs

-- the test of the k lowest bytes of a word
blank_test : (k : ℕ) (bs : List ℕ) → Bytes bs → k ≤ length bs → eqb (word_of bs % 256 ^ k) (word_of (rep k blank [])) ≡ are_blanks k bs
unfolding are_blanks
blank_test zero bs p h = eq-eqb (word_of bs % 1) 0 (omega arith)
blank_test (suc k) [] p h = absurd (omega arith)
blank_test (suc k) (b ∷ bs) p h =
    let hb = p.0 in
    let x : ℕ = word_of bs in
    let r : (x * 256 + b) % 256 ≡ b = omega arith in
    let q : (x * 256 + b) / 256 ≡ x = omega arith in
    let m : (x * 256 + b) % 256 ^ suc k ≡ x % 256 ^ k * 256 + b =
    ap (λ (n : ℕ). (x * 256 + b) % n) (pow-suc 256 k)
    ∙ mod-mul (x * 256 + b) {m = 256 ^ k} {c = 256} (one-le-pow k 256 (lit< tt)) (lit< tt)
    ∙ rw (r, q) in
    ap (λ (n : ℕ). eqb n (word_of (rep k blank []) * 256 + blank)) m
    ∙ eqb_block (x % 256 ^ k) (word_of (rep k blank [])) b blank hb (lit< tt)
    ∙ ap (λ (t : Bool). eqb b blank && t) (blank_test k bs p.1 (omega arith))

blanks_list : (k : ℕ) (bs : List ℕ) → are_blanks k bs ≡ true → bs ≡ rep k blank (drop k bs)
unfolding are_blanks
blanks_list zero bs e = refl
blanks_list (suc k) [] e = absurd cc
blanks_list (suc k) (b ∷ bs) e =
    let t = and_halves (eqb b blank) e in
    ap (λ (x : ℕ). x ∷ bs) (eqb-true b blank t.0) ∙ ap (λ (l : List ℕ). blank ∷ l) (blanks_list k bs t.1)

-- one more blank stands first behind them
blanks_next : (k : ℕ) (bs : List ℕ) → are_blanks (suc k) bs ≡ are_blanks k bs && are_blanks 1 (drop k bs)
unfolding are_blanks
blanks_next zero bs = refl
blanks_next (suc k) [] = refl
blanks_next (suc k) (b ∷ bs) =
    ap (λ (t : Bool). eqb b blank && t) (blanks_next k bs) ∙ sym (and_assoc (eqb b blank) (are_blanks k bs) (are_blanks 1 (drop k bs)))

rep_fill : (k : ℕ) (l : List ℕ) → word_of (rep k blank l) + word_of (rep k 16 []) ≡ word_of (rep k zero_digit l)
rep_fill zero l = omega arith
rep_fill (suc k) l = let i = rep_fill k l in omega arith

rep_bytes : (k : ℕ) (l : List ℕ) → Bytes l → Bytes (rep k zero_digit l)
rep_bytes zero l p = p
rep_bytes (suc k) l p = (lit< tt, rep_bytes k l p)

rep_length : (k c : ℕ) (l : List ℕ) → length (rep k c l) ≡ k + length l
rep_length zero c l = omega arith
rep_length (suc k) c l = let i = rep_length k c l in omega arith

rep_digits : (k : ℕ) (l : List ℕ) → are_digits (rep k zero_digit l) ≡ are_digits l
unfolding are_digits
rep_digits zero l = refl
rep_digits (suc k) l = rep_digits k l

rep_number : (k : ℕ) (l : List ℕ) → digits_from 0 (rep k zero_digit l) ≡ digits_from 0 l
unfolding digits_from
rep_number zero l = refl
rep_number (suc k) l = rep_number k l

rep_field : (k : ℕ) (l : List ℕ) → read_field (rep k blank l) ≡ read_field l
unfolding read_field
rep_field zero l = refl
rep_field (suc k) l = rep_field k l

bytes_drop : (k : ℕ) (bs : List ℕ) → Bytes bs → Bytes (drop k bs)
bytes_drop zero bs p = p
bytes_drop (suc k) [] p = p
bytes_drop (suc k) (b ∷ bs) p = bytes_drop k bs p.1

length_bytes_of : (n w : ℕ) → length (bytes_of n w) ≡ n
unfolding bytes_of
length_bytes_of zero w = refl
length_bytes_of (suc n) w = ap suc (length_bytes_of n (w / 256))

module _ (k w : ℕ) (h : w < 2 ^ 64) (hk : k ≤ 8) (e : w % 256 ^ k ≡ word_of (rep k blank [])) where
  rest : List ℕ
  rest = drop k (bytes_of 8 w)

  all_blank : are_blanks k (bytes_of 8 w) ≡ true
  all_blank =
      sym (blank_test k (bytes_of 8 w) (bytes_of_bytes 8 w) (omega (arith, length_bytes_of 8 w)))
      ∙ eq-eqb _ _ (ap (λ (x : ℕ). x % 256 ^ k) (word_bytes 8 w h) ∙ e)

  parts : bytes_of 8 w ≡ rep k blank rest
  unfolding rest
  parts = blanks_list k (bytes_of 8 w) all_blank

  rest_bytes : Bytes rest
  unfolding rest
  rest_bytes = bytes_drop k (bytes_of 8 w) (bytes_of_bytes 8 w)

  rest_length : k + length rest ≡ 8
  rest_length = sym (rep_length k blank rest) ∙ ap length (sym parts) ∙ length_bytes_of 8 w

  filled : w + word_of (rep k 16 []) ≡ word_of (rep k zero_digit rest)
  filled =
      ap (λ (x : ℕ). x + word_of (rep k 16 [])) (sym (word_bytes 8 w h) ∙ ap word_of parts)
      ∙ rep_fill k rest

  filled_length : length (rep k zero_digit rest) ≡ 8
  filled_length = rep_length k zero_digit rest ∙ rest_length

  filled_bytes : bytes_of 8 (w + word_of (rep k 16 [])) ≡ rep k zero_digit rest
  filled_bytes =
      ap (bytes_of 8) filled
      ∙ subst (λ (n : ℕ). bytes_of n (word_of (rep k zero_digit rest)) ≡ rep k zero_digit rest) filled_length
      (bytes_word (rep k zero_digit rest) (rep_bytes k rest rest_bytes))

  -- blanks filled with zeros give the number of what stands behind them
  filled_led : (least : ℕ) → led_by least (bytes_of 8 (w + word_of (rep k 16 []))) ≡ led_by least rest
  filled_led least = rw (filled_bytes, rep_digits k rest, rep_number k rest)

  blank_field : read_field (bytes_of 8 w) ≡ read_field rest
  blank_field = ap read_field parts ∙ rep_field k rest

-- ---- a field that a digit leads

read_digits_is : (v : ℕ) (bs : List ℕ) → read_digits v bs ≡ cond (are_digits bs) (Some (digits_from v bs)) None
unfolding read_digits are_digits digits_from
read_digits_is v [] = refl
read_digits_is v (b ∷ bs) =
    either (is_digit b) (λ d. rw d (read_digits_is (v * 10 + (b - zero_digit)) bs)) (λ d. rw d)

-- digits behind a number of w digits
digits_below : (w v : ℕ) (bs : List ℕ) → v < 10 ^ w → are_digits bs ≡ true → digits_from v bs < 10 ^ (w + length bs)
unfolding are_digits digits_from
digits_below w v [] h t = subst (λ (n : ℕ). v < 10 ^ n) (omega arith) h
digits_below w v (b ∷ bs) h t =
    let p = and_halves (is_digit b) t in
    let d = digit_facts b p.0 in
    let e = pow-succ' 10 w in
    subst (λ (n : ℕ). digits_from (v * 10 + (b - zero_digit)) bs < 10 ^ n) (omega arith)
    (digits_below (suc w) (v * 10 + (b - zero_digit)) bs (omega arith) p.1)

digits_above : (w v : ℕ) (bs : List ℕ) → 10 ^ w ≤ v → 10 ^ (w + length bs) ≤ digits_from v bs
unfolding digits_from
digits_above w v [] h = subst (λ (n : ℕ). 10 ^ n ≤ v) (omega arith) h
digits_above w v (b ∷ bs) h =
    let e = pow-succ' 10 w in
    subst (λ (n : ℕ). 10 ^ n ≤ digits_from (v * 10 + (b - zero_digit)) bs) (omega arith)
    (digits_above (suc w) (v * 10 + (b - zero_digit)) bs (omega arith))

-- a zero leads only where the number is small
lead_small : (r : ℕ) (rs : List ℕ) → r ≡ zero_digit → are_digits (r ∷ rs) ≡ true → digits_from 0 (r ∷ rs) < 10 ^ length rs
unfolding are_digits digits_from
lead_small r rs e t =
    let z : 0 * 10 + (r - zero_digit) ≡ 0 = omega arith in
    subst (λ (v : ℕ). digits_from v rs < 10 ^ length rs) (sym z)
    (subst (λ (n : ℕ). digits_from 0 rs < 10 ^ n) (omega arith) (digits_below 0 0 rs (lit< tt) (and_halves (is_digit r) t).1))

lead_large : (r : ℕ) (rs : List ℕ) → (r ≡ zero_digit → ⊥) → are_digits (r ∷ rs) ≡ true → 10 ^ length rs ≤ digits_from 0 (r ∷ rs)
unfolding are_digits digits_from
lead_large r rs n t =
    let d = digit_facts r (and_halves (is_digit r) t).0 in
    let z : ¬ (r ≡ zero_digit) = n in
    subst (λ (m : ℕ). 10 ^ m ≤ digits_from (0 * 10 + (r - zero_digit)) rs) (omega arith)
    (digits_above 0 (0 * 10 + (r - zero_digit)) rs (omega arith))

-- a number of at least two columns
number_led : (r : ℕ) (rs : List ℕ) → 0 < length rs → read_number (r ∷ rs) ≡ led_by (10 ^ length rs) (r ∷ rs)
unfolding read_number
number_led r rs h =
    rw (read_digits_is 0 (r ∷ rs), lt-ltb 0 (length rs) h)
    (either (are_digits (r ∷ rs))
    (λ t.
    either (eqb r zero_digit)
    (λ z.
    rw (z, t, lt-leb (10 ^ length rs) (digits_from 0 (r ∷ rs)) (lead_small r rs (eqb-true r zero_digit z) t)))
    (λ z.
    rw (z, t, le-leb (10 ^ length rs) (digits_from 0 (r ∷ rs)) (lead_large r rs (eqb-false r zero_digit z) t))))
    (λ t. rw t (same_arms (eqb r zero_digit && true) None)))

-- a single column, with a digit or not
last_field : (r : ℕ) → read_field (r ∷ []) ≡ led_by 0 (r ∷ [])
unfolding read_field read_number read_digits are_digits digits_from
last_field r =
    either (eqb r blank) (λ e. rw (e, blank_no_digit r (eqb-true r blank e)))
    (λ e. rw (e, and-false (eqb r zero_digit)) (one (is_digit r)))
  where
    blank_no_digit : (b : ℕ) → b ≡ blank → is_digit b ≡ false
    blank_no_digit b e = rw e

    one : (t : Bool) → cond t (Some (0 * 10 + (r - zero_digit))) None ≡ cond ((t && true) && leb 0 (0 * 10 + (r - zero_digit))) (Some (0 * 10 + (r - zero_digit))) None
    one true = rw (le-leb 0 (0 * 10 + (r - zero_digit)) (omega arith))
    one false = refl

rest_led : (l : List ℕ) (n : ℕ) → length l ≡ suc (suc n) → are_blanks 1 l ≡ false → read_field l ≡ led_by (10 ^ suc n) l
unfolding are_blanks read_field
rest_led [] n h e = absurd (omega arith)
rest_led (r ∷ rs) n h e =
    let m : length rs ≡ suc n = omega arith in
    either (eqb r blank) (λ t. absurd cc)
    (λ t.
    rw t (subst (λ (j : ℕ). read_number (r ∷ rs) ≡ led_by (10 ^ j) (r ∷ rs)) m (number_led r rs (omega arith))))

rest_last : (l : List ℕ) → length l ≡ 1 → read_field l ≡ led_by 0 l
rest_last [] h = absurd (omega arith)
rest_last (r ∷ []) h = last_field r
rest_last (r ∷ s ∷ l) h = absurd (omega arith)

-- k blanks, and behind them at least two columns of which the first is none
pub blanks_led : (k n w : ℕ)
    → w < 2 ^ 64
    → k + suc (suc n) ≡ 8
    → w % 256 ^ k ≡ word_of (rep k blank [])
    → (w % 256 ^ suc k ≡ word_of (rep (suc k) blank []) → ⊥)
    → led_by (10 ^ suc n) (bytes_of 8 (w + word_of (rep k 16 []))) ≡ read_field (bytes_of 8 w)
unfolding rest
blanks_led k n w h s e d =
    let b = all_blank k w h (omega arith) e in
    let t : are_blanks (suc k) (bytes_of 8 w) ≡ false =
    sym (blank_test (suc k) (bytes_of 8 w) (bytes_of_bytes 8 w) (omega (arith, length_bytes_of 8 w)))
    ∙ ne_eqb _ _ (λ i. d (ap (λ (x : ℕ). x % 256 ^ suc k) (sym (word_bytes 8 w h)) ∙ i)) in
    let u : are_blanks 1 (drop k (bytes_of 8 w)) ≡ false =
    rw b at (sym (blanks_next k (bytes_of 8 w)) ∙ t) in
    filled_led k w h (omega arith) e (10 ^ suc n)
    ∙ sym (rest_led (rest k w h (omega arith) e) n (omega (arith, rest_length k w h (omega arith) e)) u)
    ∙ (sym (blank_field k w h (omega arith) e))

-- seven blanks and one column more
pub blanks_last : (w : ℕ)
    → w < 2 ^ 64
    → w % 256 ^ 7 ≡ word_of (rep 7 blank [])
    → led_by 0 (bytes_of 8 (w + word_of (rep 7 16 []))) ≡ read_field (bytes_of 8 w)
blanks_last w h e =
    filled_led 7 w h (lit≤ tt) e 0
    ∙ sym (rest_last (rest 7 w h (lit≤ tt) e) (omega (arith, rest_length 7 w h (lit≤ tt) e)))
    ∙ (sym (blank_field 7 w h (lit≤ tt) e))

-- ---- the bytes of a line

bytes_low : (k i n : ℕ) → bytes_low_first i k n ≡ bytes_of k (n / 256 ^ i)
unfolding bytes_of
bytes_low zero i n = refl
bytes_low (suc k) i n =
    let q : n / 256 ^ suc i ≡ n / 256 ^ i / 256 = ap (λ (m : ℕ). n / m) (pow-suc 256 i) ∙ sym (div-div-eq-div-mul n (256 ^ i) 256) in
    rw (lowest i, bytes_low k (suc i) n, q)
  where
    lowest : (i : ℕ) → byte_at i n ≡ n / 256 ^ i % 256
    lowest zero = let q : n / 1 ≡ n = omega arith in rw q
    lowest (suc i) = refl

-- eight bytes put together
pub word_bytes_are : (bs : List ℕ) (n : ℕ) → length bs ≡ 8 → ((i : ℕ) → get_or bs i 0 < 256) → n ≡ from_le_bytes w64 bs → bytes_of 8 n ≡ bs
word_bytes_are bs n l small e = ap (bytes_of 8) (omega arith) ∙ sym (bytes_low 8 0 n) ∙ le_bytes_8 bs n l small e

-- the first eight bytes of some
pub word_front : (l : List ℕ) (n : ℕ) (bs : List ℕ)
    → 8 ≤ length l
    → ((i : ℕ) → get_or l i 0 < 256)
    → bs ≡ take 8 l
    → n ≡ from_le_bytes w64 bs
    → bytes_of 8 n ≡ take 8 l
word_front l n bs h small e f =
    word_bytes_are bs n (ap length e ∙ length-take-le 8 l h) (λ i. rw e (below i)) f ∙ e
  where
    below : (i : ℕ) → get_or (take 8 l) i 0 < 256
    below i =
        either (ltb i 8)
        (λ t. let p : i < 8 = ltb-true i 8 t in rw get_or-take (small i))
        (λ t.
        let m = length-take-le 8 l h in
        let p : length (take 8 l) ≤ i = omega (arith, ltb-false i 8 t) in
        rw get_or_past (lit< tt))

-- the same from a place of a line on
pub word_columns : (l : List ℕ) (m : ℕ) → m + 8 ≤ length l → take 8 (take (length l - m) (drop m l)) ≡ take 8 (drop m l)
word_columns l m h = take-take 8 (length l - m) (drop m l) (omega arith)

-- ---- columns that others follow

-- digits behind a number
onward_number : (v : ℕ) (s : List ℕ) → (v ≡ 0 → ⊥) → onward v s ≡ read_digits v s
unfolding onward
onward_number v s n = rw (ne_eqb v 0 n)

-- one digit
pub last_digit_lem : (v b : ℕ) → is_digit b ≡ true → onward v (b ∷ []) ≡ Some (v * 10 + (b - zero_digit))
unfolding onward read_digits
last_digit_lem v b d =
    either (eqb v 0)
    (λ z.
    let e = eqb-true v 0 z in
    rw (z, read_field_digit b d) (ap Some (omega arith)))
    (λ z. rw (z, d))

pub last_other : (v b : ℕ) → is_digit b ≡ false → onward v (b ∷ []) ≡ None
unfolding onward read_digits are_digits
last_other v b d =
    either (eqb v 0)
    (λ z. rw z (last_field b ∙ rw d))
    (λ z. rw (z, d))

-- a column that is a digit, and at least one behind it
digit_next : (v b : ℕ) (s : List ℕ)
    → 0 < length s
    → is_digit b ≡ true
    → let n = v * 10 + (b - zero_digit) in onward v (b ∷ s) ≡ onward_of (cond (ltb 0 n) (Some n) None) s
unfolding onward read_field read_number read_digits
digit_next v b s l d =
    let f = digit_facts b d in
    either (eqb v 0)
    (λ z.
    let e : v ≡ 0 = eqb-true v 0 z in
    either (eqb b zero_digit)
    (λ t.
    let q : v * 10 + (b - zero_digit) ≡ 0 = omega (arith, eqb-true b zero_digit t) in
    rw (z, q, ne_eqb b blank (λ i. omega arith), t, lt-ltb 0 (length s) l))
    (λ t.
    let m : ¬ (b ≡ zero_digit) = eqb-false b zero_digit t in
    let q : v * 10 + (b - zero_digit) ≡ 0 + (b - zero_digit) = omega arith in
    rw (z, q, ne_eqb b blank (λ i. omega arith), t, d, lt-ltb 0 (0 + (b - zero_digit)) (omega arith), ne_eqb (0 + (b - zero_digit)) 0 (λ i. omega arith))))
    (λ z.
    let m : ¬ (v ≡ 0) = eqb-false v 0 z in
    rw (z, d, lt-ltb 0 (v * 10 + (b - zero_digit)) (omega arith), ne_eqb (v * 10 + (b - zero_digit)) 0 (λ i. omega arith)))

other_next : (v b : ℕ) (s : List ℕ)
    → eqb v 0 && eqb b blank ≡ false
    → is_digit b ≡ false
    → onward v (b ∷ s) ≡ None
unfolding onward read_field read_number read_digits
other_next v b s n d =
    either (eqb v 0)
    (λ z.
    rw (z, rw z at n, d) (same_arms (eqb b zero_digit && ltb 0 (length s)) None))
    (λ z. rw (z, d))

-- what comes of a column b and those before it, which came to v
abbrev pub next_of : ℕ → ℕ → Option ℕ
next_of v b =
    let n = v * 10 + (b - zero_digit) in
    cond (eqb v 0 && eqb b blank) (Some 0) (cond (is_digit b && ltb 0 n) (Some n) None)

pub next_read : (v b : ℕ) (r : Option ℕ) → r ≡ next_of v b → (s : List ℕ) → 0 < length s → onward v (b ∷ s) ≡ onward_of r s
unfolding onward read_field
next_read v b r e s l =
    rw e
    (either (eqb v 0 && eqb b blank)
    (λ t. let p = and_halves (eqb v 0) t in rw (t, p.0, p.1))
    (λ t.
    either (is_digit b)
    (λ d. rw (t, d) (digit_next v b s l d))
    (λ d. rw (t, d) (other_next v b s t d))))

-- a column more is a digit more
pub next_within : (v b : ℕ) (r : Option ℕ) → r ≡ next_of v b → IfSome r (λ x. x < v * 10 + 10)
next_within v b r e =
    rw e
    (either (eqb v 0 && eqb b blank)
    (λ t. rw t (omega arith))
    (λ t.
    either (is_digit b && ltb 0 (v * 10 + (b - zero_digit)))
    (λ d. let f = digit_facts b (and_halves (is_digit b) d).0 in rw (t, d) (omega arith))
    (λ d. rw (t, d) tt)))

pub next_is : (v b : ℕ) (r : Option ℕ)
    → r ≡ next_of v b
    → ((s : List ℕ) → 0 < length s → onward v (b ∷ s) ≡ onward_of r s) × IfSome r (λ x. x < v * 10 + 10)
next_is v b r e = (next_read v b r e, next_within v b r e)

-- columns xs, of which the one at i is the last that was read, and no number comes of it
pub columns_none : (xs ys s : List ℕ) (i v : ℕ)
    → xs ≡ ys
    → i < length xs
    → onward v (drop i xs ++ s) ≡ read_field (xs ++ s)
    → onward v (get_or xs i 0 ∷ (drop (suc i) xs ++ s)) ≡ None
    → None ≡ read_field (ys ++ s)
columns_none xs ys s i v e h p q =
    sym q ∙ ap (λ (m : List ℕ). onward v (m ++ s)) (sym (drop-cons xs i 0 h)) ∙ p ∙ ap (λ (m : List ℕ). read_field (m ++ s)) e

-- the columns before a place, of which r comes, and k from there on
pub columns_read : (l : List ℕ) (at middle k width : ℕ) (r : Option ℕ)
    → ((s : List ℕ) → 0 < length s → onward_of r s ≡ read_field (take (middle - at) (drop at l) ++ s))
    → at ≤ middle
    → middle + k ≡ at + width
    → 0 < k
    → at + width ≤ length l
    → onward_of r (take k (drop middle l)) ≡ read_field (take width (drop at l))
columns_read l at middle k width r read o i j h =
    let n = middle - at in
    let q : middle ≡ at + n = omega arith in
    read (take k (drop middle l)) (let m = length-take k (drop middle l) in let d = length-drop middle l in omega arith)
    ∙ ap read_field
    (ap (λ (m : ℕ). take n (drop at l) ++ take k (drop m l)) q
    ∙ ap (λ (m : List ℕ). take n (drop at l) ++ take k m) (sym (drop-drop n at l))
    ∙ sym (take-add n k (drop at l))
    ∙ ap (λ (m : ℕ). take m (drop at l)) (omega arith))

pub column : (l : List ℕ) (i : ℕ) → i < length l → take 1 (drop i l) ≡ get_or l i 0 ∷ []
column l i h = ap (take 1) (drop-cons l i 0 h)

-- digits behind a number: eight columns more
eight_behind : (v w : ℕ) → digits_from v (bytes_of 8 w) ≡ v * 100000000 + digits_from 0 (bytes_of 8 w)
unfolding bytes_of digits_from
eight_behind v w = horner v _ _ _ _ _ _ _ _
  where
    horner : (v a b c d e f g h : ℕ)
        → (((((((v * 10 + a) * 10 + b) * 10 + c) * 10 + d) * 10 + e) * 10 + f) * 10 + g) * 10 + h
        ≡ v * 100000000 + ((((((((0 * 10 + a) * 10 + b) * 10 + c) * 10 + d) * 10 + e) * 10 + f) * 10 + g) * 10 + h)
    horner v a b c d e f g h = omega arith

-- the number of eight digits is small
pub eight_below : (w : ℕ) → are_digits (bytes_of 8 w) ≡ true → digits_from 0 (bytes_of 8 w) < 100000000
eight_below w t =
    let e : 0 + length (bytes_of 8 w) ≡ 8 = omega (arith, length_bytes_of 8 w) in
    subst (λ (n : ℕ). digits_from 0 (bytes_of 8 w) < 10 ^ n) e (digits_below 0 0 (bytes_of 8 w) (lit< tt) t)

pub tail_digits : (v w : ℕ) → (v ≡ 0 → ⊥)
    → are_digits (bytes_of 8 w) ≡ true
    → onward v (bytes_of 8 w) ≡ Some (v * 100000000 + digits_from 0 (bytes_of 8 w))
tail_digits v w n t = rw (onward_number v (bytes_of 8 w) n, read_digits_is v (bytes_of 8 w), t) (ap Some (eight_behind v w))

pub tail_none : (v w : ℕ) → (v ≡ 0 → ⊥) → are_digits (bytes_of 8 w) ≡ false → onward v (bytes_of 8 w) ≡ None
tail_none v w n t = rw (onward_number v (bytes_of 8 w) n, read_digits_is v (bytes_of 8 w), t)
