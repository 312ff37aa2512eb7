-- A number as text, in a field: its digits to the right edge, and blanks before them. Document 01, "The text line".
-- Bytes are numbers. `signed_field` is what is written of a number, `read_field` what is read of bytes. Assumes nothing.
use Rattle.std.specs.Prelude.{ℕ, zero, suc, ◌+◌, ◌-◌, ◌*◌, ◌/◌, ◌%◌, Bool, cond, ◌&&◌, List, [], ◌∷◌, ◌++◌, leb, ltb, eqb, ℤ, pos, negsuc, nat_abs, length, take, drop, Option, Some, None}

abbrev pub blank : ℕ
blank = 32

abbrev pub minus : ℕ
minus = 45

-- the byte of the digit 0
abbrev pub zero_digit : ℕ
zero_digit = 48

-- ---- the bytes of a field

-- the byte of a number's last digit
abbrev pub last_digit : ℕ → ℕ
last_digit v = zero_digit + v % 10

-- a number above 0 to the right edge of w columns, the sign directly before it and blanks before that; of 0 the sign alone
unfoldable pub signed_padded : ℕ → ℕ → ℕ → List ℕ
signed_padded zero sign v = []
signed_padded (suc w) sign v =
    cond (eqb v 0)
    (signed_padded w blank v ++ (sign ∷ []))
    (signed_padded w sign (v / 10) ++ (last_digit v ∷ []))

-- a field of w columns: a number to its right edge, at least one digit, the sign directly before it and blanks before that; of a
-- number with more digits the last w, and no sign where the digits fill the field
unfoldable pub signed_field : ℕ → ℕ → ℕ → List ℕ
signed_field zero sign v = []
signed_field (suc w) sign v = signed_padded w sign (v / 10) ++ (last_digit v ∷ [])

-- the same without a sign
abbrev pub field_bytes : ℕ → ℕ → List ℕ
field_bytes w v = signed_field w blank v

-- what stands directly before the digits
abbrev pub sign_of : ℤ → ℕ
sign_of (pos n) = blank
sign_of (negsuc n) = minus

abbrev pub signed_bytes : ℕ → ℤ → List ℕ
signed_bytes w z = signed_field w (sign_of z) (nat_abs z)

-- ---- reading a field

abbrev pub is_digit : ℕ → Bool
is_digit b = leb zero_digit b && leb b (zero_digit + 9)

-- digits to the right edge, after those that came to v
unfoldable pub read_digits : ℕ → List ℕ → Option ℕ
read_digits v [] = Some v
read_digits v (b ∷ bs) = cond (is_digit b) (read_digits (v * 10 + (b - zero_digit)) bs) None

-- at least one digit; a zero leads only where it stands alone
unfoldable pub read_number : List ℕ → Option ℕ
read_number [] = None
read_number (b ∷ bs) = cond (eqb b zero_digit && ltb 0 (length bs)) None (read_digits 0 (b ∷ bs))

-- blanks, then a number
unfoldable pub read_field : List ℕ → Option ℕ
read_field [] = None
read_field (b ∷ bs) = cond (eqb b blank) (read_field bs) (read_number (b ∷ bs))

-- ---- a field at a place

-- n bytes from a place on lie among `long` bytes
abbrev pub has_room : ℕ → ℕ → ℕ → Bool
has_room at n long = leb (at + n) long

-- a field of at most twelve columns is read where it lies in the line
unfoldable pub field_at : ℕ → ℕ → List ℕ → Option ℕ
field_at at w l =
    cond (leb w 12 && has_room at w (length l))
    (read_field (take w (drop at l)))
    None

-- a buffer after the bytes s were written to it from a place on
abbrev pub pasted : ℕ → List ℕ → List ℕ → List ℕ
pasted at s out = take at out ++ (s ++ drop (at + length s) out)

-- a field is written where the buffer has room for it
abbrev pub put_at : ℕ → ℕ → ℕ → ℕ → List ℕ → List ℕ
put_at at w sign v out = cond (has_room at w (length out)) (pasted at (signed_field w sign v) out) out
