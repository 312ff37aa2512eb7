-- Vocabulary of the private contracts of src/reading.rt, which read eight columns at a time. No promise and no public contract cites
-- it: what a field says stands in specs/Field alone. Assumes nothing.
use Rattle.std.specs.Prelude.{ℕ, zero, suc, ◌+◌, ◌-◌, ◌*◌, ◌/◌, ◌%◌, Bool, true, cond, ◌&&◌, List, [], ◌∷◌, leb, eqb, Option, Some, None}
use Rattle.digits.specs.Field.{zero_digit, is_digit, read_digits, read_field}

-- the n bytes of a word, the lowest first
unfoldable pub bytes_of : ℕ → ℕ → List ℕ
bytes_of zero w = []
bytes_of (suc n) w = (w % 256) ∷ bytes_of n (w / 256)

unfoldable pub are_digits : List ℕ → Bool
are_digits [] = true
are_digits (b ∷ bs) = is_digit b && are_digits bs

-- the number of digits that follow on those that came to v
unfoldable pub digits_from : ℕ → List ℕ → ℕ
digits_from v [] = v
digits_from v (b ∷ bs) = digits_from (v * 10 + (b - zero_digit)) bs

-- the number of digits if it is not below `least`
abbrev pub led_by : ℕ → List ℕ → Option ℕ
led_by least bs = cond (are_digits bs && leb least (digits_from 0 bs)) (Some (digits_from 0 bs)) None

-- what is read of columns up to the right edge, after columns that came to v: to 0 where they are blanks
unfoldable pub onward : ℕ → List ℕ → Option ℕ
onward v bs = cond (eqb v 0) (read_field bs) (read_digits v bs)

-- the same after columns of which no number may begin
abbrev pub onward_of : Option ℕ → List ℕ → Option ℕ
onward_of (Some v) bs = onward v bs
onward_of None bs = None
