-- Tests written one under the other. Both fold from the left, as `a & b & c` and `a | b | c` do in the code.
-- To cite: the laws of proofs/Tests. Assumes nothing.
use Rattle.std.specs.Prelude.{Bool, true, false, ◌&&◌, ◌||◌, List, [], ◌∷◌, ℕ, eqb}

-- a and every one of the tests
abbrev pub and_all : Bool → List Bool → Bool
and_all a [] = a
and_all a (b ∷ bs) = and_all (a && b) bs

-- every one of the tests
abbrev pub all_of : List Bool → Bool
all_of [] = true
all_of (b ∷ bs) = and_all b bs

-- a or one of the tests
abbrev pub or_any : Bool → List Bool → Bool
or_any a [] = a
or_any a (b ∷ bs) = or_any (a || b) bs

-- one of the tests
abbrev pub any_of : List Bool → Bool
any_of [] = false
any_of (b ∷ bs) = or_any b bs

-- n is one of the numbers
abbrev pub among : List ℕ → ℕ → Bool
among [] n = false
among (m ∷ ms) n = eqb m n || among ms n
