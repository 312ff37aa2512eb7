-- Positions in cents. Document 01, "Records": each party has one signed position. A table lists those of one kind of
-- party: the position of the party numbered k, counted from 1, is at index k - 1. Assumes nothing.
use Rattle.std.specs.Prelude.{Bool, ◌&&◌, List, [], ◌∷◌, ℕ, zero, suc, ◌≤◌, leb, ℤ, pos, neg_ℤ, nat_abs, ◌+ℤ◌, length, get_or, set, replicate}
use Rattle.std.specs.Int.Signed.{le_z}
pub use Rattle.common.specs.Limits.{position_limit}

-- ---- the entry of a number

-- the table has an entry for the number
abbrev pub has_entry : List ℤ → ℕ → Bool
has_entry l k = leb 1 k && leb k (length l)

pub record HasEntry (l : List ℤ) (k : ℕ) : Type 0 where
  pub low : 1 ≤ k
  pub high : k ≤ length l

-- the position of a number, 0 where there is no entry
unfoldable pub position : List ℤ → ℕ → ℤ
position l zero = pos 0
position l (suc i) = get_or l i (pos 0)

-- ---- a posting

-- the table with an amount added at one number; a number without an entry changes nothing
unfoldable pub posted : List ℤ → ℕ → ℤ → List ℤ
posted l zero x = l
posted l (suc i) x = set l i (get_or l i (pos 0) +ℤ x)

-- an amount taken from one number and given to another, or to the same
unfoldable pub transferred : List ℤ → ℕ → ℕ → ℤ → List ℤ
transferred l from to x = posted (posted l from (neg_ℤ x)) to x

-- ---- the sum of a table

unfoldable pub total : List ℤ → ℤ
total [] = pos 0
total (z ∷ l) = z +ℤ total l

-- the table of n parties at the opening
abbrev pub zeros : ℕ → List ℤ
zeros n = replicate n (pos 0)

-- ---- the limit

-- at most m on either side of 0
abbrev pub in_limit : ℕ → ℤ → Bool
in_limit m z = le_z (neg_ℤ (pos m)) z && le_z z (pos m)

-- every position of the table is at most m on either side
abbrev pub InLimit : ℕ → List ℤ → Type 0
InLimit m l = (k : ℕ) → nat_abs (position l k) ≤ m
