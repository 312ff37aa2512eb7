-- The example of document 01, "The text line": seven lines, their answers and the positions after them. Assumes nothing.
use Rattle.std.specs.Prelude.{◌≡◌, true, cond, ◌&&◌, List, [], ◌∷◌, ℕ, eqb, ℤ, pos, neg_ℤ, Ok}
use Prim.Native.String.{String}
use Rattle.events.specs.declared.Event.{Event}
use Rattle.opening.specs.Opening.{opening, opened}
use Rattle.model.specs.Step.{in_query, query, run}
use Rattle.witness.specs.Opening.{event, lent, answers}
use Rattle.witness.specs.Text.{text_of, read_of, taken_of, whole_output}

-- ---- the input and the output, as they are printed

abbrev pub input : List String
input =
    " 1 20240325         0         1         1         0           0        0 0"
    ∷ " 2 20240325         7         1         5         2           0 20240325 0"
    ∷ " 5 20240325         7        70         0         0       10000 20240329 0"
    ∷ " 6 20240329         0        70         0         0           0        0 0"
    ∷ " 6 20240402         0        70         0         0           0        0 0"
    ∷ " 9 20240412         0        70       360         0           0        0 0"
    ∷ "10 20240412         0        70         0         0           0        0 0"
    ∷ []

abbrev pub output : List String
output =
    "     1  0"
    ∷ "     2  0"
    ∷ "     3  0"
    ∷ "     4  7"
    ∷ "     5  0"
    ∷ "     6  0"
    ∷ "     7 15"
    ∷ " 1     1               -10"
    ∷ " 3     1               -10"
    ∷ " 3     2                10"
    ∷ " 4     0                10"
    ∷ []

-- ---- what they say

unfoldable pub events : List Event
events =
    event 1 20240325 0 1 1 0 0 0 0
    ∷ event 2 20240325 7 1 5 2 0 20240325 0
    ∷ event 5 20240325 7 70 0 0 10000 20240329 0
    ∷ event 6 20240329 0 70 0 0 0 0 0
    ∷ event 6 20240402 0 70 0 0 0 0 0
    ∷ event 9 20240412 0 70 360 0 0 0 0
    ∷ event 10 20240412 0 70 0 0 0 0 0
    ∷ []

abbrev pub numbers : List ℕ
numbers = 0 ∷ 0 ∷ 0 ∷ 7 ∷ 0 ∷ 0 ∷ 15 ∷ []

-- a position: its kind, number and cents
pub record Position : Type 0 where
  pub kind : ℕ
  pub number : ℕ
  pub cents : ℤ

abbrev pub position : ℕ → ℕ → ℤ → Position
position k n z = record { kind = k; number = n; cents = z }

abbrev pub positions : List Position
positions =
    position 1 1 (neg_ℤ (pos 10))
    ∷ position 3 1 (neg_ℤ (pos 10))
    ∷ position 3 2 (pos 10)
    ∷ position 4 0 (pos 10)
    ∷ []

-- the cents of a position; 0 where it is not listed
abbrev pub cents_in : List Position → ℕ → ℕ → ℤ
cents_in [] kind number = pos 0
cents_in (p ∷ ps) kind number = cond (eqb kind p.kind && eqb number p.number) p.cents (cents_in ps kind number)

-- ---- the statement

pub record Example : Type 0 where
  -- opening is accepted
  pub opens : (opening lent).number ≡ 0
  -- the lines of the input are read as the events
  pub reads : read_of input ≡ taken_of events
  -- each is answered its number
  pub answered : answers (opened lent) events ≡ numbers
  -- after them every query within its limits is answered, with the cents listed or 0
  pub figures :
      (kind number : ℕ) → in_query kind number ≡ true
      → query (run (opened lent) events) kind number ≡ Ok (cents_in positions kind number)
  -- the program writes the output for the input, byte for byte
  pub writes : whole_output (opened lent) (text_of input) ≡ text_of output
