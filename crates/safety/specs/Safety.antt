-- When lent memory is safe: it is fit, and no position lies further from 0 than the collections can have moved it. An event
-- keeps safe memory safe (model, proofs/Laws/Batch), so a batch of events tests once.
-- To cite: proofs/Laws/Safety, `safe_facts` and `safe_made`. Assumes nothing.
use Rattle.std.specs.Prelude.{Bool, cond, ◌&&◌, List, [], ◌∷◌, ℕ, leb, ℤ, pos, length, get_or}
use Rattle.std.specs.Int.Signed.{le_z}
use Rattle.common.specs.Tests.{all_of}
use Rattle.common.specs.Walk.{all_from}
use Rattle.positions.specs.Compensation.{amount_limit}
use Rattle.positions.specs.Limits.{row_move}
use Rattle.positions.specs.Positions.{in_limit}
use Rattle.tables.specs.Ledger.{Ledger}
use Rattle.fitness.specs.Fitness.{fit}
use Rattle.model.specs.Bounds.{spent}

-- ---- positions

-- the position at index i is at most m on either side of 0
abbrev pub within_at : ℕ → List ℤ → ℕ → Bool
within_at m positions i = in_limit m (get_or positions i (pos 0))

-- every position of the table is
unfoldable pub within_spent : ℕ → List ℤ → Bool
within_spent m positions = all_from (within_at m positions) 0 (length positions)

-- ---- the ledger

-- the positions and the compensation, within what the collections have moved
unfoldable pub bounded : Ledger → Bool
bounded l =
    all_of
    (within_spent (spent l) l.creditor_positions
    ∷ within_spent (spent l) l.debtor_positions
    ∷ within_spent (spent l) l.bank_positions
    ∷ in_limit (spent l) l.compensation
    ∷ [])

unfoldable pub is_safe : Ledger → Bool
is_safe l = fit l && bounded l

-- ---- as the code tests it

-- what a row has moved at most, by the tag of its state: 2 is settled, more is undone
abbrev pub tag_moved : ℕ → ℕ
tag_moved tag = cond (leb tag 1) 0 (cond (leb tag 2) amount_limit row_move)

abbrev pub between : ℤ → ℤ → ℤ → Bool
between low high z = le_z low z && le_z z high

abbrev pub between_at : ℤ → ℤ → List ℤ → ℕ → Bool
between_at low high positions i = between low high (get_or positions i (pos 0))

unfoldable pub all_between : ℤ → ℤ → List ℤ → Bool
all_between low high positions = all_from (between_at low high positions) 0 (length positions)
