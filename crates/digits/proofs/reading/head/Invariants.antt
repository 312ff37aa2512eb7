use Rattle.std.proofs.Common.{◌≡◌, ℕ, ◌<◌, ◌^◌, List, ◌++◌, length, drop}
use Rattle.digits.specs.Field.{read_field}
use Rattle.digits.specs.Words.{onward}
use Rattle.digits.proofs.reading.head.Given as goal

-- what is read of the columns that are left, after those passed, is what is read of all
abbrev pub invariant-loop-b : goal.invariant-loop-b
invariant-loop-b l =
    (l.v < 10 ^ l.b-index)
    × ((s : List ℕ) → 0 < length s → onward l.v (drop l.b-index l.columns ++ s) ≡ read_field (l.columns ++ s))
