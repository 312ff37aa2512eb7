-- How far the postings of all rows can carry a position. Document 01, "Records" and "Ten events": up to 16,384 rows, each
-- of which posts to a position when it is settled and once more when it is undone. Assumes nothing.
use Rattle.std.specs.Prelude.{ℕ, ◌+◌}
use Rattle.common.specs.Limits.{collection_row_limit}
use Rattle.positions.specs.Compensation.{amount_limit}

-- the collection rows that may be lent
abbrev pub lent_rows : ℕ
lent_rows = collection_row_limit

-- the largest compensation: that of the largest amount, rate and number of days
abbrev pub compensation_limit : ℕ
compensation_limit = 277472249997

-- what one row moves a position by at most: A when settled, A + K when undone
abbrev pub row_move : ℕ
row_move = amount_limit + (amount_limit + compensation_limit)
