-- Laws of specs/Limits: no rows, amounts and days carry a position past the limit.
-- To cite: `compensation_bound`, `moves_within_limit`, `compensations_within_limit`. Assumes nothing.
use Prim.Native.Nat.{ℕ, ◌+◌, ◌*◌, ◌<◌, ◌≤◌}
use native.Mathlib.Omega.{arith}
use Rattle.positions.specs.Positions.{position_limit}
use Rattle.positions.specs.Compensation.{parts_of_cent, interest, half_up, compensation, amount_limit, rate_limit, days_limit}
use Rattle.positions.specs.Limits.{lent_rows, compensation_limit, row_move}
use Rattle.positions.proofs.Laws.Compensation.{compensation_le, compensation_mono}

-- ---- the days of a refund in time

-- 13 months, 30 days and 4 business days are no more than 403, 30 and 20 days
abbrev pub refund_days : ℕ
refund_days = 453

-- the largest compensation of a refund in time
abbrev pub refund_limit : ℕ
refund_limit = 125820749999

-- ---- the largest compensations, by either rule

-- within some days, that of the largest amount and rate with a half going up
largest_within :
    (date a r d most : ℕ) → a ≤ amount_limit → r ≤ rate_limit → d ≤ most
    → compensation date a r d ≤ half_up (interest amount_limit rate_limit most) parts_of_cent
largest_within date a r d most ha hr hd =
    omega (arith, compensation_le date amount_limit rate_limit most, compensation_mono date a amount_limit r rate_limit d most ha hr hd)

pub compensation_bound :
    (date a r d : ℕ) → a ≤ amount_limit → r ≤ rate_limit → d ≤ days_limit → compensation date a r d ≤ compensation_limit
unfolding half_up interest
compensation_bound date a r d = largest_within date a r d days_limit

pub refund_bound :
    (date a r d : ℕ) → a ≤ amount_limit → r ≤ rate_limit → d ≤ refund_days → compensation date a r d ≤ refund_limit
unfolding half_up interest
refund_bound date a r d = largest_within date a r d refund_days

-- ---- the rows of a ledger, one settled and undone after the other

-- with as many days as are worked out at all
pub rows_within_limit : lent_rows * row_move < position_limit
rows_within_limit = omega arith

-- and two moves by the amount and the compensation of a refund in time; with days_limit this would not hold
pub refunds_within_limit : lent_rows * (2 * (amount_limit + refund_limit)) < position_limit
refunds_within_limit = omega arith

-- a position, opened at 0, that each of some rows has moved by at most row_move
pub moves_within_limit : (rows size : ℕ) → rows ≤ lent_rows → size ≤ rows * row_move → size ≤ position_limit
moves_within_limit rows size h s = omega arith

-- total compensation, to which each row has added at most once
pub compensations_within_limit : (rows cents : ℕ) → rows ≤ lent_rows → cents ≤ rows * compensation_limit → cents ≤ position_limit
compensations_within_limit rows cents h s = omega arith
