-- When the tables of a ledger are safe: fit, and no position further from 0 than the collections can have moved it. Every event keeps
-- safe tables safe (proofs/Laws/Batch), so what is tested once need not be tested again. Document 01 has no such notion; it
-- follows from the limits of an amount and a compensation. Assumes nothing.
use Rattle.std.specs.Prelude.{◌≡◌, true, List, ℕ, zero, suc, ◌+◌, ◌≤◌, pos, nat_abs}
use Rattle.positions.specs.Compensation.{amount_limit}
use Rattle.positions.specs.Limits.{row_move}
use Rattle.positions.specs.Positions.{position}
use Rattle.tables.specs.Ledger.{Ledger}
use Rattle.tables.specs.Rows.{collection_at}
use Rattle.fitness.specs.Fitness.{fit}
use Rattle.tables.specs.declared.State.{State}
use Rattle.tables.specs.declared.State.TheVariants.{Presented, Rejected, Settled, Undone}

-- what a row has moved a position by, at most: a settled one by an amount, an undone one by an amount more and its compensation
abbrev pub moved : State → ℕ
moved Presented = 0
moved Rejected = 0
moved (Settled day) = amount_limit
moved (Undone day by) = row_move

abbrev pub moved_at : List ℕ → ℕ → ℕ
moved_at cells row = moved (collection_at cells row).state

-- f 0 + f 1 + .. + f (n - 1)
unfoldable pub sum_rows : (ℕ → ℕ) → ℕ → ℕ
sum_rows f zero = 0
sum_rows f (suc n) = sum_rows f n + f n

-- all used rows together
unfoldable pub spent : Ledger → ℕ
spent l = sum_rows (moved_at l.collections) l.collections_used

pub record Bounded (l : Ledger) : Type 0 where
  pub creditors : (n : ℕ) → nat_abs (position l.creditor_positions n) ≤ spent l
  pub debtors : (n : ℕ) → nat_abs (position l.debtor_positions n) ≤ spent l
  pub banks : (n : ℕ) → nat_abs (position l.bank_positions n) ≤ spent l
  pub cents : ℕ
  pub paid : l.compensation ≡ pos cents
  pub cents_le : cents ≤ spent l

pub record Safe (l : Ledger) : Type 0 where
  pub fits : fit l ≡ true
  pub bounded : Bounded l
