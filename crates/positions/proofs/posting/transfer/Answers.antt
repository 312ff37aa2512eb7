-- `transfer` finds both entries, tests the sizes, and adds to two cells, or twice to one. With `using` on the function the check finds all
-- answers but two alone, in 15 s in place of 3.
use Rattle.std.proofs.Common.{arith}
use Rattle.positions.specs.Answers.{after_transfer}
use Rattle.positions.proofs.Laws.Answers.{transfer_steps, stored_steps}
use Rattle.positions.proofs.posting.transfer.Goals as goal

pub returns-in_err-from_at : goal.returns-in_err-from_at
unfolding after_transfer
returns-in_err-from_at c = record { answer = grind (arith, transfer_steps); table = grind (arith, transfer_steps) }

pub returns-in_err-to_at : goal.returns-in_err-to_at
unfolding after_transfer
returns-in_err-to_at c = record { answer = grind (arith, transfer_steps); table = grind (arith, transfer_steps) }

pub returns-in_err-sizes_fit : goal.returns-in_err-sizes_fit
unfolding after_transfer
returns-in_err-sizes_fit c = record { answer = grind (arith, transfer_steps); table = grind (arith, transfer_steps) }

pub returns-in_err-sizes_fit-2 : goal.returns-in_err-sizes_fit-2
unfolding after_transfer
returns-in_err-sizes_fit-2 c = record { answer = grind (arith, transfer_steps); table = grind (arith, transfer_steps) }

pub overflow_sub-positions : goal.overflow_sub-positions
overflow_sub-positions c = grind (arith, transfer_steps)

pub overflow_add-positions : goal.overflow_add-positions
overflow_add-positions c = grind (arith, stored_steps)

pub returns : goal.returns
unfolding after_transfer
returns c = record { answer = grind (arith, stored_steps); table = grind (arith, stored_steps) }
