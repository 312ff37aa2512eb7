-- `run_by` meets its contract: the ledger after some input is fit, so it is listed, and its positions are the journal's figures.
-- Assumes nothing.
use Rattle.std.proofs.Common.{rules}
use Rattle.ledger.proofs.Laws.Program.{room_after, run_shown}
use Rattle.ledger.proofs.run_by.Goals as goal

pub finish-requires : goal.finish-requires
finish-requires c = rw c.view.ensures (room_after _ _ _ _ _ _ c.requires c.take_input-taken.ensures.taken _ (search rules))

pub returns : goal.returns
returns c = run_shown _ _ _ _ _ _ c.requires c.take_input-taken.ensures.taken _ _ _ (rw c.view.ensures at c.finish.ensures)
