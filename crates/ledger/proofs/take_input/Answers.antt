-- `take_input` meets its contract: some bytes take the run from the start to where a turn begins, and those that it reads to
-- where it ends. Assumes nothing.
use Rattle.std.proofs.Common.{rules, arith}
use Rattle.ledger.proofs.Laws.Input.{taken_on, taken_still}
use Rattle.ledger.proofs.take_input.Goals as goal

pub loop-preserved : goal.loop-preserved
loop-preserved c =
    let taken = taken_on _ _ _ _ c.loop.invariant.0 _ c.fill.ensures.front _ c.in_ok-filled.ensures.filled.onward c.loop.invariant.1 _ _ _ _ _ (omega arith) c.take_piece.ensures.turned in
    search (rules, taken)

pub returns-then-p-clause-taken : goal.returns-then-p-clause-taken
returns-then-p-clause-taken c =
    taken_on _ _ _ _ c.loop.invariant.0 _ c.fill.ensures.front _ c.in_ok-filled.ensures.filled.onward c.loop.invariant.1 _ _ _ _ _ (omega arith) c.take_piece.ensures.turned

-- a read failed, or gave nothing
pub returns-in_err-filled-clause-taken : goal.returns-in_err-filled-clause-taken
returns-in_err-filled-clause-taken c = taken_still _ _ _ _ _ _ c.loop.invariant.0 _ c.fill.ensures.front c.fill.auto.text

pub returns-then-filled-p-clause-taken : goal.returns-then-filled-p-clause-taken
returns-then-filled-p-clause-taken c = taken_still _ _ _ _ _ _ c.loop.invariant.0 _ c.fill.ensures.front c.fill.auto.text

-- a turn was made, and its answers were not written
pub returns-in_err-write_whole-clause-taken : goal.returns-in_err-write_whole-clause-taken
returns-in_err-write_whole-clause-taken c =
    taken_on _ _ _ _ c.loop.invariant.0 _ c.fill.ensures.front _ c.in_ok-filled.ensures.filled.onward c.loop.invariant.1 _ _ _ _ _ (omega arith) c.take_piece.ensures.turned
