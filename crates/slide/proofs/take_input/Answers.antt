-- `take_input` meets its contract: the bytes that were read before, and those of a turn, are answered as if they came at once.
-- Assumes nothing.
use Rattle.std.proofs.Common.{arith}
use Rattle.slide.proofs.Laws.Input.{taken_on, answered_whole, answered_past}
use Rattle.slide.proofs.take_input.Goals as goal

pub loop-preserved : goal.loop-preserved
loop-preserved g c =
    taken_on _ _ _ _ _ _ c.loop.invariant _ _ c.read_from.ensures.behind.front _ _ _ _ _ _ (omega arith) c.in_ok-got.ensures.bytes.0
    c.take_piece-p.ensures c.in_ok-write_to.ensures.bytes

pub returns-then-got-eq0 : goal.returns-then-got-eq0
returns-then-got-eq0 g c = answered_whole _ _ _ _ _ _ c.loop.invariant _ (c.in_ok-got.ensures.bytes.1 c.if-got-eq0.true)

pub returns-then-is_past : goal.returns-then-is_past
returns-then-is_past g c =
    let taken =
    taken_on _ _ _ _ _ _ c.loop.invariant _ _ c.read_from.ensures.behind.front _ _ _ _ _ _ (omega arith) c.in_ok-got.ensures.bytes.0
    c.take_piece-p.ensures c.in_ok-write_to.ensures.bytes in
    answered_past _ _ _ _ _ _ taken _ c.is_past.ensures c.if-is_past.true
