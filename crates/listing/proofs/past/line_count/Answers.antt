-- `past::line_count` meets its contract. The loop: n lines end before place i. Assumes nothing.
use Rattle.listing.proofs.Laws.Past.{count_step, count_end}
use Rattle.listing.proofs.past.line_count.Goals as goal

pub loop-b-preserved : goal.loop-b-preserved
loop-b-preserved c = count_step _ _ _ _ c.loop-b.invariant c.loop-b-test.true c.ended_by-n.ensures

pub returns : goal.returns
returns c = count_end _ _ _ c.loop-b.invariant c.loop-b-test.false
