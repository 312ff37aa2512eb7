-- `list_kind` writes number by number: the lines of the numbers up to i stand in the buffer, and `next` is behind them.
-- Assumes nothing.
use Rattle.listing.proofs.Laws.Listing.{table_start, table_more}
use Rattle.listing.proofs.listing.list_kind.Goals as goal

pub loop-i-init : goal.loop-i-init
loop-i-init c = table_start _ _ _ _

pub loop-i-preserved : goal.loop-i-preserved
loop-i-preserved c =
    let e = c.list_one-next.ensures in
    table_more _ _ _ _ c.requires _ _ _ c.loop-i.invariant c.loop-i-test.true _ _ e.place e.bytes
