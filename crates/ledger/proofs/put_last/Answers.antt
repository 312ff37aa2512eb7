-- `put_last` meets its contract: the memory is fit and the buffer has room, so the answer is written, and the listing behind it.
-- Assumes nothing.
use Rattle.std.proofs.Common.{rules}
use Rattle.ledger.proofs.Laws.Program.{listing_taken}
use Rattle.ledger.proofs.put_last.Goals as goal

pub unwrap-listed-requires : goal.unwrap-listed-requires
unwrap-listed-requires c =
    let end = c.end_text in
    let taken = listing_taken _ _ _ _ c.requires _ _ end.ensures _ c.unwrap-end.ensures end.auto.out _ _ c.list_positions.ensures in
    search (rules, taken)
