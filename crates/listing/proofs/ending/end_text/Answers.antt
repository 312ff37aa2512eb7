-- `ending::end_text` meets its contract: refused, there is no partial line or none may be answered, or the line is refused 1. Assumes nothing.
use borrow.Author.Tests.{le-leb}
use Rattle.listing.proofs.Laws.Ending.{end_line}
use Rattle.listing.proofs.ending.end_text.Goals as goal

pub returns : goal.returns
returns c = end_line _ _ _ _ _ (le-leb _ _ c.if-out-lt-ANSWER.false) c.if-not-lines-partial.false c.from.ensures c.answer_line.ensures.bytes
