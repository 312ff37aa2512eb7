-- What the nine calls wrote is listed, since `grind` and `cc` stop at their bounds before they have joined it.
use Rattle.lines.proofs.Laws.Line.{line_of_written}
use Rattle.lines.proofs.line.put_line.Goals as goal

pub returns : goal.returns
returns c =
    line_of_written _ _ _ _ _ _ _ _ _ _ _ c.requires c.put.ensures c.put-2.ensures c.put-3.ensures c.put-4.ensures c.put-5.ensures c.put-6.ensures c.put-7.ensures
    c.put-8.ensures
    c.put-9.ensures
