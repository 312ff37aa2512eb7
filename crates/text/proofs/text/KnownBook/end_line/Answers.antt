-- `end_line` meets its contract: the answer behind those before, unless all lines are answered.
-- Assumes nothing.
use Rattle.text.proofs.Laws.Text.{output_line}
use Rattle.text.proofs.text.KnownBook.end_line.Goals as goal

pub returns-clause-answered : goal.returns-clause-answered
returns-clause-answered c =
    output_line _ _ _ _ c.if-p-ge-LAST_NUMBER.false c.requires _ _ _ _ c.take_line-answer.ensures.taken c.answer_number.ensures c.answer_line.ensures.bytes
