use Rattle.std.proofs.Common.{◌-◌, length}
use Rattle.desk.proofs.Laws.Lines.{AnsweredTo}
use Rattle.desk.proofs.answering.answer_lines.Given as goal

abbrev pub invariant-loop-end : goal.invariant-loop-end
invariant-loop-end g l = AnsweredTo g.Q.Question.ANSWER g.Q.Question.said l.lines l.text l.initial.out l.at l.progress l.out

abbrev pub decreases-loop-end : goal.decreases-loop-end
decreases-loop-end g l = length l.text - l.at
