-- `answer_lines` meets its contract. The loop: the lines before `at` have been answered. Assumes nothing.
use Rattle.std.proofs.Common.{refl, sym, ◌∙◌, arith}
use Rattle.desk.proofs.Laws.Lines.{next_end_at, answered_start, answered_room, answered_next, answered_last}
use Rattle.desk.proofs.answering.answer_lines.Goals as goal

pub loop-end-init : goal.loop-end-init
loop-end-init g c = answered_start _ _ _ _ _ _ refl refl

pub end_line-progress-requires-clause-room : goal.end_line-progress-requires-clause-room
end_line-progress-requires-clause-room g c =
    let e = next_end_at _ _ _ _ (sym c.next_end.ensures ∙ c.in-Some.is) in
    omega (arith, answered_room _ _ _ _ _ _ _ _ c.loop-end.invariant _ e c.requires.wide c.requires.room, c.loop-end.auto.out)

pub loop-end-preserved : goal.loop-end-preserved
loop-end-preserved g c =
    let e = next_end_at _ _ _ _ (sym c.next_end.ensures ∙ c.in-Some.is) in
    answered_next _ _ _ _ _ _ _ _ c.loop-end.invariant _ e c.requires.wide _ _ _ refl c.end_line-progress.ensures

pub returns : goal.returns
returns g c = answered_last _ _ _ _ _ _ _ _ c.loop-end.invariant (sym c.next_end.ensures ∙ c.in_default.is)
