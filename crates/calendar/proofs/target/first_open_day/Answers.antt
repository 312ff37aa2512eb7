use Rattle.calendar.proofs.Laws.BusinessDays.{first_open_open, first_open_closed}
use Rattle.calendar.proofs.Laws.Target.{closed_not_last}
use mathlib.Core.Path.{sym, ◌∙◌}
use Rattle.calendar.proofs.target.first_open_day.Goals as goal

pub loop-d-preserved : goal.loop-d-preserved
loop-d-preserved c =
    let i = c.loop-d.invariant in
    let e = sym c.is_open_day.ensures ∙ c.if-is_open_day.false in
    (closed_not_last _ i.0 e, sym (first_open_closed _ i.0 e) ∙ i.1)

pub returns : goal.returns
returns c =
    let i = c.loop-d.invariant in
    let e = sym c.is_open_day.ensures ∙ c.if-is_open_day.true in
    sym (first_open_open _ e) ∙ i.1
