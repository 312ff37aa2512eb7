use Rattle.calendar.proofs.Laws.Periods.{days_after_day}
use Rattle.calendar.proofs.Laws.Answers.{date_of_beyond}
use native.Mathlib.Omega.{arith}
use mathlib.Core.Path.{sym, ◌∙◌}
use Rattle.calendar.proofs.periods.days_after.Goals as goal

pub returns-in_err-checked_add : goal.returns-in_err-checked_add
returns-in_err-checked_add c =
    c.from_residual-in_err-checked_add.ensures
    ∙ sym (date_of_beyond _ (omega (arith, c.in_err-checked_add.ensures)))
    ∙ sym (days_after_day _ _ _ (sym c.in_ok-d.ensures))
