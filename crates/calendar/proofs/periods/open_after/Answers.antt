use Rattle.calendar.proofs.Laws.BusinessDays.{open_after_more, open_after_mono_count, first_open_from}
use Rattle.calendar.proofs.Laws.Answers.{date_of_beyond, in_calendar_none}
use Rattle.calendar.specs.Target.{first_open}
use Prim.Native.Nat.{ℕ, ◌+◌}
use native.Mathlib.Omega.{arith}
use mathlib.Core.Path.{sym, ◌∙◌, ap}
use Rattle.calendar.proofs.periods.open_after.Goals as goal

pub returns-in_err-at : goal.returns-in_err-at
returns-in_err-at c =
    let l = c.loop in
    let a = c.args in
    let e = open_after_more l.counter a.day ∙ ap (λ (k : ℕ). first_open (k + 1)) l.invariant in
    let b = in_calendar_none _ (sym c.in_err-at.ensures) in
    let f = first_open_from (l.at + 1) in
    c.from_residual.ensures
    ∙ sym (date_of_beyond _ (omega (arith, e, f, open_after_mono_count (l.counter + 1) a.n a.day (omega arith))))
