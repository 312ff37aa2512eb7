-- `book::event::take_event` meets its contract: the memory first, then the limits, then the event is acted on. Assumes nothing.
use Rattle.std.proofs.Common.{◌≡◌, Err, rules, sym, ap, ◌∙◌}
use Rattle.fitness.specs.Fitness.{fit}
use Rattle.book.proofs.Laws.Events.{taken_first, taken_unfit, taken_refused}
use Rattle.book.proofs.event.take_event.Goals as goal

pub returns-then-not-is_fit-clause-taken : goal.returns-then-not-is_fit-clause-taken
returns-then-not-is_fit-clause-taken c =
    taken_unfit _ _ (sym (c.is_fit.ensures ∙ ap fit c.view.ensures) ∙ c.if-not-is_fit.true)

pub returns-in_err-check-clause-taken : goal.returns-in_err-check-clause-taken
returns-in_err-check-clause-taken c =
    let refused : c.from_residual.result ≡ Err c.in_err-check.field-0.0 = search rules in
    rw refused (taken_refused _ _ _ (sym (c.is_fit.ensures ∙ ap fit c.view.ensures) ∙ c.if-not-is_fit.false) (sym c.check.ensures.answer ∙ c.in_err-check.was))

pub returns-clause-taken : goal.returns-clause-taken
returns-clause-taken c =
    taken_first _ _ _ _ (sym (c.is_fit.ensures ∙ ap fit c.view.ensures) ∙ c.if-not-is_fit.false) (sym c.check.ensures.answer ∙ c.in_ok-check.was) c.act_from.ensures.acted
