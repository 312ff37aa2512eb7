use Rattle.std.proofs.Common.{◌≡◌, Err, rules, sym, ◌∙◌}
use Rattle.book.proofs.Laws.Events.{taken_first, taken_refused}
use Rattle.replay.proofs.replay.take_fit.Goals as goal

pub returns-in_err-check-clause-taken : goal.returns-in_err-check-clause-taken
returns-in_err-check-clause-taken c =
    let refused : c.from_residual.result ≡ Err c.in_err-check.field-0.0 = search rules in
    rw refused (taken_refused _ _ _ c.requires (sym c.check.ensures.answer ∙ c.in_err-check.was))

pub returns-clause-taken : goal.returns-clause-taken
returns-clause-taken c = taken_first _ _ _ _ c.requires (sym c.check.ensures.answer ∙ c.in_ok-check.was) c.act_from.ensures.acted
