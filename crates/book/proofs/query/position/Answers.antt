-- `book::query::position` meets its contract: the memory first, then the kind, the number, and the figure. Assumes nothing.
use Rattle.std.proofs.Common.{◌≡◌, true, Err, rules, refl, sym, ◌∙◌}
use Rattle.common.proofs.Checks.{check_passes}
use Rattle.tables.specs.Ledger.{ledger_of}
use Rattle.fitness.specs.Fitness.{fit}
use Rattle.book.proofs.Laws.Queries.{queried_unknown, queried_figure}
use Rattle.book.proofs.query.position.Goals as goal

pub returns-in_err-figure : goal.returns-in_err-figure
returns-in_err-figure c =
    let memory : fit (ledger_of c.args.book.now) ≡ true =
    sym c.is_fit.ensures ∙ (check_passes _ _ _ refl (sym c.ensure.ensures ∙ c.in_ok-ensure.was)).0 in
    let refused : c.from_residual-in_err-figure.result ≡ Err c.in_err-figure.field-0.0 = search rules in
    rw refused (queried_unknown _ _ _ _ memory (sym c.try_from.ensures ∙ c.in_err-figure.was))

pub returns : goal.returns
returns c =
    let memory : fit (ledger_of c.args.book.now) ≡ true =
    sym c.is_fit.ensures ∙ (check_passes _ _ _ refl (sym c.ensure.ensures ∙ c.in_ok-ensure.was)).0 in
    queried_figure _ _ _ _ memory (sym c.try_from.ensures ∙ c.in_ok-figure.was) _ (search rules)
    (sym c.in_query.ensures ∙ (check_passes _ _ _ refl (sym c.ensure-2.ensures ∙ c.in_ok-ensure-2.was)).0)
