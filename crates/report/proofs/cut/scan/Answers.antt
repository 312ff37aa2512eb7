use Rattle.std.proofs.Common.{rules, ◌≡◌, ◌∙◌, ◌+◌, ap, refl, sym, option_map}
use Rattle.report.proofs.Laws.Cut.{end_from_rest, first_end_is}
use Rattle.report.proofs.cut.scan.Goals as goal

pub returns-clause-is : goal.returns-clause-is
returns-clause-is c =
    let from = c.skip-from.result in
    let moved : c.map.result ≡ option_map (λ i. from + i) c.first_end.result = search rules in
    moved
    ∙ ap (option_map (λ i. from + i)) (first_end_is _ _ c.first_end.ensures)
    ∙ sym (end_from_rest c.args.text.now _ from c.skip-from.ensures.inside refl)
    ∙ c.skip-from.ensures.rest
