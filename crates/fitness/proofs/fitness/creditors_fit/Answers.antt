use Rattle.std.proofs.Common.{ℕ, ℤ, rules, ◌∙◌, pos}
use borrow.Author.Tests.{tests}
use Rattle.std.proofs.lemmas.Iterator.{YieldsList-from_slice, YieldsList-from_zip}
use Rattle.std.proofs.lemmas.Iterator.Search.{all_from_yields_List}
use Rattle.common.proofs.Walk.{all_of_zip}
use Rattle.fitness.specs.Fitness.{creditor_fit, creditors_fit}
use Rattle.fitness.proofs.fitness.creditors_fit.Goals as goal

pub returns : goal.returns
unfolding creditors_fit
returns c =
    let a = c.args in
    all_from_yields_List (λ (p : ℕ × ℤ). creditor_fit p.0 p.1) c.all.new.self _ c.all.result c.all.ensures.ran (YieldsList-from_zip (YieldsList-from_slice a.creditors.now cc) (YieldsList-from_slice a.positions.now cc)) (λ x b q k. search (rules, tests))
    ∙ all_of_zip creditor_fit 0 (pos 0) a.creditors.now a.positions.now c.requires
