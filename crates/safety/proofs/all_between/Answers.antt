use Rattle.std.proofs.Common.{rules, ◌∙◌, pos}
use borrow.Author.Tests.{tests}
use Rattle.std.proofs.lemmas.Iterator.{YieldsList-from_slice}
use Rattle.std.proofs.lemmas.Iterator.Search.{all_from_yields_List}
use Rattle.common.proofs.Walk.{all_of_list}
use Rattle.safety.specs.Safety.{between, all_between}
use Rattle.safety.proofs.all_between.Goals as goal

pub returns : goal.returns
unfolding all_between
returns c =
    let test = between c.args.low c.args.high in
    all_from_yields_List test _ _ c.all.result c.all.ensures.ran (YieldsList-from_slice c.args.positions.now cc) (λ x b q k. search (rules, tests)) ∙ all_of_list test (pos 0) c.args.positions.now
