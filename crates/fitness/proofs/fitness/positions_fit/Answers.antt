use Rattle.std.proofs.Common.{rules, ◌∙◌, pos}
use borrow.Author.Tests.{tests}
use Rattle.std.proofs.lemmas.Iterator.{YieldsList-from_slice}
use Rattle.std.proofs.lemmas.Iterator.Search.{all_from_yields_List}
use Rattle.common.proofs.Walk.{all_of_list}
use Rattle.fitness.specs.Fitness.{position_fit, positions_fit}
use Rattle.fitness.proofs.fitness.positions_fit.Goals as goal

pub returns : goal.returns
unfolding positions_fit
returns c =
    all_from_yields_List position_fit _ _ c.all.result c.all.ensures.ran (YieldsList-from_slice c.args.positions.now cc) (λ x b q k. search (rules, tests)) ∙ all_of_list position_fit (pos 0) c.args.positions.now
