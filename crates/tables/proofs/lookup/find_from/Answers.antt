use Rattle.std.proofs.Common.{rules, arith, refl, ◌-◌}
use borrow.Author.Tests.{tests}
use Rattle.std.proofs.lemmas.Iterator.{YieldsList-from_range}
use Rattle.std.proofs.lemmas.Iterator.Search.{find_from_yields_List}
use Rattle.tables.specs.Lookup.{number_is}
use Rattle.tables.proofs.Laws.Lookup.{found_in_range}
use Rattle.tables.proofs.lookup.find_from.Goals as goal

pub returns : goal.returns
returns c =
    let a = c.args in
    found_in_range (number_is a.cells.now a.number) a.from (a.n - a.from) _
    (find_from_yields_List (number_is a.cells.now a.number) _ _ _ c.find.ensures.ran (YieldsList-from_range a.from a.n (a.n - a.from) refl (omega arith)) (λ x b q k. (search rules, search (rules, tests))))
