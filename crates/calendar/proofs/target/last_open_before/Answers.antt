use Rattle.std.proofs.Common.{rules, tests}
use Rattle.std.proofs.lemmas.Iterator.Search.{find_from_yields_List}
use Rattle.calendar.specs.Target.{is_open}
use Rattle.calendar.proofs.Laws.BusinessDays.{yields_back, last_open_found}
use Rattle.calendar.proofs.target.last_open_before.Goals as goal

pub returns : goal.returns
returns c =
    last_open_found _ _
    (find_from_yields_List is_open _ _ _ c.rfind.ensures.ran (yields_back c.args.n) (λ x b q k. (search rules, search (rules, tests))))
