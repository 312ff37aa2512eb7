-- `tables::lookup::find_since` meets its contract: the row itself, or the walk from the row on before which none has the
-- number. Assumes nothing.
use Rattle.tables.proofs.Laws.Lookup.{since_walk}
use Rattle.common.proofs.Walk.{first_from_hit, first_from_end}
use borrow.Author.Tests.{eq-eqb}
use mathlib.Core.Path.{sym, ◌∙◌}
use Rattle.tables.proofs.lookup.find_since.Goals as goal

pub returns-then-n-since : goal.returns-then-n-since
returns-then-n-since c = sym (first_from_end _ _ _ _ _ c.if-n-since.true) ∙ since_walk _ _ _ _ _ c.existing_of-n.ensures

pub returns-then-cells-since : goal.returns-then-cells-since
returns-then-cells-since c =
    sym (first_from_hit _ _ _ _ _ c.if-n-since.false (eq-eqb _ _ c.if-cells-since.true))
    ∙ since_walk _ _ _ _ _ c.existing_of-n.ensures

pub returns : goal.returns
returns c = c.find_from.ensures ∙ c.skip-from.ensures ∙ since_walk _ _ _ _ _ c.existing_of-n.ensures
