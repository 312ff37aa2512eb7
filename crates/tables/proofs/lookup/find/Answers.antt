-- `tables::lookup::find` meets its contract: the lookup from the first row on. Assumes nothing.
use Rattle.tables.proofs.Laws.Lookup.{lookup_since_first}
use mathlib.Core.Path.{◌∙◌}
use Rattle.tables.proofs.lookup.find.Goals as goal

pub returns : goal.returns
returns c = c.find_since.ensures ∙ lookup_since_first _ _ _
