use Rattle.std.proofs.Common.{sym, ◌∙◌}
use Rattle.foreign.proofs.Laws.Queries.{query_done}
use Rattle.foreign.proofs.queries.kalanhav_position.Goals as goal

pub returns : goal.returns
returns c =
    query_done _ _ _ _ _ (sym c.cells_fit.ensures ∙ c.if-not-cells_fit.false) _ (rw c.header_in.ensures at c.position.ensures)
    _ _ c.put_query.ensures.number c.put_query.ensures.cents
