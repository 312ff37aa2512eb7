use Rattle.std.proofs.Common.{sym, ◌∙◌}
use Rattle.foreign.proofs.Laws.Books.{open_done, open_left}
use Rattle.foreign.proofs.books.kalanhav_open.Goals as goal

pub returns-in-Ok : goal.returns-in-Ok
returns-in-Ok c =
    open_done _ _ _ (sym c.cells_fit.ensures ∙ c.if-not-cells_fit.false) _
    (rw (c.header_in-header.ensures, c.in-Ok.is) at c.open_ledger.ensures)
    _ _ c.put_fresh.ensures.state c.put_fresh.ensures.cents

pub returns-in-Err : goal.returns-in-Err
returns-in-Err c =
    open_left _ _ _ (sym c.cells_fit.ensures ∙ c.if-not-cells_fit.false) _ _
    (rw (c.header_in-header.ensures, c.in-Err.is) at c.open_ledger.ensures)
    _ c.from-in-Err.ensures
