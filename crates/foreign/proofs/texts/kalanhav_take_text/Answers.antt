use Rattle.std.proofs.Common.{rules, sym, ◌∙◌}
use Rattle.tables.specs.Ledger.{ledger_in}
use Rattle.foreign.proofs.Laws.Texts.{text_done}
use Rattle.foreign.proofs.texts.kalanhav_take_text.Goals as goal

pub returns-in-Ok : goal.returns-in-Ok
returns-in-Ok c =
    let taken = rw (c.header_in.ensures, c.lines_in-lines.ensures, c.filled_in-filled.ensures, c.in-Ok.is) at c.take_text.ensures.taken in
    text_done _ _ (sym c.cells_fit.ensures ∙ c.if-not-cells_fit.false) _ _ _
    c.in-Ok.piece (ledger_in c.take_text.new.book) _ _ c.past_in-past.result _ _ _
    (rw c.put_header.ensures.state at c.put_piece.ensures)
    c.put_header.ensures.cents
    (search rules)
    taken
    (rw (c.lines_in-lines.ensures, c.filled_in-filled.ensures) at c.past_in-past.ensures)
