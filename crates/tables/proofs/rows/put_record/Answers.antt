use Rattle.std.proofs.Common.{◌∙◌, sym, lit<}
use Rattle.tables.proofs.Laws.Rows.{put_part, put_nowhere}
use Rattle.tables.proofs.rows.put_record.Goals as goal

pub returns-then-row-cells : goal.returns-then-row-cells
returns-then-row-cells g c =
    put_part 9 c.args.cells.now c.args.row (g.R.Record.cells c.args.r) _ (lit< tt) c.if-row-cells.true (c.copy_from_slice.ensures.after ∙ c.to_cells.ensures) c.copy_from_slice.ensures.len

pub returns-else-row-cells : goal.returns-else-row-cells
returns-else-row-cells g c = sym (put_nowhere _ _ _ _ c.if-row-cells.false)
