-- `main` meets what it calls: the tables that it lends have their rows, and their opening was accepted. Assumes nothing.
use Rattle.std.proofs.Common.{rules, ◌*◌}
use Rattle.ledger.proofs.Laws.Program.{begins_opened, rows_lent}
use Rattle.ledger.specs.Program.{mandate_rows, collection_rows}
use Rattle.tables.specs.Limits.{stride}
use Rattle.ledger.proofs.main.Goals as goal

pub run-requires : goal.run-requires
run-requires c = begins_opened _ _ _ c.open_ledger-opened.ensures (search rules) (rows_lent (mandate_rows * stride)) (rows_lent (collection_rows * stride))
