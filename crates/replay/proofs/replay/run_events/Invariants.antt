use Rattle.tables.specs.Ledger.{ledger_in, SameLoans}
use Rattle.replay.proofs.Laws.Replay.{Running}
use Rattle.replay.proofs.replay.run_events.Given as goal

abbrev pub invariant-loop-fields : goal.invariant-loop-fields
invariant-loop-fields l = record {
  same : SameLoans l.initial.book l.book;
  running : Running l.fn.cells (ledger_in l.initial.book) (ledger_in l.book) l.fields-index;
}
