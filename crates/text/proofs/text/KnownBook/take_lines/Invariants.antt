use Rattle.std.proofs.Common.{◌≡◌, [], ◌-◌, length}
use Rattle.tables.specs.Ledger.{ledger_in, SameLoans}
use Rattle.run.specs.Run.{run_at}
use Rattle.text.proofs.Laws.Text.{AnsweredTo}
use Rattle.text.proofs.text.KnownBook.take_lines.Given as goal

abbrev pub invariant-loop-end : goal.invariant-loop-end
invariant-loop-end l = record {
  book : l.self.book.ghost_name ≡ l.initial.self.book.ghost_name;
  same : SameLoans l.initial.self.book.now l.self.book.now;
  answered : AnsweredTo (run_at (ledger_in l.initial.self.book.now) l.lines []) l.text l.initial.out l.at (ledger_in l.self.book.now) l.progress l.out;
}

abbrev pub decreases-loop-end : goal.decreases-loop-end
decreases-loop-end l = length l.text - l.at
