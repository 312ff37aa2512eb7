use Rattle.std.proofs.Common.{◌≡◌, [], false}
use Rattle.tables.specs.Ledger.{ledger_in, SameLoans}
use Rattle.run.specs.Run.{run_at}
use Rattle.ledger.specs.Input.{InputTaken}
use Rattle.ledger.proofs.take_input.Given as goal

abbrev pub invariant-loop : goal.invariant-loop
invariant-loop l =
    InputTaken (run_at (ledger_in l.initial.book) 0 []) (ledger_in l.book) l.p.lines l.p.partial l.p.beyond l.text
    × (l.p.beyond ≡ false)
    × SameLoans l.initial.book l.book
