use Rattle.model.specs.Step.{kind_of}
use Rattle.listing.specs.Listing.{table_output}
use Rattle.digits.proofs.Laws.Buffer.{Written}
use Rattle.listing.proofs.listing.list_kind.Given as goal

abbrev pub invariant-loop-i : goal.invariant-loop-i
invariant-loop-i l = Written l.at l.initial.out (table_output (kind_of l.figure) l.positions l.i) l.next l.out
