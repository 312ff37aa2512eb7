use Rattle.listing.proofs.Laws.Past.{Counted}
use Rattle.listing.proofs.past.line_count.Given as goal

abbrev pub invariant-loop-b : goal.invariant-loop-b
invariant-loop-b l = Counted l.text l.n l.b-index
