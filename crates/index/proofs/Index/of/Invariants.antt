use Rattle.std.proofs.Common.{◌≡◌}
use Rattle.index.proofs.Laws.Making.{Linked}
use Rattle.index.proofs.Index.of.Given as goal

-- the rows from i on are linked
abbrev pub invariant-loop-i : goal.invariant-loop-i
invariant-loop-i l = Linked l.cells l.n l.i l.made.first l.made.next × (l.made.covered ≡ l.n)
