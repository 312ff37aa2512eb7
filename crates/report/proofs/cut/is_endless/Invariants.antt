use Rattle.std.proofs.Common.{◌≡◌, ◌&&◌}
use Rattle.report.specs.Cut.{end_from, is_none}
use Rattle.report.proofs.cut.is_endless.Given as goal

-- what was found so far and what is left have the answer of the whole
abbrev pub invariant-loop-b : goal.invariant-loop-b
invariant-loop-b l = l.none && is_none (end_from l.text l.b-index) ≡ is_none (end_from l.text 0)
