use Rattle.std.proofs.Common.{◌≡◌, ◌<◌, ◌-◌}
use Rattle.index.specs.Index.{row_limit, first_row, follow}
use Rattle.index.proofs.Index.first_row.Given as goal

-- to follow from row k - 1 on gives the answer
abbrev pub invariant-loop : goal.invariant-loop
invariant-loop l = (l.k < 65536) × (first_row l.self l.cells l.number ≡ follow l.self l.cells l.number (row_limit - l.counter) l.k)
