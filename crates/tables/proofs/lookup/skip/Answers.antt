-- `tables::lookup::skip` meets its contract. The loop: the walk from the turn's row on has the answer of the walk from the first row
-- on. Assumes nothing.
use Rattle.std.proofs.Common.{◌≡◌, ℕ, ◌+◌, ◌*◌, ◌-◌, None, Some, arith, sym, ap, ◌∙◌}
use Rattle.common.specs.Walk.{first_from}
use Rattle.tables.specs.Lookup.{number_is}
use Rattle.tables.proofs.Laws.Lookup.{four_miss, walk_past_eight}
use Rattle.tables.proofs.lookup.skip.Goals as goal

pub loop-turn-preserved : goal.loop-turn-preserved
loop-turn-preserved c =
    let a = c.args in
    let row = a.from + 8 * c.loop-turn.turn in
    let next : row + 8 ≡ a.from + 8 * (c.loop-turn.turn + 1) = omega arith in
    ap (λ (at : ℕ). first_from (number_is a.cells.now a.number) Some None at (a.n - at)) (sym next)
    ∙ sym
    (walk_past_eight a.cells.now a.number _ _ row a.n (omega (arith, c.requires.0)) c.if-in_four.false
    (four_miss a.cells.now a.number _ _ c.in_four.ensures)
    (four_miss a.cells.now a.number _ _ c.in_four-in-loop-turn.ensures))
    ∙ c.loop-turn.invariant
