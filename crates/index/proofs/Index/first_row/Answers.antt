-- `first_row` meets its contract. The loop: to follow the index from row k - 1 on gives the answer. Assumes nothing.
use Rattle.std.proofs.Common.{rules, ◌≡◌, ◌∙◌, ℕ, ◌+◌, ◌-◌, get_or, ap, sym, arith}
use Rattle.index.specs.Index.{row_limit}
use Rattle.index.proofs.Laws.Following.{follow_start, follow_none, follow_end, follow_hit, follow_next}
use Rattle.index.proofs.Index.first_row.Goals as goal
use Rattle.index.proofs.Index.first_row.Goals.{else-loop-test, then-loop-test+then-k-eq0}

pub loop-init : goal.loop-init
loop-init c = (search rules, follow_start _ _ _ _ (ap (λ (i : ℕ). get_or c.args.self.now.first i 0) c.slot_of.ensures.is))

pub returns-then-number_at-number : goal.returns-then-number_at-number
returns-then-number_at-number c =
    let row = c.from-row.ensures in
    let hit = rw row at (sym c.number_at.ensures ∙ c.if-number_at-number.true) in
    rw row (sym (c.loop.invariant.1 ∙ follow_hit _ _ _ _ _ (omega arith) (omega (arith, c.if-k-eq0.false)) hit))

pub loop-preserved : goal.loop-preserved
loop-preserved c =
    let row = c.from-row.ensures in
    let left : row_limit - (c.loop.counter + 1) ≡ row_limit - c.loop.counter - 1 = omega arith in (
      c.next_row-k.type_inv,
      rw (c.next_row-k.ensures, row, left) (c.loop.invariant.1
          ∙ follow_next _ _ _ _ _ (omega arith) (omega (arith, c.if-k-eq0.false)) (λ e. c.if-number_at-number.false (c.number_at.ensures ∙ rw row e))),
    )

pub returns : goal.returns
returns c =
    c.from.ensures
    ∙ sym
    (c.loop.invariant.1
    ∙ elim c.loop-test.branch [
      | else-loop-test w ↦ let none : row_limit - c.loop.counter ≡ 0 = omega arith in rw none (follow_end _ _ _ _)
      | then-loop-test+then-k-eq0 w ↦ rw w.if-k-eq0.true (follow_none _ _ _ _)
    ])
