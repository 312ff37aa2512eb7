-- `of` makes the index row by row, from the last one covered to the first: each comes before those of its slot. Assumes nothing.
use Rattle.std.proofs.Common.{◌≡◌, ℕ, ◌+◌, ◌-◌, subst, ap, ◌∙◌, refl, arith}
use Rattle.index.proofs.Laws.Making.{Linked, linked_start, linked_row, linked_end}
use Rattle.index.specs.declared.Index.{Index}
use Rattle.index.proofs.Index.of.Goals as goal

pub loop-i-init : goal.loop-i-init
loop-i-init c = (linked_start _ _ (omega (arith, c.covered_of-n.ensures)), refl)

pub loop-i-preserved : goal.loop-i-preserved
loop-i-preserved c =
    let l = c.loop-i in
    let cells = c.args.cells.now in
    let n = c.covered_of-n.result in
    let e : l.i ≡ l.i - 1 + 1 = omega arith in (
      rw c.slot_of-slot.ensures.is
          (linked_row cells n (omega (arith, c.covered_of-n.ensures)) (l.i - 1) l.made.first l.made.next
          (subst (λ (i : ℕ). Linked cells n i l.made.first l.made.next) e l.invariant.0)
          (omega arith)),
      l.invariant.1,
    )

pub returns : goal.returns
returns c =
    let none : c.loop-i.i ≡ 0 = omega arith in
    let n = c.covered_of-n.ensures in
    let made = c.loop-i.made in
    ap (λ (k : ℕ). let i : Index = record { first = made.first; next = made.next; covered = k } in i) (c.loop-i.invariant.1 ∙ n)
    ∙ linked_end _ _ _ _ (rw (n, none) at c.loop-i.invariant.0)
