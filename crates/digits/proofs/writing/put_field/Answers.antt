use Rattle.std.proofs.Common.{◌+◌, ℕ, refl, sym, ◌∙◌, le_antisymm, length-set, arith}
use Rattle.digits.proofs.Laws.Buffer.{still_nothing, still_sign, still_more, still_edge}
use Rattle.digits.proofs.writing.put_field.Goals as goal

pub loop-i-init : goal.loop-i-init
loop-i-init c = (omega arith, still_edge c.args.at (c.args.at + c.args.width) c.args.out.now (omega arith) c.requires.1 _ _ _ _ refl c.last_digit.ensures)

pub loop-i-preserved-then-rest-eq0 : goal.loop-i-preserved-then-rest-eq0
loop-i-preserved-then-rest-eq0 c = (
  omega arith,
  still_sign _ _ _ c.loop-i-test.true (omega (arith, length-set {A = ℕ})) _ _ c.if-rest-eq0.true
      ∙ c.loop-i.invariant.1,
)

pub loop-i-preserved : goal.loop-i-preserved
loop-i-preserved c = (
  omega arith,
  still_more _ _ _ c.loop-i-test.true (omega (arith, length-set {A = ℕ})) _ _ _ c.if-rest-eq0.false c.last_digit-else-rest-eq0.ensures
      ∙ c.loop-i.invariant.1,
)

pub returns : goal.returns
returns c = sym (still_nothing _ _ _ _ _ (le_antisymm c.loop-i-test.false c.loop-i.invariant.0)) ∙ c.loop-i.invariant.1
