-- `put_answer` meets its contract: the number, what is said and the byte that ends the answer, one behind the other. Assumes nothing.
use Rattle.std.proofs.Common.{arith, ap, ◌+◌, ◌-◌, ℕ}
use Rattle.desk.proofs.Laws.Lines.{said_wide, answer_written}
use Rattle.desk.proofs.answering.put_answer.Goals as goal

pub put_said-requires : goal.put_said-requires
put_said-requires g c = omega (arith, said_wide _ _ c.requires.wide c.args.line.now, c.put.auto.out)

pub overflow_sub-out : goal.overflow_sub-out
overflow_sub-out g c = omega (arith, said_wide _ _ c.requires.wide c.args.line.now, c.ANSWER.ensures)

pub bounds-out-at : goal.bounds-out-at
bounds-out-at g c =
    omega (arith, said_wide _ _ c.requires.wide c.args.line.now, c.ANSWER.ensures, c.put.auto.out, c.put_said.auto.out, c.requires.room)

pub returns : goal.returns
returns g c =
    answer_written _ _ _ _ _ _ _ _ (c.requires.wide.each _ _) c.requires.room
    (ap (λ (n : ℕ). c.args.at + n - 1) c.ANSWER.ensures)
    c.put.ensures c.put_said.ensures
