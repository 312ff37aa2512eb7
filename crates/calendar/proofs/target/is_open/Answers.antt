use Rattle.std.proofs.lemmas.Grind.{common_steps}
use Rattle.calendar.proofs.Laws.Target.{day_open}
use native.Mathlib.Omega.{arith}
use Rattle.calendar.proofs.target.is_open.Goals as goal

pub returns : goal.returns
returns c = let e = day_open c.args.n in grind (arith, common_steps, e)
