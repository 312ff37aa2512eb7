use Rattle.std.proofs.lemmas.Grind.{common_steps}
use Rattle.calendar.proofs.Laws.Target.{day_business}
use native.Mathlib.Omega.{arith}
use Rattle.calendar.proofs.target.is_business_day.Goals as goal

pub returns : goal.returns
returns c = let e = day_business c.args.x in grind (arith, common_steps, e)
