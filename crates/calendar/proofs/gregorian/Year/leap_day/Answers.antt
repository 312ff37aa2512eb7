use Rattle.calendar.proofs.Laws.Gregorian.{leap_day_in}
use native.Mathlib.Omega.{arith}
use Rattle.std.proofs.lemmas.Grind.{common_steps}
use Rattle.calendar.proofs.gregorian.Year.leap_day.Goals as goal

pub returns : goal.returns
returns c = let i = c.self.invariant in let v = c.self.view_is in let e = leap_day_in _ i.0 i.1 in grind (arith, common_steps, e, v)
