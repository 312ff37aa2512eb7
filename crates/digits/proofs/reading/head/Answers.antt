use Rattle.digits.specs.Words.{onward}
use lib.Dec.{lit<}
use mathlib.Core.Path.{refl}
use Rattle.digits.proofs.reading.head.Goals as goal

pub loop-b-init : goal.loop-b-init
unfolding onward
loop-b-init c = (lit< tt, λ s l. refl)
