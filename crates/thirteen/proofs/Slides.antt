-- The table of specs/Slides holds by the same computed test as the first one. To cite: `slid_days`. Assumes nothing.
use mathlib.Core.Path.{refl}
use Rattle.calendar.specs.Target.{kept}
use Rattle.model.specs.Deadlines.{slid}
use Rattle.witness.proofs.Ruled.{ruled_run}
use Rattle.thirteen.specs.Slides.{slide_rows, SlidDays}
use Rattle.thirteen.proofs.Thirteen.{agree}

pub slid_days : SlidDays
unfolding slide_rows ruled_run kept slid
slid_days = record { asked = refl; agree = agree slide_rows tt }
