-- `piece_fits` divides by the length of an answer, which is not 0. Assumes nothing.
use Rattle.std.proofs.Common.{arith}
use Rattle.desk.proofs.Laws.Lines.{some_wide}
use Rattle.desk.proofs.answering.piece_fits.Goals as goal

pub nonzero_div-result : goal.nonzero_div-result
nonzero_div-result g c = omega (arith, some_wide _ _ c.requires)
