-- `slide` meets its contract: each date of the range has a kept due date. Assumes nothing.
use Rattle.std.proofs.Common.{◌≡◌, rules}
use Rattle.desk.specs.Slide.{slide}
use Rattle.desk.proofs.Laws.Slide.{slide_number}
use Rattle.desk.proofs.slide.slide.Goals as goal

pub returns-clause-number : goal.returns-clause-number
unfolding slide
returns-clause-number c =
    let e : c.ok_or.result ≡ slide c.args.requested = search rules in
    slide_number _ _ e
