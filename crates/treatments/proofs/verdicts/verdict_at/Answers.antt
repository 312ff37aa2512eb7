use Rattle.std.proofs.Common.{◌∙◌}
use Rattle.treatments.proofs.Laws.Treatments.{found_verdict}
use Rattle.treatments.proofs.verdicts.verdict_at.Goals as goal

pub returns : goal.returns
returns c = c.verdict_on.ensures _ ∙ found_verdict _ _ _ _ _ _ c.collection_in.ensures
