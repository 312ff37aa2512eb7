-- `safety::sum_moved` meets its contract: the sum fits, since the rows are few and none has moved more than a row can.
-- Assumes nothing.
use Rattle.std.proofs.Common.{rules, arith, ◌≡◌, ◌^◌, get_or}
use Rattle.std.proofs.lemmas.Iterator.{YieldsList-from_slice}
use Rattle.std.proofs.lemmas.Iterator.Adapters.{fits_from_length, at_most_from_yields_List}
use Rattle.common.specs.Limits.{collection_row_limit}
use Rattle.safety.specs.Safety.{tag_moved}
use Rattle.safety.proofs.Laws.Sums.{tag_small}
use Rattle.safety.proofs.sum_moved.Goals as goal

pub sum-requires-clause-fits : goal.sum-requires-clause-fits
sum-requires-clause-fits c =
    fits_from_length _ _ collection_row_limit (2 ^ 64) (at_most_from_yields_List (YieldsList-from_slice c.args.rows.now cc) c.requires) c.map.ensures.closure (omega arith)
    (λ x r q k.
    let moved : (q ≡ record {}) × (r ≡ tag_moved (get_or x.now 7 0)) = search rules in
    (moved.0, omega (arith, moved.1, tag_small (get_or x.now 7 0))))
