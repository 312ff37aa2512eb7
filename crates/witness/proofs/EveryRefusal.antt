-- Every refusal is given: answers and states are computed. To cite: `every_refusal`. Assumes nothing.
use mathlib.Core.Path.{◌≡◌, refl, ap}
use mathlib.Core.Bool.{true}
use Rattle.tables.specs.Ledger.{Ledger}
use Rattle.fitness.specs.Fitness.{sizes_of, sizes_fit}
use Rattle.model.specs.Step.{query}
use Rattle.model.specs.Lookups.{mandate_of, collection_of}
use Rattle.witness.specs.EveryRefusal.{small, cases, asked_in, state_in, EveryRefusal, OutsideRefused}
use Rattle.witness.proofs.Ruled.{ruled_answers, ruled_run, opened_answers, opened_run}

small_sizes : sizes_fit small ≡ true
unfolding sizes_of
small_sizes = refl

pub every_refusal : EveryRefusal
unfolding cases ruled_answers ruled_run
every_refusal =
    let r = opened_run small small_sizes (asked_in cases) in
    record {
      answered = opened_answers small small_sizes (asked_in cases);
      returned = ap (λ (l : Ledger). state_in (collection_of l 80)) r;
      refunded = ap (λ (l : Ledger). state_in (collection_of l 70)) r;
      reversed = ap (λ (l : Ledger). state_in (collection_of l 71)) r;
      closed = ap (λ (l : Ledger). mandate_of l 8) r;
      rejected = ap (λ (l : Ledger). state_in (collection_of l 72)) r;
    }

pub outside_refused : OutsideRefused
unfolding query
outside_refused l f = rw f (refl, (refl, (refl, (refl, (refl, (refl, (refl, (refl, (refl, tt)))))))))
