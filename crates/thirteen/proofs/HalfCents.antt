-- The table of specs/HalfCents holds by the same computed test as the first one, and the totals are computed by the rules alone.
-- To cite: `half_cents`. Assumes nothing.
use mathlib.Core.Path.{◌≡◌, refl, ap, ◌∙◌}
use mathlib.Core.List.{List}
use Prim.Native.Nat.{ℕ}
use lib.IntN.{ℤ, pos}
use lib.ListN.{length, replicate}
use Rattle.std.proofs.Common.{Ok}
use Rattle.positions.specs.Compensation.{compensation as compensationFor, interest, half_up, even_of, half_even, rounded}
use Rattle.events.specs.declared.Event.{Event}
use Rattle.opening.specs.Opening.{fresh}
use Rattle.witness.specs.Opening.{lent}
use Rattle.witness.proofs.Ruled.{ruled_run, ruled_answers, lent_sizes, opened_answers, opened_query}
use Rattle.thirteen.specs.HalfCents.{dated_rows, TotalAfter, HalfCents}
use Rattle.thirteen.proofs.Thirteen.{agree}

-- by the rules alone
total_after :
    (es : List Event) (cents : ℕ)
    → ruled_answers (fresh lent) es ≡ replicate (length es) 0
    → (ruled_run (fresh lent) es).compensation ≡ pos cents
    → TotalAfter es cents
total_after es cents answered total = record {
  accepted = opened_answers lent lent_sizes es ∙ answered;
  total = opened_query lent lent_sizes es 4 0 refl ∙ ap (λ (z : ℤ). Ok z) total;
}

pub half_cents : HalfCents
unfolding dated_rows ruled_run ruled_answers compensationFor interest rounded half_up half_even even_of
half_cents = record {
  asked = refl;
  agree = agree dated_rows tt;
  by_the_old_rule = total_after _ _ refl refl;
  by_each_rule = total_after _ _ refl refl;
  by_the_new_rule = total_after _ _ refl refl;
}
