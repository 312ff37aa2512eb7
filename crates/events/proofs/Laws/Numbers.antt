-- Refusals 3, 4 and 5 in the paper's numbers. To cite: `limit_number_lem`; `by_limits`, the same by the three tests. Assumes nothing.
use Rattle.std.proofs.Common.{Err, Ok}
use mathlib.Core.Path.{◌≡◌, refl}
use mathlib.Core.Bool.{Bool, true, false}
use mathlib.Core.List.{[], ◌∷◌}
use Rattle.common.specs.Checks.{check, judged}
use Rattle.calendar.specs.Gregorian.{in_range}
use Rattle.refusals.specs.declared.Refusal.TheVariants.{UnknownKind, BadDate, BadField}
use Rattle.events.specs.declared.Event.{Event}
use Rattle.refusals.specs.Refusals.{answer_number}
use Rattle.events.specs.Limits.{within, kinds, fields_fit, checked, limit_number}

pub by_limits : (kind date fields : Bool) → answer_number {A = Unit} (judged (check kind (Err UnknownKind) ∷ check date (Err BadDate) ∷ check fields (Err BadField) ∷ []) (Ok tt)) ≡ judged (check kind 3 ∷ check date 4 ∷ check fields 5 ∷ []) 0
by_limits false date fields = refl
by_limits true false fields = refl
by_limits true true false = refl
by_limits true true true = refl

pub limit_number_lem : (e : Event) → answer_number (checked e) ≡ limit_number e
unfolding checked limit_number
limit_number_lem e = by_limits (within kinds e.kind) (in_range e.date) (fields_fit e)
