-- The calls for an event and for a query: what they promise. Assumes nothing.
use Rattle.std.specs.Prelude.{◌≡◌, cond, ◌&&◌, ℕ, pos, ℤ, Result}
use Rattle.events.specs.declared.Event.{Event}
use Rattle.tables.specs.Ledger.{Ledger}
use Rattle.fitness.specs.Fitness.{fit}
use Rattle.model.specs.declared.HandedOn.{HandedOn}
use Rattle.model.specs.Step.{answer_number, answer_value, event_number, event_value, outcome, after, in_query, figure_of, query, answered}
use Rattle.refusals.specs.declared.Refusal.{Refusal}

-- the event given to the ledger l: the answer with what it hands on, its number and value, and the ledger l' after it
pub record Taken (l : Ledger) (e : Event) (r : Result HandedOn Refusal) (l' : Ledger) : Type 0 where
  pub outcome_is : r ≡ outcome l e
  pub number_is : answer_number r ≡ event_number l e
  pub value_is : answer_value r ≡ event_value l e
  pub after_is : l' ≡ after l e

-- the query given to the ledger l: the answer, its number and the figure
pub record Queried (l : Ledger) (kind number : ℕ) (r : Result ℤ Refusal) : Type 0 where
  pub answer_is : r ≡ query l kind number
  pub number_is : answer_number r ≡ cond (fit l) (cond (in_query kind number) 0 5) 2
  pub figure_is : answered r ≡ cond (fit l && in_query kind number) (figure_of l kind number) (pos 0)
