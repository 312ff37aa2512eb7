-- Replay: a lent list of events, nine cells an event in the order of its fields, given one after the other to a ledger
-- that was opened first. What is promised of every list is promised of it. Assumes nothing.
use Rattle.std.specs.Prelude.{◌≡◌, true, cond, List, [], ◌∷◌, ◌++◌, ℕ, zero, suc, ◌*◌, ◌/◌, length, take, drop, Result}
use Rattle.refusals.specs.Refusals.{number_of, answer_number}
use Rattle.refusals.specs.declared.Refusal.TheVariants.{UnfitMemory}
use Rattle.refusals.specs.declared.Refusal.{Refusal}
use Rattle.events.specs.declared.Event.{Event}
use Rattle.events.specs.Fields.{event_of}
use Rattle.tables.specs.Ledger.{Ledger}
use Rattle.fitness.specs.Fitness.{sizes_fit}
use Rattle.opening.specs.Opening.{opened}
use Rattle.model.specs.Step.{run}
use Rattle.model.specs.Promises.{Kept}

-- the cells of an event
abbrev pub event_cells : ℕ
event_cells = 9

-- the event at a place of the list
unfoldable pub event_at : List ℕ → ℕ → Event
event_at cells i = event_of (take event_cells (drop (i * event_cells) cells))

-- the first n events
unfoldable pub events_to : List ℕ → ℕ → List Event
events_to cells zero = []
events_to cells (suc n) = events_to cells n ++ (event_at cells n ∷ [])

-- all of them; cells that make no whole event are none
abbrev pub events_in : List ℕ → List Event
events_in cells = events_to cells (length cells / event_cells)

-- from the lent memory l to the ledger l'
pub record Replayed (l : Ledger) (es : List Event) (r : Result Unit Refusal) (l' : Ledger) : Type 0 where
  pub answer : answer_number r ≡ cond (sizes_fit l) 0 (number_of UnfitMemory)
  pub after : l' ≡ cond (sizes_fit l) (run (opened l) es) l
  pub kept : sizes_fit l ≡ true → Kept (opened l) es
