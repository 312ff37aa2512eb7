-- The calls that change the book over lent cells, against the model. Of each, l is the ledger that the cells and the tables hold before
-- it, and l' the one after. Assumes nothing.
use Rattle.std.specs.Prelude.{◌≡◌, Bool, true, cond, ◌&&◌, List, [], ◌∷◌, ℕ, ℤ, pos}
use Rattle.refusals.specs.declared.Refusal.TheVariants.{UnfitMemory}
use Rattle.refusals.specs.Refusals.{number_of}
use Rattle.tables.specs.Ledger.{Ledger}
use Rattle.fitness.specs.Fitness.{sizes_fit}
use Rattle.opening.specs.Opening.{fresh, opened}
use Rattle.model.specs.Step.{event_number, after, run}
use Rattle.model.specs.Promises.{Kept}
use Rattle.replay.specs.Replay.{events_in}
use Rattle.cells.specs.Cells.{cells_fit, event_cells_fit, cells_event, header_state, header_cents, head_of}

-- ---- the opening

-- where the cells and the sizes of the tables fit, the ledger is fresh and so is every cell; else it is refused and nothing changes
pub record Opening (fits : Bool) (state : List ℕ) (cents : List ℤ) (l : Ledger)
    (r : ℕ) (state' : List ℕ) (cents' : List ℤ) (l' : Ledger) : Type 0 where
  pub answer_is : r ≡ cond fits 0 (number_of UnfitMemory)
  pub state_is : state' ≡ cond fits (0 ∷ 0 ∷ 0 ∷ 0 ∷ 0 ∷ 0 ∷ 0 ∷ []) state
  pub cents_is : cents' ≡ cond fits (pos 0 ∷ pos 0 ∷ []) cents
  pub book_is : l' ≡ cond fits (fresh l) l

abbrev pub OpenCall : List ℕ → List ℤ → Ledger → ℕ → List ℕ → List ℤ → Ledger → Type 0
OpenCall state cents l = Opening (cells_fit state cents && sizes_fit l) state cents l

-- ---- an event

-- where all cells that are lent fit, the call answers `number` and leaves the ledger `left`; of the cells those of the header are anew.
-- Else it is refused and nothing changes
pub record BookCall (fits : Bool) (number : ℕ) (left : Ledger) (state : List ℕ) (cents : List ℤ) (l : Ledger)
    (r : ℕ) (state' : List ℕ) (cents' : List ℤ) (l' : Ledger) : Type 0 where
  pub answer_is : r ≡ cond fits number (number_of UnfitMemory)
  pub state_is : state' ≡ cond fits (header_state (head_of left) state) state
  pub cents_is : cents' ≡ cond fits (header_cents (head_of left) cents) cents
  pub book_is : l' ≡ cond fits left l

abbrev pub EventCall : List ℕ → List ℤ → List ℕ → Ledger → ℕ → List ℕ → List ℤ → Ledger → Type 0
EventCall state cents event l =
    BookCall
    (cells_fit state cents && event_cells_fit event)
    (event_number l (cells_event event))
    (after l (cells_event event))
    state
    cents
    l

-- ---- a list of events, nine cells an event: the ledger is opened, and given every one of them

pub record ReplayCall (state : List ℕ) (cents : List ℤ) (events : List ℕ) (l : Ledger)
    (r : ℕ) (state' : List ℕ) (cents' : List ℤ) (l' : Ledger) : Type 0 where
  pub done :
      BookCall
      (cells_fit state cents)
      (cond (sizes_fit l) 0 (number_of UnfitMemory))
      (cond (sizes_fit l) (run (opened l) (events_in events)) l)
      state
      cents
      l
      r
      state'
      cents'
      l'
  -- what is promised of every list of events
  pub kept : cells_fit state cents ≡ true → sizes_fit l ≡ true → Kept (opened l) (events_in events)
