-- Every kind of event is accepted, with each of its codes: one list of events that has them all, each answered 0.
-- Document 01, "Ten events". Assumes nothing.
use Rattle.std.specs.Prelude.{◌≡◌, Bool, true, false, ◌&&◌, ◌||◌, List, [], ◌∷◌, ℕ, eqb, length, replicate, Ok}
use Rattle.events.specs.declared.Event.{Event}
use Rattle.events.specs.Limits.{checked}
use Rattle.opening.specs.Opening.{opened}
use Rattle.witness.specs.Opening.{event, lent, answers}

-- ---- the kinds with their codes

pub record Sort : Type 0 where
  pub kind : ℕ
  pub code : ℕ

abbrev pub sort : ℕ → ℕ → Sort
sort k c = record { kind = k; code = c }

unfoldable pub sorts : List Sort
sorts =
    sort 1 0  -- creditor
    ∷ sort 2 0  -- mandate: recurrent, one-off
    ∷ sort 2 1
    ∷ sort 3 0  -- amend: debtor bank, creditor
    ∷ sort 3 1
    ∷ sort 4 0  -- cancel
    ∷ sort 5 0  -- collect: FRST, RCUR, FNAL, OOFF
    ∷ sort 5 1
    ∷ sort 5 2
    ∷ sort 5 3
    ∷ sort 6 0  -- settle
    ∷ sort 7 0  -- reject
    ∷ sort 8 0  -- return
    ∷ sort 9 0  -- refund: authorised, unauthorised
    ∷ sort 9 1
    ∷ sort 10 0  -- reversal
    ∷ []

-- ---- the events

unfoldable pub events : List Event
events =
    event 1 20240325 0 1 1 0 0 0 0  -- creditor 1 at bank 1, and another
    ∷ event 1 20240325 0 2 3 0 0 0 0
    ∷ event 2 20240325 7 1 5 2 0 20240325 0  -- a recurrent mandate, a one-off and a recurrent one that will be cancelled
    ∷ event 2 20240325 8 1 6 2 0 20240325 1
    ∷ event 2 20240325 9 1 5 2 0 20240325 0
    ∷ event 5 20240325 7 70 0 0 10000 20240329 0  -- FRST, kept for 20240402
    ∷ event 5 20240325 8 80 0 0 10000 20240402 3  -- OOFF
    ∷ event 3 20240328 7 0 0 4 0 0 0  -- amend: a new debtor bank, and a new creditor
    ∷ event 3 20240328 7 2 0 0 0 0 1
    ∷ event 5 20240328 7 71 0 0 10000 20240408 0  -- FRST again, RCUR, FNAL
    ∷ event 5 20240328 7 72 0 0 10000 20240408 1
    ∷ event 5 20240328 7 73 0 0 10000 20240408 2
    ∷ event 5 20240328 9 90 0 0 10000 20240408 0
    ∷ event 4 20240402 9 0 0 0 0 0 0  -- cancel
    ∷ event 7 20240402 0 73 0 0 0 0 0  -- reject
    ∷ event 6 20240402 0 70 0 0 0 0 0  -- settle
    ∷ event 6 20240402 0 80 0 0 0 0 0
    ∷ event 6 20240408 0 71 0 0 0 0 0
    ∷ event 6 20240408 0 90 0 0 0 0 0
    ∷ event 8 20240409 0 70 0 0 0 0 0  -- return, after the debtor bank was amended
    ∷ event 10 20240415 0 90 0 0 0 0 0  -- reversal, on a cancelled mandate
    ∷ event 9 20240530 0 80 360 0 0 0 0  -- refunds, authorised and unauthorised, each on its last day
    ∷ event 9 20250612 0 71 360 0 0 0 1
    ∷ []

-- ---- the statement

abbrev pub sort_of : Event → Sort
sort_of e = sort e.kind e.code

abbrev pub sorts_of : List Event → List Sort
sorts_of [] = []
sorts_of (e ∷ es) = sort_of e ∷ sorts_of es

abbrev pub is_in : List Sort → Sort → Bool
is_in [] s = false
is_in (x ∷ xs) s = (eqb x.kind s.kind && eqb x.code s.code) || is_in xs s

abbrev pub all_in : List Sort → List Sort → Bool
all_in xs [] = true
all_in xs (s ∷ ss) = is_in xs s && all_in xs ss

pub record EveryKind : Type 0 where
  -- the list has an event of each kind and code
  pub covers : all_in (sorts_of events) sorts ≡ true
  -- no event within its limits is of another
  pub complete : (e : Event) → checked e ≡ (Ok tt) → is_in sorts (sort_of e) ≡ true
  -- and every event of the list is accepted
  pub accepted : answers (opened lent) events ≡ replicate (length events) 0
