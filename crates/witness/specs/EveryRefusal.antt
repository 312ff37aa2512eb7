-- Each refusal from 6 to 17 is given, beside events on the right side of its limit that are accepted: one list of events on small
-- tables, with what each is answered, and the states of its collections after it. Document 01, "What is refused". Assumes nothing.
use Rattle.std.specs.Prelude.{◌≡◌, true, false, List, [], ◌∷◌, ℕ, ◌*◌, pos, replicate}
use Rattle.events.specs.declared.Event.{Event}
use Rattle.tables.specs.Limits.{creditor_count, debtor_count, bank_count, stride}
use Rattle.tables.specs.Ledger.{Ledger}
use Rattle.opening.specs.Opening.{opened}
use Rattle.tables.specs.declared.Mandate.{Mandate}
use Rattle.tables.specs.declared.Standing.TheVariants.{Closed}
use Rattle.tables.specs.declared.Collection.{Collection}
use Rattle.tables.specs.declared.State.{State}
use Rattle.tables.specs.declared.State.TheVariants.{Rejected, Undone}
use Rattle.tables.specs.declared.Undoing.TheVariants.{Return, Refund, Reversal}
use Rattle.model.specs.Lookups.{Known, mandate_of, collection_of}
use Rattle.model.specs.Lookups.Known.{unknown, known}
use Rattle.fitness.specs.Fitness.{fit}
use Rattle.model.specs.Step.{answer_number, query, run}
use Rattle.witness.specs.Opening.{event, answers}

-- four rows of each
abbrev pub small : Ledger
small = record {
  latest = 0;
  mandates_used = 0;
  collections_used = 0;
  compensation = pos 0;
  mandates = replicate (4 * stride) 0;
  collections = replicate (4 * stride) 0;
  creditors = replicate creditor_count 0;
  creditor_positions = replicate creditor_count (pos 0);
  debtor_positions = replicate debtor_count (pos 0);
  bank_positions = replicate bank_count (pos 0);
}

pub record Case : Type 0 where
  pub asked : Event
  pub number : ℕ

abbrev pub case : Event → ℕ → Case
case e n = record { asked = e; number = n }

unfoldable pub cases : List Case
cases =
    case (event 1 20240325 0 1 1 0 0 0 0) 0
    ∷ case (event 1 20240325 0 1 2 0 0 0 0) 8  -- the creditor exists
    ∷ case (event 2 20240324 7 1 5 2 0 20240324 0) 6
    ∷ case (event 2 20240325 7 2 5 2 0 20240325 0) 9  -- creditor 2 does not
    ∷ case (event 1 20240325 0 2 3 0 0 0 0) 0
    ∷ case (event 2 20240325 7 1 5 2 0 20240325 0) 0  -- recurrent
    ∷ case (event 2 20240325 7 1 5 2 0 20240325 0) 8
    ∷ case (event 2 20240325 8 1 6 2 0 20240325 1) 0  -- one-off
    ∷ case (event 3 20240325 8 0 0 4 0 0 0) 0
    ∷ case (event 2 20240325 9 1 5 2 0 20210401 0) 0  -- lapses after 20240401, and after 20240402
    ∷ case (event 2 20240325 10 1 5 2 0 20210402 0) 0
    ∷ case (event 2 20240325 11 1 5 2 0 20240325 0) 10  -- a fifth row
    ∷ case (event 5 20240325 6 70 0 0 10000 20240402 0) 9
    ∷ case (event 5 20240325 7 70 0 0 10000 20240402 1) 12  -- FRST is due
    ∷ case (event 5 20240325 7 70 0 0 10000 20240402 2) 12
    ∷ case (event 5 20240325 7 70 0 0 10000 20240402 3) 12
    ∷ case (event 5 20240325 8 80 0 0 10000 20240402 0) 12  -- a one-off
    ∷ case (event 5 20240325 8 80 0 0 10000 20240402 1) 12
    ∷ case (event 5 20240325 8 80 0 0 10000 20240402 2) 12
    ∷ case (event 5 20240325 7 70 0 0 10000 20240409 0) 13  -- 15 days ahead, and 14
    ∷ case (event 5 20240325 7 70 0 0 10000 20240408 0) 0
    ∷ case (event 5 20240325 7 70 0 0 10000 20240408 1) 8
    ∷ case (event 3 20240325 7 3 0 0 0 0 1) 9
    ∷ case (event 3 20240325 7 2 0 0 0 0 1) 0  -- a new creditor does not make FRST due
    ∷ case (event 5 20240325 7 72 0 0 10000 20240408 0) 12
    ∷ case (event 5 20240325 7 72 0 0 10000 20240408 3) 12
    ∷ case (event 5 20240328 9 90 0 0 10000 20240329 0) 14  -- kept due 20240402
    ∷ case (event 5 20240329 10 71 0 0 10000 20240329 0) 13  -- after the last business day before it, and on it
    ∷ case (event 5 20240328 10 71 0 0 10000 20240329 0) 0
    ∷ case (event 5 20240328 8 80 0 0 10000 20240402 3) 0
    ∷ case (event 5 20240328 8 81 0 0 10000 20240402 3) 11  -- closed
    ∷ case (event 3 20240328 8 0 0 4 0 0 0) 11
    ∷ case (event 4 20240328 8 0 0 0 0 0 0) 11
    ∷ case (event 4 20240328 10 0 0 0 0 0 0) 0
    ∷ case (event 5 20240328 10 81 0 0 10000 20240402 1) 11  -- cancelled
    ∷ case (event 3 20240328 10 0 0 4 0 0 0) 11
    ∷ case (event 4 20240328 10 0 0 0 0 0 0) 11
    ∷ case (event 5 20240328 7 72 0 0 10000 20240408 1) 0
    ∷ case (event 5 20240328 7 73 0 0 10000 20240408 1) 10  -- a fifth row
    ∷ case (event 6 20240402 0 69 0 0 0 0 0) 9
    ∷ case (event 6 20240329 0 71 0 0 0 0 0) 7  -- Good Friday
    ∷ case (event 6 20240402 0 70 0 0 0 0 0) 16  -- its kept due is 20240408
    ∷ case (event 8 20240402 0 71 0 0 0 0 0) 15  -- not settled yet
    ∷ case (event 6 20240402 0 71 0 0 0 0 0) 0
    ∷ case (event 6 20240402 0 71 0 0 0 0 0) 15
    ∷ case (event 7 20240402 0 71 0 0 0 0 0) 15
    ∷ case (event 6 20240403 0 80 0 0 0 0 0) 0  -- a settle may come after the kept due
    ∷ case (event 8 20240406 0 71 0 0 0 0 0) 7  -- a Saturday; a reject may fall on it
    ∷ case (event 9 20240406 0 71 360 0 0 0 0) 7
    ∷ case (event 10 20240406 0 71 0 0 0 0 0) 7
    ∷ case (event 7 20240406 0 72 0 0 0 0 0) 0
    ∷ case (event 6 20240408 0 72 0 0 0 0 0) 15
    ∷ case (event 6 20240408 0 70 0 0 0 0 0) 0
    ∷ case (event 8 20240410 0 71 0 0 0 0 0) 17  -- the sixth business day, and the fifth; its mandate is cancelled
    ∷ case (event 10 20240410 0 71 0 0 0 0 0) 17
    ∷ case (event 10 20240409 0 71 0 0 0 0 0) 0
    ∷ case (event 8 20240409 0 71 0 0 0 0 0) 15
    ∷ case (event 8 20240409 0 80 0 0 0 0 0) 0
    ∷ case (event 9 20240409 0 70 360 0 0 0 1) 0
    ∷ []

abbrev pub asked_in : List Case → List Event
asked_in [] = []
asked_in (c ∷ cs) = c.asked ∷ asked_in cs

abbrev pub numbers_in : List Case → List ℕ
numbers_in [] = []
numbers_in (c ∷ cs) = c.number ∷ numbers_in cs

abbrev pub state_in : Known Collection → Known State
state_in unknown = unknown
state_in (known k) = known k.state

-- a new debtor bank does not make FRST due for a one-off
abbrev pub one_off : Mandate
one_off = record {
  number = 8;
  creditor = 1;
  debtor = 6;
  bank = 4;
  signed = 20240325;
  code = 1;
  standing = Closed;
  first = false;
  presented = 20240402;
}

pub record EveryRefusal : Type 0 where
  pub answered : answers (opened small) (asked_in cases) ≡ numbers_in cases
  -- how the collections stand after it
  pub returned : state_in (collection_of (run (opened small) (asked_in cases)) 80) ≡ known (Undone 20240409 Return)
  pub refunded : state_in (collection_of (run (opened small) (asked_in cases)) 70) ≡ known (Undone 20240409 Refund)
  pub reversed : state_in (collection_of (run (opened small) (asked_in cases)) 71) ≡ known (Undone 20240409 Reversal)
  pub closed : mandate_of (run (opened small) (asked_in cases)) 8 ≡ known one_off
  pub rejected : state_in (collection_of (run (opened small) (asked_in cases)) 72) ≡ known Rejected

-- ---- queries: just outside their limits, of any fit ledger

pub record Asking : Type 0 where
  pub kind : ℕ
  pub number : ℕ

abbrev pub asking : ℕ → ℕ → Asking
asking k n = record { kind = k; number = n }

abbrev pub outside : List Asking
outside =
    asking 0 0
    ∷ asking 1 0
    ∷ asking 1 257
    ∷ asking 2 0
    ∷ asking 2 4097
    ∷ asking 3 0
    ∷ asking 3 65
    ∷ asking 4 1
    ∷ asking 5 0
    ∷ []

abbrev pub AllRefused : Ledger → List Asking → Type 0
AllRefused l [] = Unit {0}
AllRefused l (q ∷ qs) = (answer_number (query l q.kind q.number) ≡ 5) × AllRefused l qs

abbrev pub OutsideRefused : Type 0
OutsideRefused = (l : Ledger) → fit l ≡ true → AllRefused l outside
