-- Demand 3, "a single claim about the whole list, not one for each event" ("The journal"). `Demand3` is the statement;
-- `Kept` has its parts, in the order in which they are demanded. proofs/Laws/Theorem has the proof.
-- Then `AgreesFromAnyStart`, the claim about lists that start on any tables, and what is promised of one call: `Timing`, `EventValues`,
-- `CollectHandsOn`, `OthersHandOnNothing`, `RefundsDated`, `MandatesNotAsked`, `UnusedRows`, and the answers in numbers. Assumes nothing.
use Rattle.std.specs.Prelude.{◌≡◌, ◌≢◌, true, cond, ◌&&◌, List, [], ◌∷◌, ◌++◌, ℕ, zero, suc, ◌+◌, ◌*◌, ◌<◌, ◌≤◌, eqb, ℤ, pos, ◌+ℤ◌, length, get_or, Option, Some, Ok}
use Rattle.calendar.specs.Gregorian.{in_range}
use Rattle.calendar.specs.Target.{first_business_day, last_business_day_before}
use Rattle.calendar.specs.Periods.{days_after, business_days_after, months_after, and_then}
use Rattle.calendar.specs.Promises.{slide_limit}
use Rattle.events.specs.declared.Event.{Event}
use Rattle.common.specs.Tests.{among}
use Rattle.positions.specs.Compensation.{half_up, half_even}
use Rattle.positions.specs.Postings.{refunded}
use Rattle.tables.specs.Limits.{creditor_count, debtor_count, bank_count, stride}
use Rattle.tables.specs.declared.Header.{Header}
use Rattle.tables.specs.Ledger.{Ledger, ledger, bank_of}
use Rattle.fitness.specs.Fitness.{sizes_fit, fit}
use Rattle.opening.specs.Opening.{opening, opened}
use Rattle.tables.specs.declared.Standing.TheVariants.{Live}
use Rattle.model.specs.declared.Treatment.{Treatment}
use Rattle.model.specs.declared.Action.TheVariants.{Treat}
use Rattle.model.specs.declared.HandedOn.TheVariants.{Nothing, Slid}
use Rattle.model.specs.declared.Authorisation.{Authorisation}
use Rattle.model.specs.declared.Way.TheVariants.{ByRefund}
use Rattle.model.specs.Deadlines.{kept_due, timely, days_since}
use Rattle.model.specs.Lookups.{mandate_of, collection_of}
use Rattle.model.specs.Lookups.Known.{known}
use Rattle.model.specs.Checks.{ruled}
use Rattle.model.specs.Effects.{undone}
use Rattle.model.specs.Step.{answer_number, is_accepted, answer, event_number, after, verdict_by, outcome, answer_value, event_value, in_query, figure_of, query, answered, run, Entry, history}
use Rattle.model.specs.Journal.{NotedMandate, NotedCollection, Journal, journal_from, journal, figure_in}
use Rattle.model.specs.Noted.{noted_known, SameKnown, started}

-- ---- sums of what the ledger answers

-- f 1 + f 2 + .. + f n
unfoldable pub sum_to : (ℕ → ℤ) → ℕ → ℤ
sum_to f zero = pos 0
sum_to f (suc n) = sum_to f n +ℤ f (suc n)

abbrev pub sum_of : Ledger → ℕ → ℕ → ℤ
sum_of l kind count = sum_to (λ n. answered (query l kind n)) count

-- ---- what was accepted of a collection

-- how many accepted events of some kinds name the collection c, which the kinds 6 to 10 have in field a
unfoldable pub times : List ℕ → ℕ → List Entry → ℕ
times kinds c [] = 0
times kinds c (x ∷ xs) = cond (x.accepted && (eqb x.event.a c && among kinds x.event.kind)) 1 0 + times kinds c xs

abbrev pub settles : List ℕ
settles = 6 ∷ []

-- settles and rejections
abbrev pub ends : List ℕ
ends = 6 ∷ 7 ∷ []

-- returns, refunds and reversals
abbrev pub undoings : List ℕ
undoings = 8 ∷ 9 ∷ 10 ∷ []

-- ---- limits, said once more: what an error of specs/Deadlines is to be caught by

-- the last day of a return, refund or reversal, from S, by the kind and code of the event
abbrev pub last_day_from : ℕ → ℕ → ℕ → Option ℕ
last_day_from kind code settled =
    cond (eqb kind 9)
    (cond (eqb code 0)
    (and_then (days_after (record { 0 = 56 }) settled) (business_days_after (record { 0 = 2 })))
    (and_then (and_then (months_after (record { 0 = 13 }) settled) (days_after (record { 0 = 30 }))) (business_days_after (record { 0 = 4 }))))
    (business_days_after (record { 0 = 5 }) settled)

-- the day until which a mandate is not lapsed, from the due last presented or from signing
abbrev pub lapse_from : NotedMandate → Option ℕ
lapse_from m = months_after (record { 0 = 36 }) (cond (eqb m.presented 0) m.signed m.presented)

-- the limit is a date of the calendar, and the date is not after it
pub record NotAfter (date : ℕ) (limit : Option ℕ) : Type 0 where
  pub last : ℕ
  pub is : limit ≡ Some last
  pub not_after : date ≤ last

-- refusal 13 does not apply: it is requested for the 14th calendar day after the event date or earlier, and presented on the last
-- business day that precedes the kept due or earlier
pub record InGoodTime (date requested : ℕ) : Type 0 where
  pub soon : NotAfter requested (days_after (record { 0 = 14 }) date)
  pub early : NotAfter date (last_business_day_before (kept_due requested))

-- ---- an accepted event, by the journal just before it

-- an undoing: the settle was accepted before, and the date is not after the last day by the journal's S
pub record UndoneInTime (before : List Entry) (e : Event) : Type 0 where
  pub settled_once : times settles e.a before ≡ 1
  pub collection : NotedCollection
  pub is_noted : (journal before).collections e.a ≡ known collection
  pub in_time_lem : NotAfter e.date (last_day_from e.kind e.code collection.settled)

-- a collect: it came in good time, and the mandate was neither closed nor cancelled, nor lapsed for its kept due
pub record CollectedLive (before : List Entry) (e : Event) : Type 0 where
  pub mandate : NotedMandate
  pub is_noted : (journal before).mandates e.mandate ≡ known mandate
  pub is_live : mandate.standing ≡ Live
  pub due : ℕ
  pub is_due : first_business_day e.second ≡ Some due
  pub not_lapsed_lem : NotAfter due (lapse_from mandate)
  pub in_time_lem : InGoodTime e.date e.second

-- ---- the claim about a list of events given to a ledger

pub record Kept (l : Ledger) (es : List Event) : Type 0 where
  -- the figures that are asked for are the journal's
  pub figures :
      (kind number : ℕ) → in_query kind number ≡ true
      → query (run l es) kind number ≡ Ok (figure_in (journal (history l es)) kind number)
  -- both sums are zero: the parties with the compensation, and the banks
  pub parties :
      sum_of (run l es) 1 creditor_count +ℤ sum_of (run l es) 2 debtor_count +ℤ answered (query (run l es) 4 0) ≡ pos 0
  pub banks : sum_of (run l es) 3 bank_count ≡ pos 0
  -- a collection ends once, by a settle or a rejection
  pub ended_once : (c : ℕ) → times ends c (history l es) ≤ 1
  -- and is undone once, after its settle and in time
  pub undone_once : (c : ℕ) → times undoings c (history l es) ≤ 1
  pub undone_in_time :
      (before later : List Entry) (x : Entry)
      → history l es ≡ before ++ (x ∷ later) → x.accepted ≡ true → among undoings x.event.kind ≡ true
      → UndoneInTime before x.event
  -- each accepted collect found its mandate live and not lapsed
  pub collected_live :
      (before later : List Entry) (x : Entry)
      → history l es ≡ before ++ (x ∷ later) → x.accepted ≡ true → x.event.kind ≡ 5
      → CollectedLive before x.event

-- ---- demand 3

abbrev pub Demand3 : Type 0
Demand3 =
    (t : Ledger) → sizes_fit t ≡ true  -- any lent tables that an accepted opening was called on
    → (es : List Event)  -- any list of events, accepted and refused ones
    → Kept (opened t) es

-- ---- lists that start on any tables

-- a ledger and a journal agree, of a list that started on the ledger `base`: what the one holds the other has noted, and every figure is
-- that of base and the journal's together
pub record Agrees (base l : Ledger) (j : Journal) : Type 0 where
  pub banks : (a : ℕ) → bank_of l.creditors a ≡ j.banks a
  pub mandates : (n : ℕ) → noted_known (mandate_of l n) ≡ j.mandates n
  pub collections : (n : ℕ) → SameKnown (collection_of l n) (j.collections n)
  pub figures : (kind number : ℕ) → figure_of l kind number ≡ figure_of base kind number +ℤ figure_in j kind number

-- whatever tables a list starts on, fit or not, it moves every figure by exactly what the journal notes
pub record AgreesFromAnyStart : Type 0 where
  -- any tables agree with the journal that starts on them
  pub at_start : (l : Ledger) → Agrees l l (started l)
  -- a ledger and a journal that agree do so after every list
  pub after_list :
      (base l : Ledger) (j : Journal) → Agrees base l j
      → (es : List Event) → Agrees base (run l es) (journal_from j (history l es))

-- ---- the time of a collect

-- dates in range pass refusal 13 exactly then
pub record PassesInGoodTime (date requested : ℕ) : Type 0 where
  pub then : timely date requested ≡ true → InGoodTime date requested
  pub only_then : InGoodTime date requested → timely date requested ≡ true

abbrev pub Timing : Type 0
Timing =
    (date requested : ℕ) → in_range date ≡ true → in_range requested ≡ true → PassesInGoodTime date requested

-- ---- what a collect hands on: document 02, (e)

-- the value of any answer, by the number that the event gets and its fields
abbrev pub EventValues : Type 0
EventValues = (l : Ledger) (e : Event) → answer_value (outcome l e) ≡ event_value l e

-- the due date is kept so many calendar days after the requested one
pub record DaysHandedOn (l : Ledger) (e : Event) : Type 0 where
  pub due : ℕ
  pub is_due : first_business_day e.second ≡ Some due
  pub handed : outcome l e ≡ Ok (Slid (record { 0 = event_value l e }))
  pub counted : days_after (record { 0 = event_value l e }) e.second ≡ Some due
  pub limit : event_value l e ≤ slide_limit

-- by any accepted collect, on any lent memory
abbrev pub CollectHandsOn : Type 0
CollectHandsOn = (l : Ledger) (e : Event) → is_accepted (answer l e) ≡ true → e.kind ≡ 5 → DaysHandedOn l e

-- no other event hands on anything
abbrev pub OthersHandOnNothing : Type 0
OthersHandOnNothing = (l : Ledger) (e : Event) → e.kind ≢ 5 → outcome l e ≡ verdict_by (answer l e) Nothing

-- ---- what a refund posts

-- document 02, (b): the date of the refund decides how its K is rounded, whatever the amount, the rate, the settled day and the code
pub record RefundsDated : Type 0 where
  pub before_2026 :
      (rate amount settled date : ℕ) (code : Authorisation)
      → date < 20260101
      → undone (ByRefund rate code) amount settled date
      ≡ refunded amount (half_up (amount * rate * days_since settled date) 3600000)
  pub from_2026 :
      (rate amount settled date : ℕ) (code : Authorisation)
      → 20260101 ≤ date
      → undone (ByRefund rate code) amount settled date
      ≡ refunded amount (half_even (amount * rate * days_since settled date) 3600000)

-- ---- what a collection is treated by

-- events 6 to 10 ask nothing of a mandate: with any other mandate rows, cancelled ones too, the rules answer the same
abbrev pub MandatesNotAsked : Type 0
MandatesNotAsked =
    (h : Header) (m m' c k : List ℕ) (cp dp bp : List ℤ) (date n : ℕ) (t : Treatment)
    → ruled (ledger h m c k cp dp bp) date (Treat n t) ≡ ruled (ledger h m' c k cp dp bp) date (Treat n t)

-- ---- unused rows

-- a table after a call: of its old size, with one more row used at most, and no cell past the rows then used was written
pub record UnusedKept (cells : List ℕ) (used : ℕ) (cells' : List ℕ) (used' : ℕ) : Type 0 where
  pub same_length : length cells' ≡ length cells
  pub none_lost : used ≤ used'
  pub one_more : used' ≤ used + 1
  pub same_cells : (i : ℕ) → used' * stride ≤ i → get_or cells' i 0 ≡ get_or cells i 0

pub record BothUnusedKept (l l' : Ledger) : Type 0 where
  pub mandates : UnusedKept l.mandates l.mandates_used l'.mandates l'.mandates_used
  pub collections : UnusedKept l.collections l.collections_used l'.collections l'.collections_used

-- any event, given to any lent memory
abbrev pub UnusedRows : Type 0
UnusedRows = (l : Ledger) (e : Event) → BothUnusedKept l (after l e)

-- ---- the answers in numbers: document 01, "What is refused, in checking order"

-- any event on any lent memory gets the number of the first test that fails, or 0
abbrev pub EventNumbers : Type 0
EventNumbers = (l : Ledger) (e : Event) → answer_number (answer l e) ≡ event_number l e

-- so 0 or one of 2 to 17
abbrev pub EventAnswers : Type 0
EventAnswers =
    (l : Ledger) (e : Event)
    → among (0 ∷ 2 ∷ 3 ∷ 4 ∷ 5 ∷ 6 ∷ 7 ∷ 8 ∷ 9 ∷ 10 ∷ 11 ∷ 12 ∷ 13 ∷ 14 ∷ 15 ∷ 16 ∷ 17 ∷ []) (answer_number (answer l e)) ≡ true

-- any query gets its figure, 2 or 5
pub record QueryAnswered (l : Ledger) (kind number : ℕ) : Type 0 where
  pub number_is : answer_number (query l kind number) ≡ cond (fit l) (cond (in_query kind number) 0 5) 2
  pub figure_is : answered (query l kind number) ≡ cond (fit l && in_query kind number) (figure_of l kind number) (pos 0)

abbrev pub QueryAnswers : Type 0
QueryAnswers = (l : Ledger) (kind number : ℕ) → QueryAnswered l kind number

-- an opening gets 0 or 2
abbrev pub OpeningAnswers : Type 0
OpeningAnswers = (l : Ledger) → (opening l).number ≡ cond (sizes_fit l) 0 2
