-- An opened ledger stays fit, whatever the events, so they are answered by the rules alone: no answer need test the memory.
-- To cite: `opened_answers`, `opened_run`, `opened_answer`, `opened_query`, `history_answers`. Assumes nothing.
use Rattle.std.proofs.Common.{Ok, Result}
use mathlib.Core.Path.{◌≡◌, refl, ap, ◌∙◌}
use mathlib.Core.Bool.{true}
use mathlib.Core.List.{List, [], ◌∷◌}
use Prim.Native.Nat.{ℕ}
use lib.Dec.{eqb}
use Rattle.refusals.specs.declared.Refusal.{Refusal}
use Rattle.calendar.specs.Gregorian.{leap, leap_day, month_length, is_date, in_range}
use Rattle.calendar.specs.DayNumber.{days_before, year_start, day_number, year_at, month_at, date_in, date_at, date_of}
use Rattle.calendar.specs.Easter.{computus, easter_sunday}
use Rattle.calendar.specs.Target.{closed_by, closed, business_day, is_open, seek, first_open, open_after, last_open_before, first_business_day, last_business_day_before}
use Rattle.calendar.specs.Periods.{days_after, business_days_after, month_count, day_of_month_count, months_after, period_end}
use Rattle.common.specs.Walk.{first_from}
use Rattle.events.specs.declared.Event.{Event}
use Rattle.events.specs.Limits.{table, row_of, row_fits, fields_fit, checked}
use Rattle.tables.specs.Ledger.{Ledger, bank_of}
use Rattle.tables.specs.Lookup.{lookup}
use Rattle.tables.specs.Records.{mandate_from, collection_from}
use Rattle.tables.specs.Rows.{mandate_at, collection_at, put_row}
use Rattle.fitness.specs.Fitness.{sizes_of, sizes_fit, fit}
use Rattle.opening.specs.Opening.{fresh, opened}
use Rattle.opening.proofs.Laws.Opening.{opened_done}
use Rattle.model.specs.Actions.{new_mandate, action_of}
use Rattle.model.specs.Lookups.{mandate_of, collection_of}
use Rattle.model.specs.Deadlines.{kept_due, timely, last_day, lapse_end}
use Rattle.model.specs.Checks.{ruled}
use Rattle.model.specs.Effects.{changed, presented_on, new_collection, treated, effect}
use Rattle.model.specs.Step.{answer_number, then_ruled, answer, after_answer, after, in_query, figure_of, query, run, Entry, entry, history}
use Rattle.model.specs.Bounds.{Safe}
use Rattle.model.proofs.Laws.Answers.{accepted_number}
use Rattle.model.proofs.Laws.Batch.{after_safe, run_safe, opened_safe}
use Rattle.witness.specs.Opening.{lent, answers}

-- ---- the rules alone; whoever unfolds one of these unfolds all that it is computed from

unfoldable pub ruled_answer : Ledger → Event → Result Unit Refusal
unfolding leap leap_day month_length is_date in_range days_before year_start day_number year_at month_at date_in date_at date_of computus easter_sunday closed_by closed business_day is_open seek first_open open_after last_open_before first_business_day last_business_day_before days_after business_days_after month_count day_of_month_count months_after period_end first_from table row_of row_fits fields_fit checked bank_of lookup mandate_from collection_from mandate_at collection_at new_mandate action_of mandate_of collection_of kept_due timely last_day lapse_end ruled
ruled_answer l e = then_ruled (checked e) (ruled l e.date (action_of e))

unfoldable pub ruled_after : Ledger → Event → Ledger
unfolding ruled_answer fresh put_row changed presented_on new_collection treated effect
ruled_after l e = after_answer (ruled_answer l e) (effect l e.date (action_of e)) l

unfoldable pub ruled_run : Ledger → List Event → Ledger
unfolding ruled_after
ruled_run l [] = l
ruled_run l (e ∷ es) = ruled_run (ruled_after l e) es

unfoldable pub ruled_answers : Ledger → List Event → List ℕ
unfolding ruled_after
ruled_answers l [] = []
ruled_answers l (e ∷ es) = answer_number (ruled_answer l e) ∷ ruled_answers (ruled_after l e) es

-- ---- the answers of a fit ledger are those of the rules

module _ (l : Ledger) (e : Event) (f : fit l ≡ true) where
  answer_ruled : answer l e ≡ ruled_answer l e
  unfolding answer ruled_answer
  answer_ruled = rw f

  after_ruled : after l e ≡ ruled_after l e
  unfolding after ruled_after
  after_ruled = rw answer_ruled

run_ruled : (es : List Event) (l : Ledger) → Safe l → run l es ≡ ruled_run l es
unfolding run ruled_run
run_ruled [] l s = refl
run_ruled (e ∷ es) l s =
    run_ruled es (after l e) (after_safe l e s) ∙ ap (λ (k : Ledger). ruled_run k es) (after_ruled l e s.fits)

answers_ruled : (es : List Event) (l : Ledger) → Safe l → answers l es ≡ ruled_answers l es
unfolding answers ruled_answers
answers_ruled [] l s = refl
answers_ruled (e ∷ es) l s =
    rw (answer_ruled l e s.fits)
    (ap (λ (ns : List ℕ). answer_number (ruled_answer l e) ∷ ns)
    (answers_ruled es (after l e) (after_safe l e s)
    ∙ ap (λ (k : Ledger). ruled_answers k es) (after_ruled l e s.fits)))

-- ---- from an accepted opening on

module _ (t : Ledger) (z : sizes_fit t ≡ true) (es : List Event) where
  pub opened_answers : answers (opened t) es ≡ ruled_answers (fresh t) es
  opened_answers =
      answers_ruled es (opened t) (opened_safe t z) ∙ ap (λ (l : Ledger). ruled_answers l es) (opened_done t z)

  pub opened_run : run (opened t) es ≡ ruled_run (fresh t) es
  opened_run = run_ruled es (opened t) (opened_safe t z) ∙ ap (λ (l : Ledger). ruled_run l es) (opened_done t z)

  opened_fit : fit (run (opened t) es) ≡ true
  opened_fit = (run_safe es (opened t) (opened_safe t z)).fits

  -- the answer to one event more
  pub opened_answer : (e : Event) → answer (run (opened t) es) e ≡ ruled_answer (ruled_run (fresh t) es) e
  opened_answer e =
      answer_ruled (run (opened t) es) e opened_fit
      ∙ ap (λ (l : Ledger). ruled_answer l e) opened_run

  -- the answer to a query
  pub opened_query :
      (kind number : ℕ) → in_query kind number ≡ true
      → query (run (opened t) es) kind number ≡ Ok (figure_of (ruled_run (fresh t) es) kind number)
  unfolding query
  opened_query kind number q = rw (opened_fit, q) (ap (λ (l : Ledger). Ok (figure_of l kind number)) opened_run)

-- ---- what the program lends has the sizes asked for

pub lent_sizes : sizes_fit lent ≡ true
unfolding sizes_of
lent_sizes = refl

-- ---- the history by its answers: 0 is accepted

abbrev pub entries : List Event → List ℕ → List Entry
entries [] ns = []
entries (e ∷ es) [] = []
entries (e ∷ es) (n ∷ ns) = entry e (eqb n 0) ∷ entries es ns

pub history_answers : (es : List Event) (l : Ledger) → history l es ≡ entries es (answers l es)
unfolding history answers
history_answers [] l = refl
history_answers (e ∷ es) l = rw (accepted_number (answer l e), history_answers es (after l e))
