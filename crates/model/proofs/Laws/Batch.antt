-- A list of events, one after the other, keeps the tables safe, so that what is tested once need not be tested again, and the sums zero.
-- To cite: `after_safe`, `run_safe`, `run_balanced`, `run_both`, `opened_safe`, `opened_balanced`. Assumes nothing.
use mathlib.Core.Path.{◌≡◌, refl}
use mathlib.Core.Bool.{true}
use mathlib.Core.List.{List, [], ◌∷◌, ◌++◌}
use native.Mathlib.Omega.{arith}
use Rattle.events.specs.declared.Event.{Event}
use Rattle.positions.proofs.Laws.Positions.{total_zeros, position_zeros}
use Rattle.tables.specs.Limits.{creditor_count, debtor_count, bank_count}
use Rattle.tables.specs.Ledger.{Ledger}
use Rattle.fitness.specs.Fitness.{sizes_fit}
use Rattle.opening.specs.Opening.{fresh, opened}
use Rattle.opening.proofs.Laws.Opening.{opened_done, fresh_fit}
use Rattle.model.specs.Actions.{action_of}
use Rattle.model.specs.Step.{after, run}
use Rattle.model.specs.Bounds.{Safe}
use Rattle.model.proofs.Laws.Accepted.{after_cases}
use Rattle.model.proofs.Laws.Bounds.{Balanced}
use Rattle.model.proofs.Laws.Invariant.{safe_kept, balanced_kept}

-- one event, whatever its answer
pub after_safe : (l : Ledger) (e : Event) → Safe l → Safe (after l e)
after_safe l e s =
    after_cases (λ b x. Safe x) l e (λ a. safe_kept l e.date s a.range (action_of e) a.sound a.passed) s

-- what every event keeps, every list keeps
run_keeps : (P : Ledger → Type 0) → ((l : Ledger) (e : Event) → P l → P (after l e)) → (es : List Event) (l : Ledger) → P l → P (run l es)
unfolding run
run_keeps P step [] l p = p
run_keeps P step (e ∷ es) l p = run_keeps P step es (after l e) (step l e p)

pub run_safe : (es : List Event) (l : Ledger) → Safe l → Safe (run l es)
run_safe = run_keeps Safe after_safe

after_balanced : (l : Ledger) (e : Event) → Balanced l → Balanced (after l e)
after_balanced l e b =
    after_cases (λ s x. Balanced x) l e
    (λ a. balanced_kept l e.date a.fits a.range b (action_of e) a.sound a.passed) b

pub run_balanced : (es : List Event) (l : Ledger) → Balanced l → Balanced (run l es)
run_balanced = run_keeps Balanced after_balanced

-- one list after the other
pub run_both : (es fs : List Event) (l : Ledger) → run l (es ++ fs) ≡ run (run l es) fs
unfolding run
run_both [] fs l = refl
run_both (e ∷ es) fs l = run_both es fs (after l e)

-- an accepted opening starts it
pub opened_safe : (t : Ledger) → sizes_fit t ≡ true → Safe (opened t)
unfolding fresh
opened_safe t z =
    rw (opened_done t z)
    (record {
      fits = fresh_fit t z;
      bounded =
          record {
            creditors = λ n. rw (position_zeros creditor_count n) (omega arith);
            debtors = λ n. rw (position_zeros debtor_count n) (omega arith);
            banks = λ n. rw (position_zeros bank_count n) (omega arith);
            cents = 0;
            paid = refl;
            cents_le = omega arith;
          };
    })

pub opened_balanced : (t : Ledger) → sizes_fit t ≡ true → Balanced (opened t)
unfolding fresh
opened_balanced t z =
    rw (opened_done t z)
    (record { parties = rw (total_zeros creditor_count, total_zeros debtor_count); banks = total_zeros bank_count })
