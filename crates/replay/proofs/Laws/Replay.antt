-- Laws of specs/Replay: how far a replay has come. To cite: `Running` with `running_start`, `running_step`;
-- `replayed_refused`, `replayed_done`. Assumes nothing.
use Rattle.std.proofs.Common.{Err, Ok, Result, ℕ, zero, suc, ◌*◌, ◌<◌, get_or, take, drop}
use mathlib.Core.Path.{◌≡◌, refl, sym, ap, ◌∙◌}
use mathlib.Core.List.{List, [], ◌∷◌}
use Rattle.std.proofs.Math.Nat.{zero-mul, suc-mul}
use Rattle.std.specs.Simd.{first_chunks}
use Rattle.std.proofs.lemmas.List.{drop-drop}
use Prim.Native.Nat.{◌+◌, ◌/◌}
use native.Mathlib.Numerals.{add-one}
use native.Mathlib.Omega.{arith}
use lib.ListN.{length}
use Rattle.refusals.specs.declared.Refusal.{Refusal}
use Rattle.refusals.specs.Refusals.{answer_number}
use Rattle.events.specs.declared.Event.{Event}
use Rattle.events.specs.Fields.{event_of}
use Rattle.tables.specs.Ledger.{Ledger}
use Rattle.opening.specs.Opening.{open_result, opening}
use Rattle.model.specs.declared.HandedOn.{HandedOn}
use Rattle.model.specs.Step.{after, run}
use Rattle.model.specs.Bounds.{Safe}
use Rattle.model.proofs.Laws.Batch.{after_safe, run_both}
use Rattle.model.proofs.Laws.Opened.{was_opened, was_refused}
use Rattle.model.proofs.Laws.Theorem.{demand3}
use Rattle.book.specs.Events.{Taken}
use Rattle.replay.specs.Replay.{event_cells, event_at, events_to, events_in, Replayed}

-- ---- the cells of an event as a part of the list

chunk_at : (n k i : ℕ) (xs : List ℕ) → i < k → get_or (first_chunks n k xs) i [] ≡ take n (drop (i * n) xs)
chunk_at n zero i xs h = absurd (omega arith)
chunk_at n (suc k) zero xs h = ap (λ (m : ℕ). take n (drop m xs)) (sym (zero-mul n))
chunk_at n (suc k) (suc i) xs h =
    chunk_at n k i (drop n xs) (omega arith)
    ∙ ap (take n) (drop-drop (i * n) n xs ∙ ap (λ (m : ℕ). drop m xs) (omega (arith, suc-mul i n)))

pub chunk_event : (xs : List ℕ) (i : ℕ) → i < length xs / event_cells → event_of (get_or (first_chunks event_cells (length xs / event_cells) xs) i []) ≡ event_at xs i
unfolding event_at
chunk_event xs i h = ap event_of (chunk_at event_cells (length xs / event_cells) i xs h)

-- ---- the first i events have been given to l₀, and l is the ledger now

pub record Running (events : List ℕ) (l₀ l : Ledger) (i : ℕ) : Type 0 where
  pub safe : Safe l
  pub is : l ≡ run l₀ (events_to events i)

pub running_start : (events : List ℕ) (l : Ledger) → Safe l → Running events l l 0
unfolding events_to run
running_start events l s = record { safe = s; is = refl }

pub running_step : (events : List ℕ) (l₀ l l' : Ledger) (i : ℕ) (e : Event) (r : Result HandedOn Refusal) → Running events l₀ l i → e ≡ event_at events i → Taken l e r l' → Running events l₀ l' (i + 1)
unfolding events_to run
running_step events l₀ l l' i e r h q t =
    record {
      safe = rw t.after_is (after_safe l e h.safe);
      is =
          t.after_is
          ∙ ap (λ (x : Event). after l x) q
          ∙ ap (λ (x : Ledger). after x (event_at events i)) h.is
          ∙ sym (run_both (events_to events i) (event_at events i ∷ []) l₀)
          ∙ ap (λ (n : ℕ). run l₀ (events_to events n)) (sym (add-one i));
    }

-- ---- the whole call

module _ (l : Ledger) (events : List ℕ) where
  pub replayed_refused : (r : Result Unit Refusal) (l' : Ledger) (x : Refusal) → r ≡ Err x → open_result (answer_number r) l' ≡ opening l → Replayed l (events_in events) r l'
  replayed_refused r l' x q e =
      let w = was_refused l l' r e x q in
      record {
        answer = rw w.sizes w.number;
        after = rw w.sizes w.is;
        kept = λ z. absurd (cc w.sizes);
      }

  pub replayed_done : (r : Result Unit Refusal) (l' l'' : Ledger) → r ≡ (Ok tt) → open_result (answer_number r) l' ≡ opening l → l'' ≡ run l' (events_in events) → Replayed l (events_in events) (Ok tt) l''
  replayed_done r l' l'' o e q =
      let w = was_opened l l' r e o in
      record {
        answer = rw w.sizes;
        after = rw w.sizes (q ∙ ap (λ (x : Ledger). run x (events_in events)) w.is);
        kept = λ z. demand3 l z (events_in events);
      }
