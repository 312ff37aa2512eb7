-- The answers in the paper's numbers. To cite: `accepted_number`, `event_numbers`, `event_answers`, `query_facts`, `query_answers`,
-- `opening_answers`. Assumes nothing.
use Rattle.std.proofs.Common.{Err, Ok, Result}
use mathlib.Core.Path.{◌≡◌, refl, sym, ap, ◌∙◌}
use mathlib.Core.Bool.{Bool, true, false, cond, ◌&&◌}
use mathlib.Core.List.{List, [], ◌∷◌}
use Prim.Native.Nat.{ℕ}
use native.Mathlib.Omega.{arith}
use borrow.Author.Tests.{ne_eqb}
use lib.Dec.{eqb}
use lib.IntN.{ℤ, pos}
use Rattle.std.proofs.lemmas.Bool.{cond_both}
use Rattle.common.proofs.Tests.{and_halves, either}
use Rattle.common.proofs.Checks.{check_passes}
use Rattle.refusals.specs.declared.Refusal.{Refusal}
use Rattle.refusals.specs.Refusals.{number_of}
use Rattle.refusals.specs.declared.Refusal.TheVariants.{UnfitMemory, BadField}
use Rattle.refusals.proofs.Laws.Refusals.{number_of_pos}
use Rattle.common.specs.Checks.{Check, check, judged}
use Rattle.calendar.specs.Gregorian.{in_range}
use Rattle.events.specs.declared.Event.{Event}
use Rattle.events.specs.Limits.{within, kinds, fields_fit, checked}
use Rattle.common.specs.Tests.{among}
use Rattle.events.proofs.Laws.Limits.{checked_kind, checked_date, checked_field, checked_within}
use Rattle.tables.specs.Ledger.{Ledger}
use Rattle.fitness.specs.Fitness.{sizes_fit, fit}
use Rattle.opening.specs.Opening.{OpenResult}
use Rattle.opening.proofs.Laws.Opening.{opening_done, opening_refused}
use Rattle.model.specs.Actions.{action_of}
use Rattle.model.specs.Checks.{checks, ruled}
use Rattle.model.specs.Step.{answer_number, is_accepted, then_ruled, answer, numbers, event_number, in_query, figure_of, query, answered}
use Rattle.model.specs.Promises.{EventNumbers, EventAnswers, QueryAnswers, OpeningAnswers}

-- ---- an ordered list and its numbers

abbrev numbered : {A : Type 0} → (A → ℕ) → List (Check A) → List (Check ℕ)
numbered f [] = []
numbered f (c ∷ cs) = check c.passes (f c.failing) ∷ numbered f cs

-- every number of a list of tests is one of ns
abbrev all_among : List ℕ → List (Check ℕ) → Bool
all_among ns [] = true
all_among ns (c ∷ cs) = among ns c.failing && all_among ns cs

judged_number : {A : Type 0} (f : A → ℕ) (cs : List (Check A)) (a : A) → f (judged cs a) ≡ judged (numbered f cs) (f a)
judged_number f [] a = refl
judged_number f (c ∷ cs) a = either c.passes (λ p. rw p (judged_number f cs a)) (λ p. rw p)

-- ---- an event

-- it is accepted exactly where its number is 0
pub accepted_number : (a : Result Unit Refusal) → is_accepted a ≡ eqb (answer_number a) 0
accepted_number (Ok tt) = refl
accepted_number (Err r) = sym (ne_eqb (number_of r) 0 (λ e. omega (arith, number_of_pos r)))

module _ (l : Ledger) (e : Event) where
  ruled_number : answer_number (ruled l e.date (action_of e)) ≡ judged (numbered answer_number (checks l e.date (action_of e))) 0
  unfolding ruled
  ruled_number = judged_number answer_number (checks l e.date (action_of e)) (Ok tt)

  -- 3 to 5 come first
  limits_number : (a : Result Unit Refusal) → answer_number (then_ruled (checked e) a) ≡ cond (within kinds e.kind) (cond (in_range e.date) (cond (fields_fit e) (answer_number a) 5) 4) 3
  limits_number a =
      either (within kinds e.kind)
      (λ k.
      either (in_range e.date)
      (λ d.
      either (fields_fit e) (λ f. rw (checked_within e k d f, k, d, f)) (λ f. rw (checked_field e k d f, k, d, f)))
      (λ d. rw (checked_date e k d, k, d)))
      (λ k. rw (checked_kind e k, k))

  fit_number_lem : answer_number (answer l e) ≡ cond (fit l) (answer_number (then_ruled (checked e) (ruled l e.date (action_of e)))) 2
  unfolding answer
  fit_number_lem = either (fit l) (λ f. rw f) (λ f. rw f)

pub event_numbers : EventNumbers
unfolding event_number
event_numbers l e =
    fit_number_lem l e
    ∙ ap (λ (n : ℕ). cond (fit l) n 2)
    (limits_number l e (ruled l e.date (action_of e))
    ∙ ap (λ (n : ℕ). cond (within kinds e.kind) (cond (in_range e.date) (cond (fields_fit e) n 5) 4) 3) (ruled_number l e))

-- the first failing test of a list with numbers out of another list gives one of them
judged_among : (ns : List ℕ) (cs : List (Check ℕ)) → all_among ns cs ≡ true → among ns 0 ≡ true → among ns (judged cs 0) ≡ true
judged_among ns [] h z = z
judged_among ns (c ∷ cs) h z =
    let q = and_halves (among ns c.failing) h in
    cond_both c.passes (judged cs 0) c.failing (λ n. among ns n ≡ true) (λ p. judged_among ns cs q.1 z) (λ p. q.0)

pub event_answers : EventAnswers
unfolding event_number
event_answers l e =
    ap (among (0 ∷ 2 ∷ 3 ∷ 4 ∷ 5 ∷ 6 ∷ 7 ∷ 8 ∷ 9 ∷ 10 ∷ 11 ∷ 12 ∷ 13 ∷ 14 ∷ 15 ∷ 16 ∷ 17 ∷ [])) (event_numbers l e)
    ∙ judged_among (0 ∷ 2 ∷ 3 ∷ 4 ∷ 5 ∷ 6 ∷ 7 ∷ 8 ∷ 9 ∷ 10 ∷ 11 ∷ 12 ∷ 13 ∷ 14 ∷ 15 ∷ 16 ∷ 17 ∷ []) (numbers l e) refl refl

-- ---- a query and an opening

-- a query that is answered has its figure, and the ledger is fit
pub query_facts : (l : Ledger) (kind number : ℕ) (z : ℤ) → query l kind number ≡ Ok z → (fit l ≡ true) × (figure_of l kind number ≡ z)
unfolding query
query_facts l kind number z e =
    let f = check_passes (fit l) _ (Err UnfitMemory) refl e in
    (f.0, ap answered (check_passes (in_query kind number) _ (Err BadField) refl f.1).1)

query_number_lem : (f q : Bool) (z : ℤ) → answer_number (cond f (cond q (Ok z) (Err BadField)) (Err UnfitMemory)) ≡ cond f (cond q 0 5) 2
query_number_lem true true z = refl
query_number_lem true false z = refl
query_number_lem false q z = refl

query_figure : (f q : Bool) (z : ℤ) → answered (cond f (cond q (Ok z) (Err BadField)) (Err UnfitMemory)) ≡ cond (f && q) z (pos 0)
query_figure true true z = refl
query_figure true false z = refl
query_figure false q z = refl

pub query_answers : QueryAnswers
unfolding query
query_answers l kind number =
    record {
      number_is = query_number_lem (fit l) (in_query kind number) (figure_of l kind number);
      figure_is = query_figure (fit l) (in_query kind number) (figure_of l kind number);
    }

pub opening_answers : OpeningAnswers
opening_answers l =
    either (sizes_fit l)
    (λ h. rw h (ap (λ (o : OpenResult). o.number) (opening_done l h)))
    (λ h. rw h (ap (λ (o : OpenResult). o.number) (opening_refused l h)))
