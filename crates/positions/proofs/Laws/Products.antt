-- Laws of specs/Products. To cite: `products`, `rate_days_amount_interest`, `rate_days_call`, `rate_days_amount_call`; for the
-- code `cents_laws`. Assumes nothing.
use Rattle.std.proofs.Common.{Err, None, Ok, Result, Some, ℕ}
use mathlib.Core.Bool.{Bool, true, false, cond, ◌&&◌}
use mathlib.Core.List.{[], ◌∷◌}
use lib.Dec.{leb}
use Rattle.common.specs.Checks.{check, judged}
use Rattle.common.specs.Tests.{all_of}
use Rattle.common.proofs.Tests.{either}
use Rattle.refusals.specs.declared.Refusal.TheVariants.{BadField}
use mathlib.Core.Path.{◌≡◌, refl, sym, ap, ◌∙◌}
use Prim.Native.Nat.{ℕ, ◌<◌}
use native.Mathlib.Omega.{arith}
use native.Mathlib.Nat.{mul-one}
use Rattle.refusals.specs.declared.Refusal.{Refusal}
use Rattle.positions.specs.Compensation.{amount_limit, rate_limit, days_limit, in_limits, parts_of_cent, interest, rounded, interest_bound, compensation, compensation_of}
use Rattle.positions.proofs.Laws.Compensation.{in_limits_parts, interest_fits}
use Rattle.positions.specs.Products.{rate_days, rate_days_amount, rate_days_amount_checks, rate_days_answer, rate_days_amount_answer, RateDaysCall, RateDaysAmountCall, cents_of, Products}

-- ---- the products

pub rate_days_amount_interest : (days rate amount : ℕ) → rate_days_amount days rate amount ≡ interest amount rate days
unfolding rate_days_amount rate_days interest
rate_days_amount_interest days rate amount = omega arith

-- ---- the compensation

module _ (date days rate amount : ℕ) where
  cents_same : cents_of date (rate_days_amount_answer days rate amount) ≡ compensation_of date amount rate days
  unfolding rate_days_amount_answer compensation_of compensation
  cents_same = grind (arith, rate_days_amount_interest)

  -- a product that is given is within the bound of an interest, and comes to the compensation
  pub given_fits : (p : ℕ) → RateDaysAmountCall days rate amount (Ok p) → p < interest_bound
  unfolding rate_days_amount_answer
  given_fits p c = let given = c.answer_is in grind (arith, rate_days_amount_interest, in_limits_parts, interest_fits)

  pub given_cents : (p : ℕ) → RateDaysAmountCall days rate amount (Ok p) → compensation_of date amount rate days ≡ Some (rounded date p parts_of_cent)
  given_cents p c = sym (ap (cents_of date) c.answer_is ∙ cents_same)

  -- there is none where the product is refused
  pub refused_cents : (e : Refusal) → RateDaysAmountCall days rate amount (Err e) → compensation_of date amount rate days ≡ None
  refused_cents e c = sym (ap (cents_of date) c.answer_is ∙ cents_same)

-- what `compensation` answers
pub ruleset cents_laws = (given_fits, given_cents, refused_cents)

-- ---- the calls, where all limits are one test

-- whichever of its four tests a list begins with
judged_four :
    {A : Type 0} (l h r d : Bool) (bad good : A)
    → judged (check d bad ∷ check r bad ∷ check l bad ∷ check h bad ∷ []) good ≡ cond (all_of (l ∷ h ∷ r ∷ d ∷ [])) good bad
judged_four true true true true bad good = refl
judged_four true true true false bad good = refl
judged_four l h false true bad good = either l (λ p. either h (λ q. rw (p, q)) (λ q. rw (p, q))) (λ p. rw p)
judged_four l h false false bad good = either l (λ p. either h (λ q. rw (p, q)) (λ q. rw (p, q))) (λ p. rw p)
judged_four true false true true bad good = refl
judged_four true false true false bad good = refl
judged_four false h true true bad good = refl
judged_four false h true false bad good = refl

pub rate_days_call :
    (days rate : ℕ) (r : Result ℕ Refusal) → r ≡ cond (leb days days_limit && leb rate rate_limit) (Ok (rate_days days rate)) (Err BadField)
    → RateDaysCall days rate r
unfolding rate_days_answer rate_days
rate_days_call days rate r e =
    either (leb days days_limit)
    (λ p.
    either (leb rate rate_limit) (λ q. record { answer_is = rw (e, p, q); number_is = rw (e, p, q); value_is = rw (e, p, q) })
    (λ q. record { answer_is = rw (e, p, q); number_is = rw (e, p, q); value_is = rw (e, p, q) }))
    (λ p. record { answer_is = rw (e, p); number_is = rw (e, p); value_is = rw (e, p) })

one_test :
    {A : Type 0} (days rate amount : ℕ) (bad good : A)
    → judged (rate_days_amount_checks bad days rate amount) good ≡ cond (in_limits amount rate days) good bad
one_test days rate amount bad good = judged_four (leb 1 amount) (leb amount amount_limit) (leb rate rate_limit) (leb days days_limit) bad good

pub rate_days_amount_call :
    (days rate amount : ℕ) (r : Result ℕ Refusal)
    → r ≡ cond (in_limits amount rate days) (Ok (rate_days_amount days rate amount)) (Err BadField)
    → RateDaysAmountCall days rate amount r
unfolding rate_days_amount_answer rate_days_amount rate_days
rate_days_amount_call days rate amount r e =
    either (in_limits amount rate days)
    (λ p. record { answer_is = rw (e, one_test days rate amount _ _, p); number_is = rw (e, one_test days rate amount _ _, p); value_is = rw (e, one_test days rate amount _ _, p) })
    (λ p. record { answer_is = rw (e, one_test days rate amount _ _, p); number_is = rw (e, one_test days rate amount _ _, p); value_is = rw (e, one_test days rate amount _ _, p) })

-- ---- an amount of one cent

one_cent : (days rate : ℕ) → rate_days_amount_answer days rate 1 ≡ rate_days_answer days rate
unfolding rate_days_amount_answer rate_days_answer rate_days_amount
one_cent days rate = rw (mul-one (rate_days days rate))

-- ---- the promise

pub products : Products
unfolding rate_days_answer rate_days_amount_answer rate_days_amount rate_days
products = record {
  same_interest = rate_days_amount_interest;
  same_cents = cents_same;
  of_one_cent = one_cent;
  worked_first = refl;
  worked_second = refl;
}
