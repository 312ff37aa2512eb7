-- The products by which a compensation is worked out, the amount being the last factor, and the calls for them. Document 02, (g).
-- Numbers cannot show in which order they were multiplied: what is held here is each product, and that K comes of the second.
-- Assumes nothing.
use Rattle.std.specs.Prelude.{◌≡◌, List, [], ◌∷◌, ◌++◌, ℕ, ◌*◌, leb, Option, Some, None, Result, Ok, Err}
use Rattle.common.specs.Checks.{Check, check, judged}
use Rattle.refusals.specs.declared.Refusal.{Refusal}
use Rattle.refusals.specs.Refusals.{answer_number}
use Rattle.refusals.specs.declared.Refusal.TheVariants.{BadField}
use Rattle.positions.specs.Compensation.{amount_limit, rate_limit, days_limit, parts_of_cent, interest, rounded, compensation_of}

-- ---- the products

unfoldable pub rate_days : ℕ → ℕ → ℕ
rate_days days rate = days * rate

unfoldable pub rate_days_amount : ℕ → ℕ → ℕ → ℕ
rate_days_amount days rate amount = rate_days days rate * amount

-- ---- what the calls answer

-- in the order of the request, with what is said where one fails
abbrev pub rate_days_checks : {A : Type 0} → A → ℕ → ℕ → List (Check A)
rate_days_checks bad days rate = check (leb days days_limit) bad ∷ check (leb rate rate_limit) bad ∷ []

-- and behind them that the amount is one that a row may hold
abbrev pub rate_days_amount_checks : {A : Type 0} → A → ℕ → ℕ → ℕ → List (Check A)
rate_days_amount_checks bad days rate amount =
    rate_days_checks bad days rate ++ (check (leb 1 amount) bad ∷ check (leb amount amount_limit) bad ∷ [])

unfoldable pub rate_days_answer : ℕ → ℕ → Result ℕ Refusal
rate_days_answer days rate = judged (rate_days_checks (Err BadField) days rate) (Ok (rate_days days rate))

unfoldable pub rate_days_amount_answer : ℕ → ℕ → ℕ → Result ℕ Refusal
rate_days_amount_answer days rate amount =
    judged (rate_days_amount_checks (Err BadField) days rate amount) (Ok (rate_days_amount days rate amount))

-- the value of an answer: the product, 0 where there is none
abbrev pub product_value : Result ℕ Refusal → ℕ
product_value (Ok p) = p
product_value (Err r) = 0

-- the answer of a call, its number and its value
pub record RateDaysCall (days rate : ℕ) (r : Result ℕ Refusal) : Type 0 where
  pub answer_is : r ≡ rate_days_answer days rate
  pub number_is : answer_number r ≡ judged (rate_days_checks 5 days rate) 0
  pub value_is : product_value r ≡ judged (rate_days_checks 0 days rate) (days * rate)

pub record RateDaysAmountCall (days rate amount : ℕ) (r : Result ℕ Refusal) : Type 0 where
  pub answer_is : r ≡ rate_days_amount_answer days rate amount
  pub number_is : answer_number r ≡ judged (rate_days_amount_checks 5 days rate amount) 0
  pub value_is : product_value r ≡ judged (rate_days_amount_checks 0 days rate amount) (days * rate * amount)

-- ---- what holds of them

-- the compensation that a product comes to in a refund of a date
abbrev pub cents_of : ℕ → Result ℕ Refusal → Option ℕ
cents_of date (Ok p) = Some (rounded date p parts_of_cent)
cents_of date (Err r) = None

pub record Products : Type 0 where
  -- the second product is the interest in another order
  pub same_interest : (days rate amount : ℕ) → rate_days_amount days rate amount ≡ interest amount rate days
  -- it is given where a compensation is, and nowhere else, and rounds to it
  pub same_cents :
      (date days rate amount : ℕ) → cents_of date (rate_days_amount_answer days rate amount) ≡ compensation_of date amount rate days
  -- for one cent it is that of days and rate alone, given for the same days and rates
  pub of_one_cent : (days rate : ℕ) → rate_days_amount_answer days rate 1 ≡ rate_days_answer days rate
  -- the case of the request: 5,000 cents at 360 for 1 day
  pub worked_first : rate_days_answer 1 360 ≡ Ok 360
  pub worked_second : rate_days_amount_answer 1 360 5000 ≡ Ok 1800000
