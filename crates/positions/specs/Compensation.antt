-- The compensation of a refund. Document 01, "Postings": "K = A × rate × days / 3,600,000, a half cent going up"; document 02, (b): to the
-- even cent in refunds dated 20260101 or later. Assumes nothing.
use Rattle.std.specs.Prelude.{◌≡◌, Bool, cond, [], ◌∷◌, ℕ, ◌+◌, ◌*◌, ◌/◌, ◌%◌, ◌<◌, ◌≤◌, leb, ltb, eqb, pos, nat_abs, ◌-ℤ◌, Option, Some, None}
use Rattle.common.specs.Tests.{all_of}
pub use Rattle.common.specs.Limits.{amount_limit, rate_limit}

-- the rate is in hundredths of a percent for a year of 360 days: a cent has 10,000 × 360 parts
abbrev pub parts_of_cent : ℕ
parts_of_cent = 3600000

-- the interest in these parts
unfoldable pub interest : ℕ → ℕ → ℕ → ℕ
interest amount rate days = amount * rate * days

-- ---- whole cents

-- n / d to the nearest whole number, an exact half going up
unfoldable pub half_up : ℕ → ℕ → ℕ
half_up n d = (2 * n + d) / (2 * d)

-- whichever of q and q + 1 is even
unfoldable pub even_of : ℕ → ℕ
even_of q = cond (eqb (q % 2) 0) q (q + 1)

-- n / d to the nearest whole number, an exact half going to the even one
unfoldable pub half_even : ℕ → ℕ → ℕ
half_even n d =
    cond (ltb (2 * (n % d)) d) (n / d)
    (cond (ltb d (2 * (n % d))) (n / d + 1)
    (even_of (n / d)))

-- the first date of a refund that rounds so
abbrev pub even_from : ℕ
even_from = 20260101

-- by the date of the refund
unfoldable pub rounded : ℕ → ℕ → ℕ → ℕ
rounded date n d = cond (leb even_from date) (half_even n d) (half_up n d)

unfoldable pub compensation : ℕ → ℕ → ℕ → ℕ → ℕ
compensation date amount rate days = rounded date (interest amount rate days) parts_of_cent

-- ---- for which values it is worked out

-- more days than any refund in time can have
abbrev pub days_limit : ℕ
days_limit = 999

abbrev pub in_limits : ℕ → ℕ → ℕ → Bool
in_limits amount rate days =
    all_of
    (leb 1 amount
    ∷ leb amount amount_limit
    ∷ leb rate rate_limit
    ∷ leb days days_limit
    ∷ [])

pub record InLimits (amount rate days : ℕ) : Type 0 where
  pub low : 1 ≤ amount
  pub high : amount ≤ amount_limit
  pub rated : rate ≤ rate_limit
  pub dated : days ≤ days_limit

-- the interest is below this, and its double and the parts of a cent fit 64 bits
abbrev pub interest_bound : ℕ
interest_bound = 1000000000000000000

unfoldable pub compensation_of : ℕ → ℕ → ℕ → ℕ → Option ℕ
compensation_of date amount rate days = cond (in_limits amount rate days) (Some (compensation date amount rate days)) None

-- ---- what holds of the two ways to round

-- k times d is no further from n than half of d
abbrev pub Near : ℕ → ℕ → ℕ → Type 0
Near n d k = 2 * nat_abs (pos (k * d) -ℤ pos n) ≤ d

-- n lies half way between q times d and the next multiple
abbrev pub HalfWay : ℕ → ℕ → ℕ → Type 0
HalfWay n d q = 2 * n ≡ (2 * q + 1) * d

pub record Rounding (n d : ℕ) : Type 0 where
  -- both give a nearest number; where two are equally near, half_up gives the upper one and half_even the even one
  pub up_near : Near n d (half_up n d)
  pub up_half : (q : ℕ) → HalfWay n d q → half_up n d ≡ q + 1
  pub even_near : Near n d (half_even n d)
  pub even_half : (q : ℕ) → HalfWay n d q → half_even n d % 2 ≡ 0
  -- no other number is both, near and even where n lies half way
  pub even_only : (k : ℕ) → Near n d k → ((q : ℕ) → HalfWay n d q → k % 2 ≡ 0) → half_even n d ≡ k
  -- they differ by one at most, and exactly half way above an even number
  pub even_le : half_even n d ≤ half_up n d
  pub up_le : half_up n d ≤ half_even n d + 1
  pub same : ((q : ℕ) → HalfWay n d q → ⊥) → half_even n d ≡ half_up n d
  pub above_odd : (q : ℕ) → q % 2 ≡ 1 → HalfWay n d q → half_even n d ≡ half_up n d
  pub above_even : (q : ℕ) → q % 2 ≡ 0 → HalfWay n d q → half_even n d + 1 ≡ half_up n d

pub record Roundings : Type 0 where
  pub rounding : (n d : ℕ) → 0 < d → Rounding n d
  -- which of them a date asks for
  pub before_2026 :
      (date amount rate days : ℕ)
      → date < 20260101 → compensation date amount rate days ≡ half_up (amount * rate * days) 3600000
  pub from_2026 :
      (date amount rate days : ℕ)
      → 20260101 ≤ date → compensation date amount rate days ≡ half_even (amount * rate * days) 3600000
  -- 5,000 cents at 360 for 1 day and for 3 days, on the last date of one rule and on the first of the other
  pub one_day_up : compensation 20251231 5000 360 1 ≡ 1
  pub three_days_up : compensation 20251231 5000 360 3 ≡ 2
  pub one_day_even : compensation 20260101 5000 360 1 ≡ 0
  pub three_days_even : compensation 20260101 5000 360 3 ≡ 2
