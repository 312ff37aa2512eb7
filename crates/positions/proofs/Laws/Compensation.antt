-- Laws of specs/Compensation; of the rounding alone, Laws/Rounding. F_mono says that F keeps the order.
-- To cite: `roundings`, `compensation_before`, `compensation_from`, `compensation_near`, `compensation_le`, `compensation_mono`,
-- `compensation_no_days`, `compensation_of_is`. Assumes nothing.
use Rattle.std.proofs.Common.{Some}
use Rattle.std.proofs.lemmas.Int.{ints}
use Rattle.std.proofs.lemmas.Option.{cond_some}
use mathlib.Core.Path.{◌≡◌, refl, sym}
use mathlib.Core.Bool.{true}
use mathlib.Core.List.{[], ◌∷◌}
use Prim.Native.Nat.{ℕ, ◌*◌, ◌<◌, ◌≤◌}
use native.Mathlib.Nat.{mul-le-mul, mul-zero}
use native.Mathlib.Omega.{arith}
use borrow.Author.Tests.{leb-true, le-leb, lt-leb}
use lib.Dec.{leb}
use Rattle.common.proofs.Tests.{all_of_at}
use Rattle.positions.specs.Compensation.{parts_of_cent, interest, half_up, even_of, half_even, even_from, rounded, compensation, amount_limit, rate_limit, days_limit, in_limits, InLimits, interest_bound, compensation_of, Near, Roundings}
use Rattle.positions.proofs.Laws.Rounding.{rounding, rounded_near, rounded_le, rounded_mono}

-- ---- interest

pub interest_mono : (a b r s d e : ℕ) → a ≤ b → r ≤ s → d ≤ e → interest a r d ≤ interest b s e
unfolding interest
interest_mono a b r s d e ha hr hd = mul-le-mul (mul-le-mul ha hr) hd

-- ---- compensation

module _ (date a r d : ℕ) where
  -- no more than half a cent away, on either side
  pub compensation_near : Near (interest a r d) parts_of_cent (compensation date a r d)
  unfolding compensation
  compensation_near = rounded_near date (interest a r d) parts_of_cent (omega arith)

  -- by either rule no more than a half going up gives
  pub compensation_le : compensation date a r d ≤ half_up (interest a r d) parts_of_cent
  unfolding compensation
  compensation_le = rounded_le date (interest a r d) parts_of_cent (omega arith)

  -- the rule of the date
  pub compensation_before : date < even_from → compensation date a r d ≡ half_up (interest a r d) parts_of_cent
  unfolding compensation rounded
  compensation_before l = rw (lt-leb even_from date l)

  pub compensation_from : even_from ≤ date → compensation date a r d ≡ half_even (interest a r d) parts_of_cent
  unfolding compensation rounded
  compensation_from l = rw (le-leb even_from date l)

pub compensation_no_days : (date a r : ℕ) → compensation date a r 0 ≡ 0
unfolding interest
compensation_no_days date a r =
    omega (arith, ints, compensation_near date a r 0, mul-zero (a * r))

pub compensation_mono :
    (date a b r s d e : ℕ) → a ≤ b → r ≤ s → d ≤ e → compensation date a r d ≤ compensation date b s e
unfolding compensation
compensation_mono date a b r s d e ha hr hd =
    rounded_mono date (interest a r d) (interest b s e) parts_of_cent (omega arith) (interest_mono a b r s d e ha hr hd)

-- ---- for which values it is worked out

pub in_limits_parts : (a r d : ℕ) → in_limits a r d ≡ true → InLimits a r d
in_limits_parts a r d e =
    let tests = leb 1 a ∷ leb a amount_limit ∷ leb r rate_limit ∷ leb d days_limit ∷ [] in
    record {
      low = leb-true 1 a (all_of_at tests 0 e);
      high = leb-true a amount_limit (all_of_at tests 1 e);
      rated = leb-true r rate_limit (all_of_at tests 2 e);
      dated = leb-true d days_limit (all_of_at tests 3 e);
    }

pub parts_in_limits : (a r d : ℕ) → InLimits a r d → in_limits a r d ≡ true
parts_in_limits a r d h =
    rw (
      le-leb 1 a h.low,
      le-leb a amount_limit h.high,
      le-leb r rate_limit h.rated,
      le-leb d days_limit h.dated,
    )

-- the interest and its sums in the rounding fit 64 bits
pub interest_fits : (a r d : ℕ) → InLimits a r d → interest a r d < interest_bound
unfolding interest
interest_fits a r d h =
    omega (arith, interest_mono a amount_limit r rate_limit d days_limit h.high h.rated h.dated)

pub compensation_of_is : (date a r d : ℕ) → InLimits a r d → compensation_of date a r d ≡ Some (compensation date a r d)
unfolding compensation_of
compensation_of_is date a r d h = rw (parts_in_limits a r d h)

pub compensation_of_cents :
    (date a r d k : ℕ) → compensation_of date a r d ≡ Some k → InLimits a r d × (k ≡ compensation date a r d)
unfolding compensation_of
compensation_of_cents date a r d k e =
    let p = cond_some (in_limits a r d) (compensation date a r d) k e in (in_limits_parts a r d p.0, sym p.1)

-- ---- the promise

pub roundings : Roundings
unfolding compensation rounded half_up half_even even_of interest
roundings = record {
  rounding = rounding;
  before_2026 = compensation_before;
  from_2026 = compensation_from;
  one_day_up = refl;
  three_days_up = refl;
  one_day_even = refl;
  three_days_even = refl;
}
