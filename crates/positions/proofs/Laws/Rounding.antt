-- Laws of the two ways to round, specs/Compensation: `half_up` and `half_even`. To cite: `rounding`, `rounded_near`, `rounded_le`, `rounded_mono`.
-- Assumes nothing.
use Rattle.std.proofs.lemmas.Int.{ints}
use Rattle.std.proofs.lemmas.Bool.{eqb-true, eqb-false, le-ltb, cases_lt}
use mathlib.Core.Path.{◌≡◌, refl, sym, ap, ◌∙◌}
use mathlib.Core.Logic.{◌⊎◌, inl, inr, ⊎_elim}
use Prim.Native.Nat.{ℕ, ◌+◌, ◌*◌, ◌/◌, ◌%◌, ◌<◌, ◌≤◌}
use native.Mathlib.Nat.{div-add-mod', div-eq_of_lt-le, eq-or-lt_of_le, mod-lt}
use Rattle.std.proofs.Math.Nat.{mul-le-mul_right}
use native.Mathlib.Omega.{arith}
use borrow.Author.Tests.{lt-ltb}
use lib.Dec.{eqb, leb}
use Rattle.common.proofs.Tests.{either}
use Rattle.positions.specs.Compensation.{half_up, even_of, half_even, even_from, rounded, Near, HalfWay, Rounding}

-- ---- half_up

module _ (n d : ℕ) (h : 0 < d) where
  -- the rounded number of d's is at most half of one above n
  half_up_above : 2 * (half_up n d * d) ≤ 2 * n + d
  unfolding half_up
  half_up_above = omega (arith, div-add-mod' (2 * n + d) (2 * d))

  -- and less than half of one below, so that an exact half goes up
  half_up_below : 2 * n < 2 * (half_up n d * d) + d
  unfolding half_up
  half_up_below = omega (arith, div-add-mod' (2 * n + d) (2 * d), mod-lt (2 * n + d) {m = 2 * d} (omega arith))

  half_up_near : Near n d (half_up n d)
  half_up_near = omega (arith, ints, half_up_above, half_up_below)

  -- no other number is within both bounds
  half_up_only : (k : ℕ) → 2 * (k * d) ≤ 2 * n + d → 2 * n < 2 * (k * d) + d → half_up n d ≡ k
  unfolding half_up
  half_up_only k above below = div-eq_of_lt-le (2 * d) (omega arith) (omega arith)

  half_up_half : (q : ℕ) → HalfWay n d q → half_up n d ≡ q + 1
  half_up_half q e = half_up_only (q + 1) (omega arith) (omega arith)

-- ---- even_of

even_of_even : (q : ℕ) → even_of q % 2 ≡ 0
unfolding even_of
even_of_even q = either (eqb (q % 2) 0) (λ e. rw e (eqb-true (q % 2) 0 e)) (λ e. rw e (omega (arith, eqb-false (q % 2) 0 e)))

even_of_cases : (q : ℕ) → (even_of q ≡ q) ⊎ (even_of q ≡ q + 1)
unfolding even_of
even_of_cases q = either (eqb (q % 2) 0) (λ e. rw e (inl refl)) (λ e. rw e (inr refl))

even_of_from : (q : ℕ) → q ≤ even_of q
even_of_from q = ⊎_elim (λ e. omega (arith, e)) (λ e. omega (arith, e)) (even_of_cases q)

even_of_to : (q : ℕ) → even_of q ≤ q + 1
even_of_to q = ⊎_elim (λ e. omega (arith, e)) (λ e. omega (arith, e)) (even_of_cases q)

-- of two neighbours one is even
even_of_only : (q k : ℕ) → q ≤ k → k ≤ q + 1 → k % 2 ≡ 0 → k ≡ even_of q
even_of_only q k l m e = omega (arith, even_of_even q, even_of_from q, even_of_to q)

-- ---- half_even, by the remainder

module _ (n d : ℕ) where
  even_below : 2 * (n % d) < d → half_even n d ≡ n / d
  unfolding half_even
  even_below l = rw (lt-ltb (2 * (n % d)) d l)

  even_above : d < 2 * (n % d) → half_even n d ≡ n / d + 1
  unfolding half_even
  even_above l = rw (le-ltb (2 * (n % d)) d (omega arith), lt-ltb d (2 * (n % d)) l)

  even_between : 2 * (n % d) ≡ d → half_even n d ≡ even_of (n / d)
  unfolding half_even
  even_between e = rw (le-ltb (2 * (n % d)) d (omega arith), le-ltb d (2 * (n % d)) (omega arith))

-- ---- what is near, by the remainder

module _ (n d : ℕ) (h : 0 < d) where
  quotient_rest : n / d * d + n % d ≡ n
  quotient_rest = div-add-mod' n d

  rest_small : n % d < d
  rest_small = mod-lt n {m = d} h

  module _ (k : ℕ) (near : Near n d k) where
    -- where n lies above the half way between c - 1 and c, k is at least c
    at_least : (c : ℕ) → 2 * (c * d) < 2 * n + d → c ≤ k
    at_least c f =
        ⊎_elim (λ (l : k < c). absurd (omega (arith, ints, near, f, mul-le-mul_right d l))) (λ (l : c ≤ k). l) (cases_lt k c)

    -- where n lies below the half way between c and c + 1, k is at most c
    at_most : (c : ℕ) → 2 * n < 2 * (c * d) + d → k ≤ c
    at_most c f =
        ⊎_elim (λ (l : c < k). absurd (omega (arith, ints, near, f, mul-le-mul_right d l))) (λ (l : k ≤ c). l) (cases_lt c k)

    -- so it is the quotient or the number after it
    near_from : n / d ≤ k
    near_from = at_least (n / d) (omega (arith, quotient_rest))

    near_to : k ≤ n / d + 1
    near_to = at_most (n / d + 1) (omega (arith, quotient_rest, rest_small))

    near_below : 2 * (n % d) < d → k ≡ n / d
    near_below l = omega (arith, near_from, at_most (n / d) (omega (arith, quotient_rest)))

    near_above : d < 2 * (n % d) → k ≡ n / d + 1
    near_above l = omega (arith, near_to, at_least (n / d + 1) (omega (arith, quotient_rest)))

  -- a half lies where the remainder is half of d
  between_half : 2 * (n % d) ≡ d → HalfWay n d (n / d)
  between_half e = omega (arith, quotient_rest)

  half_between : (q : ℕ) → HalfWay n d q → 2 * (n % d) ≡ d
  half_between q e =
      let i : n / d ≡ q = div-eq_of_lt-le d (omega arith) (omega arith) in
      omega (arith, quotient_rest, ap (λ (x : ℕ). x * d) i)

  -- ---- half_even

  by_rest : {P : Type 0} → (2 * (n % d) < d → P) → (2 * (n % d) ≡ d → P) → (d < 2 * (n % d) → P) → P
  by_rest below half above =
      ⊎_elim below
      (λ l. ⊎_elim above (λ m. half (omega arith)) (cases_lt d (2 * (n % d))))
      (cases_lt (2 * (n % d)) d)

  even_near : Near n d (half_even n d)
  even_near =
      by_rest
      (λ l. rw (even_below n d l) (omega (arith, ints, quotient_rest)))
      (λ e. rw (even_between n d e) (even_of_near e))
      (λ l. rw (even_above n d l) (omega (arith, ints, quotient_rest, rest_small)))
    where
      even_of_near : 2 * (n % d) ≡ d → Near n d (even_of (n / d))
      even_of_near e =
          ⊎_elim
          (λ i. rw i (omega (arith, ints, quotient_rest)))
          (λ i. rw i (omega (arith, ints, quotient_rest)))
          (even_of_cases (n / d))

  even_half : (q : ℕ) → HalfWay n d q → half_even n d % 2 ≡ 0
  even_half q e = rw (even_between n d (half_between q e)) (even_of_even (n / d))

  even_only : (k : ℕ) → Near n d k → ((q : ℕ) → HalfWay n d q → k % 2 ≡ 0) → half_even n d ≡ k
  even_only k near even =
      by_rest
      (λ l. even_below n d l ∙ sym (near_below k near l))
      (λ e. even_between n d e ∙ sym (even_of_only (n / d) k (near_from k near) (near_to k near) (even (n / d) (between_half e))))
      (λ l. even_above n d l ∙ sym (near_above k near l))

  -- ---- where both part

  up_near : Near n d (half_up n d)
  up_near = half_up_near n d h

  up_at_half : 2 * (n % d) ≡ d → half_up n d ≡ n / d + 1
  up_at_half e = half_up_half n d h (n / d) (between_half e)

  even_le : half_even n d ≤ half_up n d
  even_le =
      by_rest
      (λ l. omega (arith, near_below (half_even n d) even_near l, near_below (half_up n d) up_near l))
      (λ e. omega (arith, near_to (half_even n d) even_near, up_at_half e))
      (λ l. omega (arith, near_above (half_even n d) even_near l, near_above (half_up n d) up_near l))

  up_le : half_up n d ≤ half_even n d + 1
  up_le = omega (arith, near_to (half_up n d) up_near, near_from (half_even n d) even_near)

  same : ((q : ℕ) → HalfWay n d q → ⊥) → half_even n d ≡ half_up n d
  same none = even_only (half_up n d) up_near (λ q e. absurd (none q e))

  above_odd : (q : ℕ) → q % 2 ≡ 1 → HalfWay n d q → half_even n d ≡ half_up n d
  above_odd q o e = omega (arith, half_up_half n d h q e, even_half q e, even_le, up_le)

  above_even : (q : ℕ) → q % 2 ≡ 0 → HalfWay n d q → half_even n d + 1 ≡ half_up n d
  above_even q o e = omega (arith, half_up_half n d h q e, even_half q e, even_le, up_le)

  pub rounding : Rounding n d
  rounding = record {
    up_near = up_near;
    up_half = half_up_half n d h;
    even_near = even_near;
    even_half = even_half;
    even_only = even_only;
    even_le = even_le;
    up_le = up_le;
    same = same;
    above_odd = above_odd;
    above_even = above_even;
  }

-- ---- either, by a date

module _ (date : ℕ) where
  pub rounded_near : (n d : ℕ) → 0 < d → Near n d (rounded date n d)
  unfolding rounded
  rounded_near n d h = either (leb even_from date) (λ e. rw e (even_near n d h)) (λ e. rw e (half_up_near n d h))

  -- a half up is the most that is rounded to
  pub rounded_le : (n d : ℕ) → 0 < d → rounded date n d ≤ half_up n d
  unfolding rounded
  rounded_le n d h = either (leb even_from date) (λ e. rw e (even_le n d h)) (λ e. rw e (omega arith))

  -- a larger number is rounded to no less: two numbers cannot be near to m < n in the other order
  pub rounded_mono : (m n d : ℕ) → 0 < d → m ≤ n → rounded date m d ≤ rounded date n d
  rounded_mono m n d h l =
      ⊎_elim
      (λ (e : m ≡ n). omega (arith, ap (λ (x : ℕ). rounded date x d) e))
      (λ (s : m < n).
      ⊎_elim
      (λ (b : rounded date n d < rounded date m d). absurd (omega (arith, ints, rounded_near m d h, rounded_near n d h, mul-le-mul_right d b)))
      (λ k. k)
      (cases_lt (rounded date n d) (rounded date m d)))
      (eq-or-lt_of_le l)
