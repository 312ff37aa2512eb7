-- Laws of specs/Walk. Names: F_hit, F_miss, F_end are the steps of a loop that walks from i up to n; F_same: two tests that
-- agree give one answer. To cite besides: `all_from_at`, `all_from_made`, `first_from_cases`, from any number on
-- `cases_from`, from which all else of a search follows, and `all_of_range`, `all_of_list`, `all_of_zip` for an iterator's `all`. Assumes nothing.
use mathlib.Core.Path.{◌≡◌, refl, subst}
use mathlib.Core.Bool.{Bool, true, false, cond}
use mathlib.Core.Logic.{⊎_elim}
use Prim.Native.Nat.{ℕ, zero, suc, ◌+◌, ◌-◌, ◌≤◌, ◌<◌}
use native.Mathlib.Nat.{add-zero, eq-or-lt_of_le, sub-eq-zero_of_le}
use native.Mathlib.Omega.{arith}
use native.Mathlib.Numerals.{add-one}
use Rattle.std.specs.Prelude.{◌&&◌, List, [], ◌∷◌}
use Rattle.std.specs.List.{list_all, range_with_len, zip}
use Rattle.std.proofs.Common.{get_or, length}
use Rattle.common.specs.Walk.{all_from, first_from}
use Rattle.common.proofs.Tests.{either}

pub one_more : (i n : ℕ) → i < n → n - i ≡ suc (n - (i + 1))
one_more i n h = omega arith

-- ---- all_from

all_from_from : (t : ℕ → Bool) (i left k : ℕ) → all_from t i left ≡ true → i ≤ k → k < i + left → t k ≡ true
unfolding all_from
all_from_from t i zero k e lo hi = absurd (omega arith)
all_from_from t i (suc left) k e lo hi =
    either (t i)
    (λ q.
    ⊎_elim
    (λ s. rw (← s) q)
    (λ l. all_from_from t (i + 1) left k (rw q at e) (omega arith) (omega arith))
    (eq-or-lt_of_le lo))
    (λ q. absurd cc)

-- the test holds at each number of a walk that passed
pub all_from_at : (t : ℕ → Bool) (n : ℕ) → all_from t 0 n ≡ true → (k : ℕ) → k < n → t k ≡ true
all_from_at t n e k h = all_from_from t 0 n k e (omega arith) (omega arith)

all_from_build : (t : ℕ → Bool) (i left : ℕ) → ((k : ℕ) → i ≤ k → k < i + left → t k ≡ true) → all_from t i left ≡ true
unfolding all_from
all_from_build t i zero f = refl
all_from_build t i (suc left) f =
    rw (f i (omega arith) (omega arith)) (all_from_build t (i + 1) left (λ k lo hi. f k (omega arith) (omega arith)))

pub all_from_made : (t : ℕ → Bool) (n : ℕ) → ((k : ℕ) → k < n → t k ≡ true) → all_from t 0 n ≡ true
all_from_made t n f = all_from_build t 0 n (λ k lo hi. f k (omega arith))

-- ---- first_from

module _ {A : Type 0} (t : ℕ → Bool) (hit : ℕ → A) (miss : A) where
  pub first_from_hit : (i n : ℕ) → i < n → t i ≡ true → first_from t hit miss i (n - i) ≡ hit i
  unfolding first_from
  first_from_hit i n h e = rw (one_more i n h, e)

  pub first_from_miss :
      (i n : ℕ) → i < n → t i ≡ false → first_from t hit miss i (n - i) ≡ first_from t hit miss (i + 1) (n - (i + 1))
  unfolding first_from
  first_from_miss i n h e = rw (one_more i n h, e)

  pub first_from_end : (i n : ℕ) → n ≤ i → first_from t hit miss i (n - i) ≡ miss
  unfolding first_from
  first_from_end i n h = rw (sub-eq-zero_of_le h)

  -- what holds of a hit at the first number from i on that passes, and of a miss where none passes, holds of the search
  pub cases_from :
      (P : A → Type 0) (i left : ℕ)
      → ((k : ℕ) → i ≤ k → k < i + left → t k ≡ true → ((j : ℕ) → i ≤ j → j < k → t j ≡ false) → P (hit k))
      → (((j : ℕ) → i ≤ j → j < i + left → t j ≡ false) → P miss) → P (first_from t hit miss i left)
  unfolding first_from
  cases_from P i zero found none = none (λ j lo hi. absurd (omega arith))
  cases_from P i (suc left) found none =
      either (t i)
      (λ q. rw q (found i (omega arith) (omega arith) q (λ j lo hi. absurd (omega arith))))
      (λ q.
      let first : (j : ℕ) → i ≤ j → (i < j → t j ≡ false) → t j ≡ false = λ j lo f. ⊎_elim (λ s. rw (← s) q) f (eq-or-lt_of_le lo) in
      rw q
      (cases_from P (i + 1) left
      (λ k lo hi e below. found k (omega arith) (omega arith) e (λ j lj hj. first j lj (λ l. below j (omega arith) hj)))
      (λ below. none (λ j lj hj. first j lj (λ l. below j (omega arith) (omega arith))))))

  -- the same from 0 on
  pub first_from_cases :
      (P : A → Type 0) (n : ℕ) → ((k : ℕ) → k < n → t k ≡ true → ((j : ℕ) → j < k → t j ≡ false) → P (hit k))
      → (((j : ℕ) → j < n → t j ≡ false) → P miss) → P (first_from t hit miss 0 n)
  first_from_cases P n found none =
      cases_from P 0 n
      (λ k lo hi e below. found k (omega arith) e (λ j h. below j (omega arith) h))
      (λ below. none (λ j h. below j (omega arith) (omega arith)))

-- one number more: the search goes on where the shorter one misses
pub first_from_more :
    {A : Type 0} (t : ℕ → Bool) (hit : ℕ → A) (miss : A) (i left : ℕ)
    → first_from t hit miss i (suc left) ≡ first_from t hit (cond (t (i + left)) (hit (i + left)) miss) i left
unfolding first_from
first_from_more t hit miss i zero = rw (add-zero i)
first_from_more t hit miss i (suc left) =
    let e : i + 1 + left ≡ i + suc left = omega arith in
    subst
    (λ (x : ℕ). first_from t hit miss i (suc (suc left)) ≡ first_from t hit (cond (t x) (hit x) miss) i (suc left))
    e
    (rw (first_from_more t hit miss (i + 1) left))

same_from :
    {A : Type 0} (t u : ℕ → Bool) (hit : ℕ → A) (miss : A) (i left : ℕ) → ((k : ℕ) → i ≤ k → k < i + left → t k ≡ u k)
    → first_from t hit miss i left ≡ first_from u hit miss i left
unfolding first_from
same_from t u hit miss i zero f = refl
same_from t u hit miss i (suc left) f =
    rw (f i (omega arith) (omega arith), same_from t u hit miss (i + 1) left (λ k lo hi. f k (omega arith) (omega arith)))

pub first_from_same :
    {A : Type 0} (t u : ℕ → Bool) (hit : ℕ → A) (miss : A) (n : ℕ) → ((k : ℕ) → k < n → t k ≡ u k)
    → first_from t hit miss 0 n ≡ first_from u hit miss 0 n
first_from_same t u hit miss n f = same_from t u hit miss 0 n (λ k lo hi. f k (omega arith))

-- a function of the answer is the search for its values
pub first_from_through :
    {A B : Type 0} (f : A → B) (t : ℕ → Bool) (hit : ℕ → A) (miss : A) (i left : ℕ)
    → f (first_from t hit miss i left) ≡ first_from t (λ k. f (hit k)) (f miss) i left
unfolding first_from
first_from_through f t hit miss i zero = refl
first_from_through f t hit miss i (suc left) =
    either (t i) (λ q. rw q) (λ q. rw q (first_from_through f t hit miss (i + 1) left))

-- ---- a list tested from its first element on, as `all` of an iterator does

both : (b c : Bool) → (b && c) ≡ cond b c false
both true c = refl
both false c = refl

-- over the numbers of a range
pub all_of_range : (t : ℕ → Bool) (i n : ℕ) → list_all t (range_with_len i n) ≡ all_from t i n
unfolding all_from
all_of_range t i zero = refl
all_of_range t i (suc n) = rw (all_of_range t (i + 1) n, both)

shifted : (t : ℕ → Bool) (i n : ℕ) → all_from (λ k. t (suc k)) i n ≡ all_from t (suc i) n
unfolding all_from
shifted t i zero = refl
shifted t i (suc n) = rw (shifted t (i + 1) n, add-one i, add-one (suc i))

-- over the elements of a list, each at its index
pub all_of_list : {A : Type 0} (t : A → Bool) (d : A) (xs : List A) → list_all t xs ≡ all_from (λ k. t (get_or xs k d)) 0 (length xs)
unfolding all_from
all_of_list t d [] = refl
all_of_list t d (x ∷ xs) =
    rw (all_of_list t d xs, both, shifted (λ k. t (get_or (x ∷ xs) k d)) 0 (length xs))

-- over the pairs of two lists, of which the second is not the shorter
pub all_of_zip :
    {A B : Type 0} (t : A → B → Bool) (d : A) (e : B) (xs : List A) (ys : List B)
    → length xs ≤ length ys
    → list_all (λ (p : A × B). t p.0 p.1) (zip xs ys) ≡ all_from (λ k. t (get_or xs k d) (get_or ys k e)) 0 (length xs)
unfolding all_from
all_of_zip t d e [] ys h = refl
all_of_zip t d e (x ∷ xs) [] h = absurd (omega arith)
all_of_zip t d e (x ∷ xs) (y ∷ ys) h =
    rw (all_of_zip t d e xs ys (omega arith), both, shifted (λ k. t (get_or (x ∷ xs) k d) (get_or (y ∷ ys) k e)) 0 (length xs))
