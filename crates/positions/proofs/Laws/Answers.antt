-- Laws of specs/Answers: what the code's steps say of the answer, of what is stored, and that 64 bits hold it.
-- To cite: `post_fits` and `transfer_fits` (a posting within capacity is made), `settlement_of_is`, `reversed_of_is`,
-- `refunded_of_is`. Assumes nothing.
use Rattle.std.proofs.Common.{Some, Ok, Err}
use Rattle.std.proofs.lemmas.Int.{ints}
use mathlib.Core.Path.{◌≡◌, refl, sym, ◌∙◌, ap}
use mathlib.Core.List.{List}
use Prim.Native.Nat.{ℕ, ◌≤◌}
use native.Mathlib.Omega.{arith}
use borrow.Author.Tests.{le-leb}
use lib.IntN.{ℤ, pos, neg_ℤ, nat_abs, ◌+ℤ◌, ◌-ℤ◌}
use lib.ListN.{get_or, set, length-set}
use mir.Syntax.{w64}
use mir.Val.{SFits, to_z, of_z}
use mir.Facts.{to_z-of_z}
use borrow.Author.Rules.{sfits_of}
use Rattle.positions.specs.declared.PostError.{PostError}
use Rattle.positions.specs.Positions.{HasEntry, position, posted, transferred}
use Rattle.positions.specs.Postings.{settlement, reversed, refunded}
use Rattle.positions.specs.Compensation.{amount_limit}
use Rattle.positions.specs.Limits.{compensation_limit}
use Rattle.positions.specs.Answers.{capacity, entry_index, sizes_answer, post_answer, transfer_answer, after_post, after_transfer, settlement_of, reversed_of, refunded_of}
use Rattle.positions.proofs.Laws.Integers.{size_within}
use Rattle.positions.proofs.Laws.Positions.{has_entry_entry, entry_has_entry, entry_posted, position_index, position_none, posted_index}
use Rattle.positions.proofs.Laws.Positions.{position_posted_same, transferred_posted, size_posted, size_transferred}

-- ---- the code's two steps: the index of an entry, and whether the sizes fit

module _ (l : List ℤ) (k : ℕ) where
  pub no_entry_position : (e : PostError) → entry_index l k ≡ Err e → position l k ≡ pos 0
  no_entry_position e p = grind (arith, position_none)

  -- the cell at the index is that of the number
  pub position_at : (at : ℕ) → entry_index l k ≡ Ok at → position l k ≡ get_or l at (pos 0)
  position_at at p = grind (arith, position_index)

  pub posted_at : (at : ℕ) (x : ℤ) → entry_index l k ≡ Ok at → set l at (get_or l at (pos 0) +ℤ x) ≡ posted l k x
  posted_at at x p = grind (arith, posted_index)

-- what `position_of` reads
pub ruleset position_steps = (position_at, no_entry_position)

-- 64 bits hold the sum of sizes that fit
pub sum_fits : (z x : ℤ) → sizes_answer z x ≡ Ok tt → SFits w64 (z +ℤ x)
sum_fits z x p = grind (arith, ints)

-- ---- post

module _ (l : List ℤ) (k : ℕ) (x : ℤ) where
  -- what a caller shows, and gets
  pub post_fits :
      HasEntry l k → nat_abs (position l k) ≤ capacity → nat_abs x ≤ capacity
      → (post_answer l k x ≡ Ok tt) × (after_post l k x ≡ posted l k x)
  unfolding after_post post_answer
  post_fits e p h =
      rw (entry_has_entry l k e, size_within capacity (position l k) p, size_within capacity x h) (refl, refl)

-- what `post` answers and leaves
pub ruleset post_steps = (position_at, posted_at, sum_fits, to_z-of_z, sfits_of)

-- ---- transfer

module _ (l : List ℤ) (from to : ℕ) (x : ℤ) where
  pub transfer_without_from : (e : PostError) → entry_index l from ≡ Err e → transfer_answer l from to x ≡ Err e
  unfolding transfer_answer
  transfer_without_from e p = grind arith

  pub transfer_without_to :
      (i : ℕ) (e : PostError) → entry_index l from ≡ Ok i → entry_index l to ≡ Err e → transfer_answer l from to x ≡ Err e
  unfolding transfer_answer
  transfer_without_to i e p q = grind arith

  module _ (i j : ℕ) (p : entry_index l from ≡ Ok i) (q : entry_index l to ≡ Ok j) where
    pub transfer_outside_from : (e : PostError) → sizes_answer (get_or l i (pos 0)) x ≡ Err e → transfer_answer l from to x ≡ Err e
    unfolding transfer_answer
    transfer_outside_from e s = grind (arith, position_at)

    pub transfer_sized : sizes_answer (get_or l i (pos 0)) x ≡ Ok tt → transfer_answer l from to x ≡ sizes_answer (get_or l j (pos 0)) x
    unfolding transfer_answer
    transfer_sized s = grind (arith, position_at)

    -- what the code stores first
    abbrev half : List ℤ
    half = set l i (get_or l i (pos 0) -ℤ x)

    half_posted : half ≡ posted l from (neg_ℤ x)
    half_posted = posted_at l from i (neg_ℤ x) p

    half_index : entry_index half to ≡ Ok j
    half_index = grind (arith, length-set {A = ℤ})

    half_cell : get_or half j (pos 0) ≡ position (posted l from (neg_ℤ x)) to
    half_cell = sym (position_at half to j half_index) ∙ ap (λ (n : List ℤ). position n to) half_posted

    pub transferred_at : set (set l i (get_or l i (pos 0) -ℤ x)) j (get_or (set l i (get_or l i (pos 0) -ℤ x)) j (pos 0) +ℤ x) ≡ transferred l from to x
    transferred_at =
        posted_at half to j x half_index ∙ ap (λ (n : List ℤ). posted n to x) half_posted ∙ sym (transferred_posted l from to x)

    -- 64 bits hold the first new position, the cell before the second, and the second
    module _ (s : sizes_answer (get_or l i (pos 0)) x ≡ Ok tt) (t : sizes_answer (get_or l j (pos 0)) x ≡ Ok tt) where
      pub first_fits : SFits w64 (get_or l i (pos 0) -ℤ x)
      first_fits = grind (arith, ints)

      pub first_back : to_z w64 (of_z w64 (get_or l i (pos 0) -ℤ x)) ≡ get_or l i (pos 0) -ℤ x
      first_back = to_z-of_z first_fits

      pub half_back : to_z w64 (of_z w64 (get_or (set l i (get_or l i (pos 0) -ℤ x)) j (pos 0))) ≡ get_or (set l i (get_or l i (pos 0) -ℤ x)) j (pos 0)
      half_back =
          to_z-of_z {w = w64}
          (rw half_cell (grind (arith, ints, size_posted l from to (neg_ℤ x), position_at)))

      pub second_fits : SFits w64 (get_or (set l i (get_or l i (pos 0) -ℤ x)) j (pos 0) +ℤ x)
      second_fits =
          let e = entry_posted l from to (neg_ℤ x) (has_entry_entry l to (grind arith)) in
          let read = position_posted_same (posted l from (neg_ℤ x)) to x e in
          let after = ap (λ (t : List ℤ). position t to) (transferred_posted l from to x) in
          rw half_cell (grind (arith, ints, size_transferred l from to to x, after ∙ read, position_at))

      pub second_back :
          to_z w64 (of_z w64 (get_or (set l i (get_or l i (pos 0) -ℤ x)) j (pos 0) +ℤ x)) ≡ get_or (set l i (get_or l i (pos 0) -ℤ x)) j (pos 0) +ℤ x
      second_back = to_z-of_z second_fits

  -- what a caller shows, and gets
  pub transfer_fits :
      HasEntry l from → HasEntry l to → nat_abs (position l from) ≤ capacity → nat_abs (position l to) ≤ capacity
      → nat_abs x ≤ capacity
      → (transfer_answer l from to x ≡ Ok tt) × (after_transfer l from to x ≡ transferred l from to x)
  unfolding after_transfer transfer_answer
  transfer_fits f t p q h =
      rw (
        entry_has_entry l from f,
        entry_has_entry l to t,
        size_within capacity (position l from) p,
        size_within capacity (position l to) q,
        size_within capacity x h,
      ) (refl, refl)

-- what `transfer` answers, and what it stores second
pub ruleset transfer_steps = (transfer_without_from, transfer_without_to, transfer_outside_from, transfer_sized, first_fits, to_z-of_z, sfits_of)

pub ruleset stored_steps = (transferred_at, transfer_sized, first_back, half_back, second_fits, second_back, to_z-of_z, sfits_of)

-- ---- what an event posts

pub settlement_of_is : (A : ℕ) → A ≤ amount_limit → settlement_of A ≡ Some (settlement A)
unfolding settlement_of
settlement_of_is A h = rw (le-leb A amount_limit h)

-- the amounts as a machine makes them, of what is added and of what is taken
pub settlement_amounts :
    (A : ℕ) (plus minus : ℤ) → plus ≡ pos A → minus ≡ neg_ℤ (pos A) → A ≤ amount_limit
    → Some (record { debtor = minus; creditor = plus; dbank = minus; cbank = plus; compensation = pos 0 }) ≡ settlement_of A
settlement_amounts A plus minus p m h = rw (p, m) (sym (settlement_of_is A h))

pub reversed_of_is : (A : ℕ) → A ≤ amount_limit → reversed_of A ≡ Some (reversed A)
unfolding reversed_of
reversed_of_is A h = rw (le-leb A amount_limit h)

pub refunded_of_is : (A K : ℕ) → A ≤ amount_limit → K ≤ compensation_limit → refunded_of A K ≡ Some (refunded A K)
unfolding refunded_of
refunded_of_is A K h k = rw (le-leb A amount_limit h, le-leb K compensation_limit k)
