-- Laws of specs/Positions. Names: F-G is a law of F (G ..); F-G-same reads the number that was posted to, F-G-other another.
-- To cite: `position_posted_same`, `position_posted_other`, `posted_comm`, `total_posted`, `total_transferred`,
-- `size_posted`, `within_posted`. Assumes nothing.
use Rattle.std.proofs.lemmas.Int.{ints}
use mathlib.Core.Path.{◌≡◌, refl, sym, ◌∙◌, ap}
use mathlib.Core.Bool.{Bool, true, false}
use mathlib.Core.List.{List, [], ◌∷◌}
use mathlib.Core.Logic.{◌≢◌}
use Prim.Native.Nat.{ℕ, zero, suc, ◌+◌, ◌*◌, ◌-◌, ◌≤◌}
use native.Mathlib.Omega.{arith}
use borrow.Author.Tests.{leb-true, le-leb, eqb-true, eqb-false}
use lib.Dec.{leb, eqb}
use lib.IntN.{ℤ, pos, neg_ℤ, nat_abs, ◌+ℤ◌, +ℤ_assoc, +ℤ_idl, +ℤ_idr, +ℤ_invr, +ℤ_invl, -ℤ-+ℤ_cancel}
use lib.ListN.{length, get_or, set, length-set, get_or-eq_default}
use lib.Seq.{get_or-set_same, get_or-set_other, set_out, set-get_or}
use Rattle.common.proofs.Tests.{and_halves, and_true}
use Rattle.positions.specs.Positions.{has_entry, HasEntry, position, posted, transferred, total, zeros, InLimit}

-- ---- the entry of a number

pub has_entry_entry : (l : List ℤ) (k : ℕ) → has_entry l k ≡ true → HasEntry l k
has_entry_entry l k e =
    let h = and_halves (leb 1 k) e in
    record { low = leb-true 1 k h.0; high = leb-true k (length l) h.1 }

pub entry_has_entry : (l : List ℤ) (k : ℕ) → HasEntry l k → has_entry l k ≡ true
entry_has_entry l k e = and_true (le-leb 1 k e.low) (le-leb k (length l) e.high)

-- as the code finds it, at the index k - 1
pub position_index : (l : List ℤ) (k : ℕ) → 1 ≤ k → position l k ≡ get_or l (k - 1) (pos 0)
unfolding position
position_index l zero h = absurd (omega arith)
position_index l (suc i) h = ap (λ (n : ℕ). get_or l n (pos 0)) (omega arith)

pub posted_index : (l : List ℤ) (k : ℕ) (x : ℤ) → 1 ≤ k → posted l k x ≡ set l (k - 1) (get_or l (k - 1) (pos 0) +ℤ x)
unfolding posted
posted_index l zero x h = absurd (omega arith)
posted_index l (suc i) x h =
    ap (λ (n : ℕ). set l n (get_or l n (pos 0) +ℤ x)) (omega arith)

-- a number without an entry has the position 0
pub position_none : (l : List ℤ) (k : ℕ) → has_entry l k ≡ false → position l k ≡ pos 0
unfolding position
position_none l zero e = refl
position_none l (suc i) e = get_or-eq_default l (pos 0) (grind arith)

-- ---- a posting

pub posted_none : (l : List ℤ) (k : ℕ) (x : ℤ) → has_entry l k ≡ false → posted l k x ≡ l
unfolding posted
posted_none l zero x e = refl
posted_none l (suc i) x e = set_out l i (get_or l i (pos 0) +ℤ x) (grind arith)

pub length_posted : (l : List ℤ) (k : ℕ) (x : ℤ) → length (posted l k x) ≡ length l
unfolding posted
length_posted l zero x = refl
length_posted l (suc i) x = length-set l i (get_or l i (pos 0) +ℤ x)

pub entry_posted : (l : List ℤ) (k j : ℕ) (x : ℤ) → HasEntry l j → HasEntry (posted l k x) j
entry_posted l k j x e = record { low = e.low; high = omega (arith, length_posted l k x, e.high) }

pub position_posted_same : (l : List ℤ) (k : ℕ) (x : ℤ) → HasEntry l k → position (posted l k x) k ≡ position l k +ℤ x
unfolding posted position
position_posted_same l zero x e = absurd (omega (arith, e.low))
position_posted_same l (suc i) x e = get_or-set_same l i (get_or l i (pos 0) +ℤ x) (pos 0) e.high

pub position_posted_other : (l : List ℤ) (k j : ℕ) (x : ℤ) → j ≢ k → position (posted l k x) j ≡ position l j
unfolding posted position
position_posted_other l zero j x h = refl
position_posted_other l (suc i) zero x h = refl
position_posted_other l (suc i) (suc j) x h = get_or-set_other l i j (get_or l i (pos 0) +ℤ x) (pos 0) (λ e. h (ap suc e))

-- nothing, twice, and back
pub posted_zero : (l : List ℤ) (k : ℕ) → posted l k (pos 0) ≡ l
unfolding posted
posted_zero l zero = refl
posted_zero l (suc i) = ap (λ (z : ℤ). set l i z) (+ℤ_idr (get_or l i (pos 0))) ∙ set-get_or l i (pos 0)

pub posted_twice : (l : List ℤ) (k : ℕ) (x y : ℤ) → posted (posted l k x) k y ≡ posted l k (x +ℤ y)
unfolding posted
posted_twice l zero x y = refl
posted_twice [] (suc i) x y = refl
posted_twice (z ∷ l) (suc zero) x y = ap (λ (a : ℤ). a ∷ l) (+ℤ_assoc z x y)
posted_twice (z ∷ l) (suc (suc i)) x y = ap (λ (t : List ℤ). z ∷ t) (posted_twice l (suc i) x y)

pub posted_back : (l : List ℤ) (k : ℕ) (x : ℤ) → posted (posted l k x) k (neg_ℤ x) ≡ l
posted_back l k x = posted_twice l k x (neg_ℤ x) ∙ ap (posted l k) (+ℤ_invr x) ∙ posted_zero l k

-- in which order two postings are made does not matter
pub posted_comm : (l : List ℤ) (i j : ℕ) (x y : ℤ) → posted (posted l i x) j y ≡ posted (posted l j y) i x
unfolding posted
posted_comm l zero j x y = refl
posted_comm l (suc i) zero x y = refl
posted_comm [] (suc i) (suc j) x y = refl
posted_comm (z ∷ l) (suc zero) (suc zero) x y = ap (λ (a : ℤ). a ∷ l) (omega (arith, ints))
posted_comm (z ∷ l) (suc zero) (suc (suc j)) x y = refl
posted_comm (z ∷ l) (suc (suc i)) (suc zero) x y = refl
posted_comm (z ∷ l) (suc (suc i)) (suc (suc j)) x y = ap (λ (t : List ℤ). z ∷ t) (posted_comm l (suc i) (suc j) x y)

-- ---- a transfer

pub length_transferred : (l : List ℤ) (from to : ℕ) (x : ℤ) → length (transferred l from to x) ≡ length l
unfolding transferred
length_transferred l from to x = length_posted (posted l from (neg_ℤ x)) to x ∙ length_posted l from (neg_ℤ x)

-- to the same number: nothing changes
pub transferred_same : (l : List ℤ) (k : ℕ) (x : ℤ) → transferred l k k x ≡ l
unfolding transferred
transferred_same l k x = posted_twice l k (neg_ℤ x) x ∙ ap (posted l k) (+ℤ_invl x) ∙ posted_zero l k

-- it is two postings, in either order
pub transferred_posted : (l : List ℤ) (from to : ℕ) (x : ℤ) → transferred l from to x ≡ posted (posted l from (neg_ℤ x)) to x
unfolding transferred
transferred_posted l from to x = refl

pub posted_transferred : (l : List ℤ) (from to : ℕ) (x : ℤ) → posted (posted l to x) from (neg_ℤ x) ≡ transferred l from to x
unfolding transferred
posted_transferred l from to x = posted_comm l to from x (neg_ℤ x)

-- ---- the sum of a table

pub total_posted : (l : List ℤ) (k : ℕ) (x : ℤ) → HasEntry l k → total (posted l k x) ≡ total l +ℤ x
unfolding posted total
total_posted l zero x e = absurd (omega (arith, e.low))
total_posted [] (suc i) x e = absurd (omega (arith, e.high))
total_posted (z ∷ l) (suc zero) x e = omega (arith, ints)
total_posted (z ∷ l) (suc (suc i)) x e =
    ap (λ (y : ℤ). z +ℤ y) (total_posted l (suc i) x (record { low = omega arith; high = omega (arith, e.high) }))
    ∙ sym (+ℤ_assoc z (total l) x)

pub total_transferred : (l : List ℤ) (from to : ℕ) (x : ℤ) → HasEntry l from → HasEntry l to → total (transferred l from to x) ≡ total l
unfolding transferred
total_transferred l from to x f t =
    total_posted (posted l from (neg_ℤ x)) to x (entry_posted l from to (neg_ℤ x) t)
    ∙ ap (λ (y : ℤ). y +ℤ x) (total_posted l from (neg_ℤ x) f)
    ∙ -ℤ-+ℤ_cancel (total l) x

pub total_zeros : (n : ℕ) → total (zeros n) ≡ pos 0
unfolding total
total_zeros zero = refl
total_zeros (suc n) = +ℤ_idl (total (zeros n)) ∙ total_zeros n

-- ---- the limit

pub position_zeros : (n k : ℕ) → position (zeros n) k ≡ pos 0
unfolding position
position_zeros n zero = refl
position_zeros zero (suc i) = refl
position_zeros (suc n) (suc zero) = refl
position_zeros (suc n) (suc (suc i)) = position_zeros n (suc i)

-- how far a posting carries any position of the table
pub size_posted : (l : List ℤ) (k j : ℕ) (x : ℤ) → nat_abs (position (posted l k x) j) ≤ nat_abs (position l j) + nat_abs x
size_posted l k j x = by_test (eqb j k) refl
  where
    by_entry : (t : Bool) → has_entry l k ≡ t → nat_abs (position (posted l k x) k) ≤ nat_abs (position l k) + nat_abs x
    by_entry true e = rw (position_posted_same l k x (has_entry_entry l k e)) (omega (arith, ints))
    by_entry false e = rw (posted_none l k x e) (omega arith)

    by_test : (t : Bool) → eqb j k ≡ t → nat_abs (position (posted l k x) j) ≤ nat_abs (position l j) + nat_abs x
    by_test true e = rw (eqb-true j k e) (by_entry (has_entry l k) refl)
    by_test false e = rw (position_posted_other l k j x (eqb-false j k e)) (omega arith)

pub within_zeros : (m n : ℕ) → InLimit m (zeros n)
within_zeros m n k = rw (position_zeros n k) (omega arith)

pub within_mono : (m n : ℕ) (l : List ℤ) → m ≤ n → InLimit m l → InLimit n l
within_mono m n l h w k = omega (arith, w k)

pub within_posted : (m n : ℕ) (l : List ℤ) (k : ℕ) (x : ℤ) → InLimit m l → nat_abs x ≤ n → InLimit (m + n) (posted l k x)
within_posted m n l k x w h j = omega (arith, size_posted l k j x, w j)

-- of both postings of a transfer no position sees more than one, or it sees them cancel
pub size_transferred :
    (l : List ℤ) (from to j : ℕ) (x : ℤ)
    → nat_abs (position (transferred l from to x) j) ≤ nat_abs (position l j) + nat_abs x
unfolding transferred
size_transferred l from to j x = by_test (eqb from to) (eqb j to) refl refl
  where
    by_test :
        (s t : Bool) → eqb from to ≡ s → eqb j to ≡ t
        → nat_abs (position (transferred l from to x) j) ≤ nat_abs (position l j) + nat_abs x
    by_test true t e q = rw (eqb-true from to e, transferred_same l to x) (omega arith)
    by_test false true e q =
        let other = position_posted_other l from to (neg_ℤ x) (λ p. eqb-false from to e (sym p)) in
        rw (eqb-true j to q) (omega (arith, size_posted (posted l from (neg_ℤ x)) to to x, ap nat_abs other))
    by_test false false e q =
        rw (position_posted_other (posted l from (neg_ℤ x)) to j x (eqb-false j to q))
        (omega (arith, ints, size_posted l from j (neg_ℤ x)))

pub within_transferred :
    (m n : ℕ) (l : List ℤ) (from to : ℕ) (x : ℤ) → InLimit m l → nat_abs x ≤ n → InLimit (m + n) (transferred l from to x)
within_transferred m n l from to x w h j = omega (arith, size_transferred l from to j x, w j)

within_rest : (m : ℕ) (z : ℤ) (l : List ℤ) → InLimit m (z ∷ l) → InLimit m l
unfolding position
within_rest m z l w zero = omega arith
within_rest m z l w (suc i) = w (suc (suc i))

-- the sum of a table whose positions are within a bound
pub size_total : (m : ℕ) (l : List ℤ) → InLimit m l → nat_abs (total l) ≤ length l * m
unfolding total position
size_total m [] w = omega arith
size_total m (z ∷ l) w = omega (arith, ints, size_total m l (within_rest m z l w), w 1)
