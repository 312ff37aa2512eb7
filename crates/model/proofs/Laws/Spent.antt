-- Laws of specs/Bounds: what the rows have moved, after one of them is written.
-- To cite: `spent_limit`, `sum_treated`, `sum_added`. Assumes nothing.
use mathlib.Core.Path.{◌≡◌, refl, ap, ◌∙◌}
use mathlib.Core.Logic.{⊎_elim, ◌≢◌}
use mathlib.Core.List.{List}
use Prim.Native.Nat.{ℕ, zero, suc, ◌+◌, ◌*◌, ◌≤◌, ◌<◌}
use native.Mathlib.Nat.{eq-or-lt_of_le, suc-mul}
use native.Mathlib.Numerals.{add-one}
use native.Mathlib.Omega.{arith}
use Rattle.positions.specs.Limits.{row_move}
use Rattle.tables.specs.Ledger.{Ledger}
use Rattle.tables.specs.Rows.{rows, collection_at, put_collection}
use Rattle.tables.specs.declared.Collection.{Collection}
use Rattle.tables.specs.declared.State.{State}
use Rattle.tables.specs.declared.State.TheVariants.{Presented, Rejected, Settled, Undone}
use Rattle.model.specs.Bounds.{sum_rows, moved, moved_at, spent}
use Rattle.tables.proofs.Laws.Rows.{collection_at_put_same, collection_at_put_other}

-- ---- a sum over rows

sum_same : (f g : ℕ → ℕ) (n : ℕ) → ((i : ℕ) → i < n → g i ≡ f i) → sum_rows g n ≡ sum_rows f n
unfolding sum_rows
sum_same f g zero h = refl
sum_same f g (suc n) h = omega (arith, sum_same f g n (λ i l. h i (omega arith)), h n (omega arith))

sum_changed : (f g : ℕ → ℕ) (row n : ℕ) → row < n → ((i : ℕ) → i ≢ row → g i ≡ f i) → sum_rows g n + f row ≡ sum_rows f n + g row
unfolding sum_rows
sum_changed f g row zero l h = absurd (omega arith)
sum_changed f g row (suc n) l h =
    ⊎_elim
    (λ (e : row ≡ n).
    omega (arith, sum_same f g n (λ i k. h i (λ s. omega arith)), ap f e, ap g e))
    (λ (k : row < n). omega (arith, sum_changed f g row n k h, h n (λ s. omega arith))) (eq-or-lt_of_le (omega arith))

sum_bound : (f : ℕ → ℕ) (m n : ℕ) → ((i : ℕ) → f i ≤ m) → sum_rows f n ≤ n * m
unfolding sum_rows
sum_bound f m zero h = omega arith
sum_bound f m (suc n) h = let i = sum_bound f m n h in omega (arith, h n, suc-mul n m)

-- ---- what a row has moved at most

moved_le : (s : State) → moved s ≤ row_move
moved_le Presented = omega arith
moved_le Rejected = omega arith
moved_le (Settled day) = omega arith
moved_le (Undone day by) = omega arith

pub spent_limit : (l : Ledger) → spent l ≤ l.collections_used * row_move
unfolding spent
spent_limit l = sum_bound (moved_at l.collections) row_move l.collections_used (λ i. moved_le (collection_at l.collections i).state)

-- ---- after a row is written

module _ (cells : List ℕ) (used : ℕ) where
  -- a used row gets another state
  pub sum_treated : (row : ℕ) (k : Collection) → row < used → row < rows cells → sum_rows (moved_at (put_collection cells row k)) used + moved_at cells row ≡ sum_rows (moved_at cells) used + moved k.state
  sum_treated row k h lent =
      sum_changed (moved_at cells) (moved_at (put_collection cells row k)) row used h
      (λ i ne. ap (λ (c : Collection). moved c.state) (collection_at_put_other cells row k i ne))
      ∙ ap (λ (c : Collection). sum_rows (moved_at cells) used + moved c.state) (collection_at_put_same cells row k lent)

  -- the next row is written
  pub sum_added : (k : Collection) → used < rows cells → sum_rows (moved_at (put_collection cells used k)) (used + 1) ≡ sum_rows (moved_at cells) used + moved k.state
  unfolding sum_rows
  sum_added k lent =
      ap (λ (n : ℕ). sum_rows (moved_at (put_collection cells used k)) n) (add-one used)
      ∙ omega (
        arith,
        sum_same (moved_at cells) (moved_at (put_collection cells used k)) used
            (λ i l. ap (λ (c : Collection). moved c.state) (collection_at_put_other cells used k i (λ s. omega arith))),
        ap (λ (c : Collection). moved c.state) (collection_at_put_same cells used k lent),
      )
