-- Laws of the listing of specs/Run. To cite: `position_output_zero`, `position_output_line`, `figures_output_none`, `figures_output_more`,
-- `figures_output_same` (equal figures have equal lines), `length_figures_output`, `positions_output_kinds`, `length_positions_output`.
-- Assumes nothing.
use mathlib.Core.Path.{◌≡◌, refl, ap, ◌∙◌}
use mathlib.Core.Logic.{◌≢◌}
use mathlib.Core.List.{List, [], ◌++◌}
use Prim.Native.Nat.{ℕ, zero, suc, ◌+◌, ◌*◌, ◌≤◌, ◌<◌}
use native.Mathlib.Numerals.{add-one}
use native.Mathlib.Omega.{arith}
use lib.IntN.{ℤ, pos, negsuc}
use lib.ListN.{length, length-append}
use Rattle.tables.specs.Limits.{creditor_count, debtor_count, bank_count}
use Rattle.tables.specs.Ledger.{Ledger}
use Rattle.model.specs.Step.{figure_of}
use Rattle.report.specs.Layout.{position_line, position_length}
use Rattle.report.proofs.Laws.Layout.{length_position_line}
use Rattle.run.specs.Run.{position_output, figures_output, kind_output, positions_output}

-- ---- one position

module _ (kind number : ℕ) where
  pub position_output_zero : (z : ℤ) → z ≡ pos 0 → position_output kind number z ≡ []
  position_output_zero z e = ap (position_output kind number) e

  pub position_output_line : (z : ℤ) → z ≢ pos 0 → position_output kind number z ≡ position_line kind number z
  position_output_line (pos zero) n = absurd (n refl)
  position_output_line (pos (suc k)) n = refl
  position_output_line (negsuc k) n = refl

  length_position_output : (z : ℤ) → length (position_output kind number z) ≤ position_length
  length_position_output (pos zero) = omega arith
  length_position_output (pos (suc k)) = omega (arith, length_position_line kind number (pos (suc k)))
  length_position_output (negsuc k) = omega (arith, length_position_line kind number (negsuc k))

-- ---- the positions of a kind, by the figure of each number

module _ (kind : ℕ) (figure : ℕ → ℤ) where
  pub figures_output_none : figures_output kind figure 0 ≡ []
  unfolding figures_output
  figures_output_none = refl

  -- the next number
  pub figures_output_more :
      (n : ℕ) → figures_output kind figure (n + 1) ≡ figures_output kind figure n ++ position_output kind (n + 1) (figure (n + 1))
  unfolding figures_output
  figures_output_more n = rw (add-one)

  -- a line for each number at most
  pub length_figures_output : (n : ℕ) → length (figures_output kind figure n) ≤ n * position_length
  unfolding figures_output
  length_figures_output zero = omega arith
  length_figures_output (suc n) =
      omega (
        arith,
        length-append (figures_output kind figure n) (position_output kind (suc n) (figure (suc n))),
        length_figures_output n,
        length_position_output kind (suc n) (figure (suc n)),
      )

pub figures_output_same : (kind : ℕ) (f g : ℕ → ℤ) (n : ℕ)
    → ((i : ℕ) → i < n → f (suc i) ≡ g (suc i))
    → figures_output kind f n ≡ figures_output kind g n
unfolding figures_output
figures_output_same kind f g zero h = refl
figures_output_same kind f g (suc n) h =
    ap (λ (x : List ℕ). x ++ position_output kind (suc n) (f (suc n))) (figures_output_same kind f g n (λ i k. h i (omega arith)))
    ∙ ap (λ (z : ℤ). figures_output kind g n ++ position_output kind (suc n) z) (h n (omega arith))

-- ---- the whole listing

module _ (l : Ledger) where
  pub positions_output_kinds :
      positions_output l
      ≡ kind_output l 1 creditor_count ++ kind_output l 2 debtor_count ++ kind_output l 3 bank_count ++ position_line 4 0 l.compensation
  unfolding positions_output
  positions_output_kinds = refl

  -- a line for each party and bank, and one for the total
  pub length_positions_output : length (positions_output l) ≤ (creditor_count + debtor_count + bank_count + 1) * position_length
  unfolding positions_output
  length_positions_output =
      let a = kind_output l 1 creditor_count in
      let b = kind_output l 2 debtor_count in
      let c = kind_output l 3 bank_count in
      let t = position_line 4 0 l.compensation in
      omega (
        arith,
        length_figures_output 1 (figure_of l 1) creditor_count,
        length_figures_output 2 (figure_of l 2) debtor_count,
        length_figures_output 3 (figure_of l 3) bank_count,
        length_position_line 4 0 l.compensation,
        length-append a b,
        length-append (a ++ b) c,
        length-append (a ++ b ++ c) t,
      )
