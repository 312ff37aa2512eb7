-- The position query over lent cells, against the model. Assumes nothing.
use Rattle.std.specs.Prelude.{◌≡◌, cond, ◌&&◌, List, ℕ, ℤ, set}
use Rattle.refusals.specs.declared.Refusal.TheVariants.{UnfitMemory}
use Rattle.refusals.specs.Refusals.{number_of, answer_number}
use Rattle.tables.specs.Ledger.{Ledger}
use Rattle.fitness.specs.Fitness.{fit}
use Rattle.model.specs.Step.{in_query, figure_of, query}
use Rattle.cells.specs.Cells.{cells_fit, figure_cents}

-- where the cells fit, the answer of the ledger l that they and the tables hold; cell 1 of the cents gets the figure where there is one,
-- and nothing else changes
pub record QueryCall (state : List ℕ) (cents : List ℤ) (l : Ledger) (kind number : ℕ) (r : ℕ) (cents' : List ℤ) : Type 0 where
  pub answer_is : r ≡ cond (cells_fit state cents) (answer_number (query l kind number)) (number_of UnfitMemory)
  pub cents_is : cents' ≡ cond (cells_fit state cents) (figure_cents (query l kind number) cents) cents
  -- the same by the tests
  pub number_is : r ≡ cond (cells_fit state cents && fit l) (cond (in_query kind number) 0 5) 2
  pub figure_is : cents' ≡ cond (cells_fit state cents && fit l && in_query kind number) (set cents 1 (figure_of l kind number)) cents
