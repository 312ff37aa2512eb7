-- Laws of specs/Queries: the query over lent cells, from the book's. To cite: `query_done`. Assumes nothing.
use Rattle.std.proofs.Common.{Result, ℤ}
use mathlib.Core.Path.{◌≡◌, refl, ap, ◌∙◌}
use mathlib.Core.Bool.{Bool, true, false, cond, ◌&&◌}
use mathlib.Core.List.{List}
use Prim.Native.Nat.{ℕ}
use lib.IntN.{ℤ}
use lib.ListN.{set}
use Rattle.refusals.specs.declared.Refusal.{Refusal}
use Rattle.tables.specs.Ledger.{Ledger}
use Rattle.fitness.specs.Fitness.{fit}
use Rattle.model.specs.Step.{answer_number, in_query, figure_of, query}
use Rattle.book.specs.Events.{Queried}
use Rattle.cells.specs.Cells.{cells_fit, figure_cents}
use Rattle.foreign.specs.Queries.{QueryCall}

module _ (state : List ℕ) (cents : List ℤ) (l : Ledger) (kind number : ℕ) where
  -- the figure goes to its cell where the query is answered
  figure_put :
      (fits within : Bool) → fit l ≡ fits → in_query kind number ≡ within
      → figure_cents (query l kind number) cents ≡ cond (fits && within) (set cents 1 (figure_of l kind number)) cents
  unfolding query
  figure_put true true f w = rw (f, w)
  figure_put true false f w = rw (f, w)
  figure_put false within f w = rw f

  pub query_done :
      cells_fit state cents ≡ true
      → (a : Result ℤ Refusal) → Queried l kind number a
      → (r : ℕ) (cents' : List ℤ) → r ≡ answer_number a → cents' ≡ figure_cents a cents
      → QueryCall state cents l kind number r cents'
  query_done f a q r cents' n z =
      let put = z ∙ ap (λ (x : Result ℤ Refusal). figure_cents x cents) q.answer_is in
      record {
        answer_is = rw f (n ∙ ap answer_number q.answer_is);
        cents_is = rw f put;
        number_is = rw f (n ∙ q.number_is);
        figure_is = rw f (put ∙ figure_put (fit l) (in_query kind number) refl refl);
      }
