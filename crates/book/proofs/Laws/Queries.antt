-- Laws of a position query, by the first test that fails. To cite: `queried_unfit`, `queried_unknown`, `queried_outside`,
-- `queried_figure`. Assumes nothing.
use Rattle.std.proofs.Common.{Err, Ok, Result, ℤ}
use mathlib.Core.Path.{◌≡◌, refl, ◌∙◌, ap}
use mathlib.Core.Bool.{true, false}
use Prim.Native.Nat.{ℕ}
use borrow.Author.Tests.{eqb-true}
use lib.Dec.{eqb}
use Rattle.common.proofs.Tests.{either}
use Rattle.refusals.specs.declared.Refusal.{Refusal}
use Rattle.refusals.specs.declared.Refusal.TheVariants.{UnfitMemory, BadField}
use Rattle.tables.specs.Ledger.{Ledger}
use Rattle.fitness.specs.Fitness.{fit}
use Rattle.model.specs.declared.Figure.{Figure}
use Rattle.model.specs.declared.Figure.TheVariants.{Creditor, Debtor, Bank, Compensation}
use Rattle.model.specs.Step.{answer_number, kind_of, figure_told, in_query, figure_of, query, answered}
use Rattle.model.proofs.Laws.Answers.{query_answers}
use Rattle.book.specs.Events.{Queried}

same_kind : {f g : Figure} → ◌≡◌ {A = Result Figure Refusal} (Ok f) (Ok g) → kind_of f ≡ kind_of g
same_kind {f} {g} e = let q : f ≡ g = cc in ap kind_of q

-- a figure is told by its kind
told_kind : (kind : ℕ) (figure : Figure) → figure_told kind ≡ Ok figure → kind ≡ kind_of figure
told_kind kind figure e =
    either (eqb kind 1) (λ t. eqb-true kind 1 t ∙ same_kind (rw t at e))
    (λ f.
    either (eqb kind 2) (λ t. eqb-true kind 2 t ∙ same_kind (rw (f, t) at e))
    (λ g.
    either (eqb kind 3) (λ t. eqb-true kind 3 t ∙ same_kind (rw (f, g, t) at e))
    (λ h.
    either (eqb kind 4) (λ t. eqb-true kind 4 t ∙ same_kind (rw (f, g, h, t) at e))
    (λ i. let none : ◌≡◌ {A = Result Figure Refusal} (Err BadField) (Ok figure) = rw (f, g, h, i) at e in absurd cc))))

-- and what no kind tells is outside
told_none : (kind number : ℕ) (r : Refusal) → figure_told kind ≡ Err r → (r ≡ BadField) × (in_query kind number ≡ false)
told_none kind number r e =
    either (eqb kind 1) (λ t. let some : ◌≡◌ {A = Result Figure Refusal} (Ok Creditor) (Err r) = rw t at e in absurd cc)
    (λ f.
    either (eqb kind 2) (λ t. let some : ◌≡◌ {A = Result Figure Refusal} (Ok Debtor) (Err r) = rw (f, t) at e in absurd cc)
    (λ g.
    either (eqb kind 3) (λ t. let some : ◌≡◌ {A = Result Figure Refusal} (Ok Bank) (Err r) = rw (f, g, t) at e in absurd cc)
    (λ h.
    either (eqb kind 4) (λ t. let some : ◌≡◌ {A = Result Figure Refusal} (Ok Compensation) (Err r) = rw (f, g, h, t) at e in absurd cc)
    (λ i. let none : ◌≡◌ {A = Result Figure Refusal} (Err BadField) (Err r) = rw (f, g, h, i) at e in (cc, rw (f, g, h, i) refl)))))

module _ (l : Ledger) (kind number : ℕ) where
  made : (r : Result ℤ Refusal) → r ≡ query l kind number → Queried l kind number r
  made r e =
      let q = query_answers l kind number in
      record { answer_is = e; number_is = ap answer_number e ∙ q.number_is; figure_is = ap answered e ∙ q.figure_is }

  pub queried_unfit : fit l ≡ false → Queried l kind number (Err UnfitMemory)
  unfolding query
  queried_unfit e = made (Err UnfitMemory) (rw e)

  outside : fit l ≡ true → in_query kind number ≡ false → Queried l kind number (Err BadField)
  unfolding query
  outside e f = made (Err BadField) (rw (e, f))

  pub queried_unknown : (r : Refusal) → fit l ≡ true → figure_told kind ≡ Err r → Queried l kind number (Err r)
  queried_unknown r e f = let n = told_none kind number r f in rw n.0 (outside e n.1)

  module _ (figure : Figure) (e : fit l ≡ true) (told : figure_told kind ≡ Ok figure) where
    pub queried_outside : in_query (kind_of figure) number ≡ false → Queried l kind number (Err BadField)
    queried_outside f = outside e (ap (λ k. in_query k number) (told_kind kind figure told) ∙ f)

    pub queried_figure : (z : ℤ) → z ≡ figure_of l (kind_of figure) number → in_query (kind_of figure) number ≡ true → Queried l kind number (Ok z)
    unfolding query
    queried_figure z h f =
        let k = told_kind kind figure told in
        made (Ok z) (rw (e, ap (λ k. in_query k number) k ∙ f, k) (ap Ok h))
