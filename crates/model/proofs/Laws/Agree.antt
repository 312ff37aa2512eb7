-- Laws of `Agrees` of specs/Promises: a ledger and a journal that agree. To cite: `figures_made` (from the four tables of positions),
-- `unmoved`, `noted_mandate`, `NotedAs` with `noted_collection_lem` (what is known is noted), `same_cond`. Assumes nothing.
use mathlib.Core.Path.{◌≡◌, refl, sym, ap, ◌∙◌}
use mathlib.Core.Bool.{Bool, true, false, cond}
use Prim.Native.Nat.{ℕ}
use lib.Dec.{eqb}
use lib.IntN.{ℤ, pos, ◌+ℤ◌, +ℤ_idr}
use Rattle.common.proofs.Tests.{same_arms}
use Rattle.positions.specs.Positions.{position}
use Rattle.tables.specs.Ledger.{Ledger}
use Rattle.tables.specs.declared.Mandate.{Mandate}
use Rattle.tables.specs.declared.Collection.{Collection}
use Rattle.model.specs.Lookups.{Known, mandate_of, collection_of}
use Rattle.model.specs.Lookups.Known.{unknown, known}
use Rattle.model.specs.Step.{figure_of}
use Rattle.model.specs.Journal.{Journal, NotedCollection, empty, figure_in}
use Rattle.model.specs.Noted.{noted_of, noted_known, SameCollection, SameKnown}
use Rattle.model.specs.Promises.{Agrees}

-- ---- figures

-- four sums, of which the kind of a query picks one
picked_sum :
    (one two three : Bool) (a b c d a₀ b₀ c₀ d₀ a₁ b₁ c₁ d₁ : ℤ)
    → a ≡ a₀ +ℤ a₁ → b ≡ b₀ +ℤ b₁ → c ≡ c₀ +ℤ c₁ → d ≡ d₀ +ℤ d₁
    → cond one a (cond two b (cond three c d)) ≡ cond one a₀ (cond two b₀ (cond three c₀ d₀)) +ℤ cond one a₁ (cond two b₁ (cond three c₁ d₁))
picked_sum true two three a b c d a₀ b₀ c₀ d₀ a₁ b₁ c₁ d₁ p q r s = p
picked_sum false true three a b c d a₀ b₀ c₀ d₀ a₁ b₁ c₁ d₁ p q r s = q
picked_sum false false true a b c d a₀ b₀ c₀ d₀ a₁ b₁ c₁ d₁ p q r s = r
picked_sum false false false a b c d a₀ b₀ c₀ d₀ a₁ b₁ c₁ d₁ p q r s = s

pub figures_made :
    (base l : Ledger) (j : Journal)
    → ((n : ℕ) → position l.creditor_positions n ≡ position base.creditor_positions n +ℤ j.creditor_figure n)
    → ((n : ℕ) → position l.debtor_positions n ≡ position base.debtor_positions n +ℤ j.debtor_figure n)
    → ((n : ℕ) → position l.bank_positions n ≡ position base.bank_positions n +ℤ j.bank_figure n)
    → l.compensation ≡ base.compensation +ℤ j.compensation
    → (kind number : ℕ) → figure_of l kind number ≡ figure_of base kind number +ℤ figure_in j kind number
figures_made base l j creditors debtors banks paid kind number =
    picked_sum (eqb kind 1) (eqb kind 2) (eqb kind 3) _ _ _ _ _ _ _ _ _ _ _ _ (creditors number) (debtors number) (banks number) paid

-- nothing was posted yet
pub unmoved : (l : Ledger) (kind number : ℕ) → figure_of l kind number ≡ figure_of l kind number +ℤ figure_in empty kind number
unmoved l kind number = rw (same_arms (eqb kind 3) (pos 0), same_arms (eqb kind 2) (pos 0), same_arms (eqb kind 1) (pos 0)) (sym (+ℤ_idr (figure_of l kind number)))

-- ---- what is known is noted

pub record NotedAs (k : Collection) (y : Known NotedCollection) : Type 0 where
  pub value : NotedCollection
  pub is : y ≡ known value
  pub same : SameCollection k value

noted_as : (k : Collection) (y : Known NotedCollection) → SameKnown (known k) y → NotedAs k y
noted_as k unknown s = absurd s
noted_as k (known x) s = record { value = x; is = refl; same = s }

module _ (base l : Ledger) (j : Journal) (g : Agrees base l j) (n : ℕ) where
  pub noted_mandate : (m : Mandate) → mandate_of l n ≡ known m → j.mandates n ≡ known (noted_of m)
  noted_mandate m e = sym (g.mandates n) ∙ ap noted_known e

  pub noted_collection_lem : (k : Collection) → collection_of l n ≡ known k → NotedAs k (j.collections n)
  noted_collection_lem k e = noted_as k (j.collections n) (rw e at (g.collections n))

-- one entry anew
pub same_cond : (b : Bool) (k : Collection) (n : NotedCollection) (x : Known Collection) (y : Known NotedCollection) → SameCollection k n → SameKnown x y → SameKnown (cond b (known k) x) (cond b (known n) y)
same_cond true k n x y s r = s
same_cond false k n x y s r = r
