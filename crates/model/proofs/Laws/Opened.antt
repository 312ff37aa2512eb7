-- What the answer to an opening says of the tables. To cite: `was_opened` (accepted), `was_refused`. Assumes nothing.
use Rattle.std.proofs.Common.{Err, Ok, Result}
use mathlib.Core.Path.{◌≡◌, sym, ap, ◌∙◌}
use mathlib.Core.Bool.{true, false}
use Prim.Native.Nat.{ℕ}
use native.Mathlib.Omega.{arith}
use Rattle.common.proofs.Tests.{either}
use Rattle.refusals.specs.declared.Refusal.{Refusal}
use Rattle.refusals.specs.Refusals.{answer_number}
use Rattle.refusals.proofs.Laws.Refusals.{number_of_pos}
use Rattle.tables.specs.Ledger.{Ledger}
use Rattle.fitness.specs.Fitness.{sizes_fit}
use Rattle.opening.specs.Opening.{OpenResult, open_result, fresh, opened, opening}
use Rattle.opening.proofs.Laws.Opening.{opening_done, opening_refused, opened_done}
use Rattle.model.specs.Bounds.{Safe}
use Rattle.model.proofs.Laws.Batch.{opened_safe}

module _ (l l' : Ledger) (a : Result Unit Refusal) (e : open_result (answer_number a) l' ≡ opening l) where
  pub record WasOpened : Type 0 where
    pub sizes : sizes_fit l ≡ true
    pub is : l' ≡ opened l
    pub safe : Safe l'

  pub record WasRefused : Type 0 where
    pub sizes : sizes_fit l ≡ false
    pub number : answer_number a ≡ 2
    pub is : l' ≡ l

  parts : (n : ℕ) (m : Ledger) → opening l ≡ open_result n m → (answer_number a ≡ n) × (l' ≡ m)
  parts n m o = (ap (λ (x : OpenResult). x.number) (e ∙ o), ap (λ (x : OpenResult). x.after) (e ∙ o))

  pub was_opened : a ≡ (Ok tt) → WasOpened
  was_opened o =
      let n = ap answer_number o in
      either (sizes_fit l)
      (λ z.
      let i = (parts 0 (fresh l) (opening_done l z)).1 ∙ sym (opened_done l z) in
      record { sizes = z; is = i; safe = rw i (opened_safe l z) })
      (λ z. let p = parts 2 l (opening_refused l z) in absurd (omega arith))

  pub was_refused : (r : Refusal) → a ≡ Err r → WasRefused
  was_refused r o =
      let n = ap answer_number o in
      let h = number_of_pos r in
      either (sizes_fit l)
      (λ z. let p = parts 0 (fresh l) (opening_done l z) in absurd (omega arith))
      (λ z. let p = parts 2 l (opening_refused l z) in record { sizes = z; number = p.0; is = p.1 })
