-- Laws of specs/Calls: an action that is refused leaves the ledger, one that is accepted has its effect and passed every test.
-- To cite: `done_refused`, `done_accepted`, `AsRuled`, `after_verdict`, `done_same`, `done_beside`, `judged_passes`, `judged_then`. Assumes nothing.
use Rattle.std.proofs.Common.{Err, Ok, Result}
use Rattle.std.specs.Result.{is_err}
use mathlib.Core.Bool.{Bool, true, false, cond}
use mathlib.Core.List.{List, [], ◌∷◌, ◌++◌}
use Rattle.common.specs.Checks.{Check, judged}
use Rattle.common.proofs.Tests.{and_halves}
use mathlib.Core.Path.{◌≡◌, refl, sym, ◌∙◌, ap}
pub use Rattle.common.proofs.Checks.{judged_passes}
use Rattle.common.proofs.Checks.{all_refuse}
use Rattle.refusals.specs.declared.Refusal.{Refusal}
use Rattle.tables.specs.Ledger.{Ledger}
use Rattle.model.specs.declared.Action.{Action}
use Rattle.model.specs.declared.HandedOn.{HandedOn}
use Rattle.model.specs.Checks.{ruled}
use Rattle.model.specs.Effects.{effect}
use Rattle.model.specs.Step.{after_answer, then_ruled, handed_on, verdict_by}
use Prim.Native.Nat.{ℕ}
use Rattle.checking.specs.Calls.{Done}

module _ {A : Type 0} (answer : Result A Refusal) (l changed : Ledger) where
  pub done_refused : (r : Refusal) → answer ≡ Err r → Done answer l changed (Err r) l
  done_refused r e = record { answer_is = sym e; after_is = rw e }

  pub done_accepted : (x : A) (l' : Ledger) → answer ≡ Ok x → l' ≡ changed → Done answer l changed (Ok x) l'
  done_accepted x l' e s = record { answer_is = sym e; after_is = rw e s }

-- an action by the rules: the answer, what it hands on, and the ledger after it
abbrev pub AsRuled : Ledger → ℕ → Action → Result HandedOn Refusal → Ledger → Type 0
AsRuled l date a r l' = Done (verdict_by (ruled l date a) (handed_on a)) l (effect l date a) r l'

-- an answer with a value leaves what it leaves without
pub after_verdict : {A : Type 0} (answer : Result Unit Refusal) (x : A) (changed l : Ledger) → after_answer (verdict_by answer x) changed l ≡ after_answer answer changed l
after_verdict (Ok tt) x changed l = refl
after_verdict (Err r) x changed l = refl

-- another wording of the answer, and of the effect where it is accepted
pub done_same :
    {A : Type 0} (x : A) (answer answer' : Result Unit Refusal) (l changed changed' : Ledger) (r : Result A Refusal) (l' : Ledger)
    → answer ≡ answer' → (answer ≡ (Ok tt) → changed ≡ changed')
    → Done (verdict_by answer x) l changed r l' → Done (verdict_by answer' x) l changed' r l'
done_same x answer answer' l changed changed' r l' e f d = record {
  answer_is = d.answer_is ∙ ap (λ (a : Result Unit Refusal). verdict_by a x) e;
  after_is =
      d.after_is ∙ after_verdict answer x changed l ∙ by_answer answer refl
      ∙ ap (λ (a : Result Unit Refusal). after_answer a changed' l) e ∙ sym (after_verdict answer' x changed' l);
}
  where
    by_answer : (a : Result Unit Refusal) → answer ≡ a → after_answer answer changed l ≡ after_answer answer changed' l
    by_answer (Ok tt) q = rw q (f q)
    by_answer (Err x) q = rw q

-- the same with other tables in every ledger, which no test reads and no effect changes
pub done_beside :
    {A : Type 0} (other : Ledger → Ledger) (answer : Result A Refusal) (l changed : Ledger) (r : Result A Refusal) (l' : Ledger)
    → Done answer l changed r l' → Done answer (other l) (other changed) r (other l')
done_beside {A = A} other answer l changed r l' d = record {
  answer_is = d.answer_is;
  after_is = ap other d.after_is ∙ by_answer answer;
}
  where
    by_answer : (a : Result A Refusal) → other (after_answer a changed l) ≡ after_answer a (other changed) (other l)
    by_answer (Ok x) = refl
    by_answer (Err x) = refl

-- two lists after one another: the second is looked at where the first refuses nothing
pub judged_then : (cs ds : List (Check (Result Unit Refusal))) → all_refuse cs ≡ true → judged (cs ++ ds) (Ok tt) ≡ then_ruled (judged cs (Ok tt)) (judged ds (Ok tt))
judged_then [] ds n = refl
judged_then (c ∷ cs) ds n =
    let h = and_halves (is_err c.failing) n in
    by_test c.passes c.failing h.0 (judged_then cs ds h.1)
  where
    by_test : (b : Bool) (f : Result Unit Refusal) → is_err f ≡ true → judged (cs ++ ds) (Ok tt) ≡ then_ruled (judged cs (Ok tt)) (judged ds (Ok tt))
        → cond b (judged (cs ++ ds) (Ok tt)) f ≡ then_ruled (cond b (judged cs (Ok tt)) f) (judged ds (Ok tt))
    by_test true f r e = e
    by_test false (Err x) r e = refl
    by_test false (Ok tt) r e = absurd cc
