-- Laws of specs/Records: what a verdict on a collect says, and that answers and effects are the model's where the rows are those of
-- the numbers. To cite: `collected_refused`, `collected_done`; `creditor_beside`; `creditor_ruled`, `mandate_ruled`, `change_ruled`,
-- `collect_ruled`. Assumes nothing.
use Rattle.std.proofs.Common.{Err, None, Ok, Option, Result, Some, ℕ}
use mathlib.Core.Path.{◌≡◌, refl, sym, ap}
use mathlib.Core.Bool.{false, true}
use mathlib.Core.List.{List}
use Prim.Native.Nat.{ℕ, ◌≤◌}
use borrow.Author.Tests.{le-leb, lt-ltb}
use lib.Dec.{ltb}
use lib.IntN.{ℤ}
use lib.ListN.{length}
use Rattle.refusals.specs.declared.Refusal.{Refusal}
use Rattle.tables.specs.declared.Mandate.{Mandate}
use Rattle.tables.specs.declared.BookMut.{BookMut}
use Rattle.tables.specs.Ledger.{Ledger, ledger, ledger_in}
use Rattle.tables.specs.Lookup.{existing, lookup}
use Rattle.tables.proofs.Laws.Lookup.{lookup_at}
use Rattle.tables.specs.Rows.{rows, mandate_at, collection_at}
use Rattle.model.specs.declared.Action.TheVariants.{AddCreditor, AddMandate, ChangeMandate, Collect}
use Rattle.model.specs.declared.Change.{Change}
use Rattle.model.specs.declared.Presentation.{Presentation}
use Rattle.model.specs.Lookups.{is_known, in_row, mandate_of, collection_of}
use Rattle.calendar.specs.declared.CalendarDays.{CalendarDays}
use Rattle.model.specs.declared.HandedOn.{HandedOn}
use Rattle.model.specs.declared.HandedOn.TheVariants.{Nothing, Slid}
use Rattle.model.specs.Deadlines.{slid}
use Rattle.model.specs.Step.{verdict_by}
use Rattle.model.proofs.Laws.Handed.{verdict_go, verdict_refuse}
use Rattle.model.specs.Checks.{ruled}
use Rattle.model.specs.Effects.{effect, dated, keep_mandate, add_collection, presented_on, new_collection}
use Rattle.checking.specs.Calls.{is_found, used_row, found_row}
use Rattle.checking.proofs.Laws.Calls.{done_refused, done_accepted, AsRuled, done_same, done_beside, judged_passes}
use Rattle.records.specs.Records.{mandate_in, CreditorAdded, MandateAdded, change_checks, change_answer, change_effect, MandateChanged, collect_checks, collect_answer, collect_effect, Collected}

-- ---- the verdict on a collect

module _ (mandate collection : Option ℕ) (l : Ledger) (date : ℕ) (p : Presentation) where
  -- what a collect answers, by the verdict
  slid_by : (a b : Result Unit Refusal) → a ≡ b → verdict_by a (Slid (slid p.requested)) ≡ verdict_by b (Slid (slid p.requested))
  slid_by a b e = ap (λ (x : Result Unit Refusal). verdict_by x (Slid (slid p.requested))) e

  pub collected_refused : {A : Type 0} (a : A)
      (x : Refusal) (r : Result HandedOn Refusal) → verdict_by (collect_answer mandate collection l date p) a ≡ Err x
      → r ≡ Err x → Collected mandate collection l date p r l
  collected_refused a x r e f =
      rw f (done_refused _ l _ x (slid_by _ (Err x) (verdict_refuse (collect_answer mandate collection l date p) a x e)))

  pub collected_done :
      (v : Mandate × Presentation) (days : CalendarDays) (l' : Ledger)
      → verdict_by (collect_answer mandate collection l date p) (mandate_in mandate l, p) ≡ Ok v
      → days ≡ slid v.1.requested
      → l' ≡ add_collection (keep_mandate (dated l date) (found_row mandate) (presented_on v.1 v.0)) (new_collection l.creditors v.1 v.0)
      → Collected mandate collection l date p (Ok (Slid days)) l'
  collected_done v days l' e s f =
      let w = verdict_go (collect_answer mandate collection l date p) (mandate_in mandate l, p) v e in
      let q : days ≡ slid p.requested = rw w.1 at s in
      done_accepted _ _ _ (Slid days) l' (rw q (slid_by _ (Ok tt) w.0)) (rw w.1 at f)

-- ---- event 1, whatever tables there are besides the creditors

pub creditor_beside :
    (a b : BookMut) (date number bank : ℕ) (r : Result HandedOn Refusal) → CreditorAdded (ledger_in a) date number bank r (ledger_in b)
    → (m c : List ℕ) (cp dp bp : List ℤ)
    → CreditorAdded (ledger a.header m c a.creditors.now cp dp bp) date number bank r (ledger b.header m c b.creditors.now cp dp bp)
creditor_beside a b date number bank r d m c cp dp bp =
    done_beside
    (λ l. record l {
      mandates = m;
      collections = c;
      creditor_positions = cp;
      debtor_positions = dp;
      bank_positions = bp;
    })
    _ _ _ r _ d

-- ---- the model's answers and effects

is_known_row : {A : Type 0} (found : Option ℕ) (f : ℕ → A) → is_known (in_row found f) ≡ is_found found
is_known_row (Some row) f = refl
is_known_row None f = refl

is_known_mandate : (l : Ledger) (number : ℕ) → is_known (mandate_of l number) ≡ is_found (lookup l.mandates l.mandates_used number)
unfolding mandate_of
is_known_mandate l number = is_known_row (lookup l.mandates l.mandates_used number) (mandate_at l.mandates)

is_known_collection : (l : Ledger) (number : ℕ) → is_known (collection_of l number) ≡ is_found (lookup l.collections l.collections_used number)
unfolding collection_of
is_known_collection l number = is_known_row (lookup l.collections l.collections_used number) (collection_at l.collections)

module _ (l : Ledger) (date : ℕ) (r : Result HandedOn Refusal) (l' : Ledger) where
  pub creditor_ruled : (number bank : ℕ) → 1 ≤ number → number ≤ length l.creditors → CreditorAdded l date number bank r l' → AsRuled l date (AddCreditor number bank) r l'
  unfolding ruled effect
  creditor_ruled number bank h k d =
      done_same Nothing _ _ l _ _ r l' (rw (le-leb 1 number h, le-leb number (length l.creditors) k)) (λ _. refl) d

  pub mandate_ruled :
      (found : Option ℕ) (m : Mandate) → found ≡ lookup l.mandates l.mandates_used m.number
      → MandateAdded found l date m r l' → AsRuled l date (AddMandate m) r l'
  unfolding ruled effect
  mandate_ruled found m e d =
      done_same Nothing _ _ l _ _ r l' (rw (is_known_mandate l m.number, e)) (λ _. refl) d

-- a row that a lookup finds is a used one
found_used : (cells : List ℕ) (used number row : ℕ) → lookup cells used number ≡ Some row → used_row cells used (Some row) ≡ true
found_used cells used number row e = lt-ltb row (existing cells used) (lookup_at cells used number row e).existing_row

module _ (l : Ledger) (date number : ℕ) (c : Change) where
  change_answer_lem : (f : Option ℕ) → lookup l.mandates l.mandates_used number ≡ f → change_answer f l date c ≡ ruled l date (ChangeMandate number c)
  unfolding ruled mandate_of
  change_answer_lem None e = rw e
  change_answer_lem (Some row) e = rw (e, found_used l.mandates l.mandates_used number row e)

  change_effect_lem : (f : Option ℕ) → lookup l.mandates l.mandates_used number ≡ f → change_answer f l date c ≡ (Ok tt) → change_effect f l date c ≡ effect l date (ChangeMandate number c)
  unfolding effect
  change_effect_lem None e a =
      absurd (cc (judged_passes (change_checks l.latest date c false (mandate_in None l) l.creditors) refl a 1))
  change_effect_lem (Some row) e a = rw e

pub change_ruled :
    (l : Ledger) (date : ℕ) (r : Result HandedOn Refusal) (l' : Ledger) (found : Option ℕ) (number : ℕ) (c : Change)
    → found ≡ lookup l.mandates l.mandates_used number
    → MandateChanged found l date c r l' → AsRuled l date (ChangeMandate number c) r l'
change_ruled l date r l' found number c e d =
    done_same Nothing _ _ l _ _ r l' (change_answer_lem l date number c found (sym e)) (change_effect_lem l date number c found (sym e)) d

module _ (l : Ledger) (date : ℕ) (p : Presentation) where
  collect_answer_lem :
      (f g : Option ℕ) → lookup l.mandates l.mandates_used p.mandate ≡ f → g ≡ lookup l.collections l.collections_used p.collection
      → collect_answer f g l date p ≡ ruled l date (Collect p)
  unfolding ruled mandate_of
  collect_answer_lem None g e q = rw (e, is_known_collection l p.collection, q)
  collect_answer_lem (Some row) g e q = rw (e, is_known_collection l p.collection, q, found_used l.mandates l.mandates_used p.mandate row e)

  collect_effect_lem : (f g : Option ℕ) → lookup l.mandates l.mandates_used p.mandate ≡ f → collect_answer f g l date p ≡ (Ok tt) → collect_effect f l date p ≡ effect l date (Collect p)
  unfolding effect
  collect_effect_lem None g e a =
      absurd
      (cc (judged_passes (collect_checks l.latest date p false g (ltb l.collections_used (rows l.collections)) (mandate_in None l)) refl a 2))
  collect_effect_lem (Some row) g e a = rw e

pub collect_ruled :
    (l : Ledger) (date : ℕ) (r : Result HandedOn Refusal) (l' : Ledger) (mandate collection : Option ℕ) (p : Presentation)
    → mandate ≡ lookup l.mandates l.mandates_used p.mandate → collection ≡ lookup l.collections l.collections_used p.collection
    → Collected mandate collection l date p r l' → AsRuled l date (Collect p) r l'
collect_ruled l date r l' mandate collection p e q d =
    done_same (Slid (slid p.requested)) _ _ l _ _ r l' (collect_answer_lem l date p mandate collection (sym e) q) (collect_effect_lem l date p mandate collection (sym e)) d
