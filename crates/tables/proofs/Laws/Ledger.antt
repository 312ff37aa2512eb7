-- Laws of specs/Ledger: a creditor's bank, by the creditor's number. Assumes nothing.
use mathlib.Core.Path.{◌≡◌, refl, sym, ◌∙◌, ap}
use mathlib.Core.Bool.{true, not}
use mathlib.Core.List.{List}
use mathlib.Core.Logic.{◌≢◌}
use Prim.Native.Nat.{ℕ, ◌-◌, ◌≤◌}
use borrow.Author.Tests.{eq-eqb, ne_eqb, eqb-true, eqb-false, ltb-true, ltb-false}
use lib.Dec.{eqb, ltb}
use lib.ListN.{length, get_or, set, get_or-eq_default}
use lib.Seq.{get_or-set_same, get_or-set_other, set_out}
use Rattle.common.proofs.Tests.{either, not_true}
use Rattle.tables.specs.declared.BookMut.{BookMut}
use Rattle.tables.specs.Ledger.{SameLoans, bank_of, added}

module _ (creditors : List ℕ) (number : ℕ) where
  pub bank_of_zero : number ≡ 0 → bank_of creditors number ≡ 0
  unfolding bank_of
  bank_of_zero e = rw (eq-eqb number 0 e)

  -- the entry of number k is entry k - 1
  pub bank_of_at : number ≢ 0 → bank_of creditors number ≡ get_or creditors (number - 1) 0
  unfolding bank_of
  bank_of_at ne = rw (ne_eqb number 0 ne)

  pub bank_of_past : number ≢ 0 → length creditors ≤ number - 1 → bank_of creditors number ≡ 0
  bank_of_past ne h = rw (bank_of_at ne) (get_or-eq_default creditors 0 h)

-- ---- added

module _ (creditors : List ℕ) (number : ℕ) where
  pub added_facts : added creditors number ≡ true → (number ≢ 0) × (get_or creditors (number - 1) 0 ≢ 0)
  added_facts e =
      let bank : bank_of creditors number ≢ 0 = eqb-false (bank_of creditors number) 0 (not_true e) in
      let ne : number ≢ 0 = λ z. bank (bank_of_zero creditors number z) in
      (ne, λ z. bank (bank_of_at creditors number ne ∙ z))

  pub added_made : number ≢ 0 → get_or creditors (number - 1) 0 ≢ 0 → added creditors number ≡ true
  added_made ne bank = ap not (ne_eqb (bank_of creditors number) 0 (λ z. bank (sym (bank_of_at creditors number ne) ∙ z)))

-- a creditor that is added stays so when any entry gets a bank
module _ (creditors : List ℕ) (i bank : ℕ) (b : bank ≢ 0) where
  entry_set : (j : ℕ) → get_or creditors j 0 ≢ 0 → get_or (set creditors i bank) j 0 ≢ 0
  entry_set j ne =
      either (eqb j i)
      (λ q.
      let p = eqb-true j i q in
      either (ltb i (length creditors))
      (λ h e. b (sym (get_or-set_same creditors i bank 0 (ltb-true i (length creditors) h)) ∙ rw p at e))
      (λ h e. ne (rw (set_out creditors i bank (ltb-false i (length creditors) h)) at e)))
      (λ q e. ne (sym (get_or-set_other creditors i j bank 0 (eqb-false j i q)) ∙ e))

  pub added_set : (number : ℕ) → added creditors number ≡ true → added (set creditors i bank) number ≡ true
  added_set number e =
      let was = added_facts creditors number e in
      added_made (set creditors i bank) number was.0 (entry_set (number - 1) was.1)

-- ---- the loans of a book, through several calls

pub same_loans : (a : BookMut) → SameLoans a a
same_loans a = record {
  mandates = refl;
  collections = refl;
  creditors = refl;
  creditor_positions = refl;
  debtor_positions = refl;
  bank_positions = refl;
}

pub loans_then : (a b c : BookMut) → SameLoans a b → SameLoans b c → SameLoans a c
loans_then a b c s t = record {
  mandates = t.mandates ∙ s.mandates;
  collections = t.collections ∙ s.collections;
  creditors = t.creditors ∙ s.creditors;
  creditor_positions = t.creditor_positions ∙ s.creditor_positions;
  debtor_positions = t.debtor_positions ∙ s.debtor_positions;
  bank_positions = t.bank_positions ∙ s.bank_positions;
}
