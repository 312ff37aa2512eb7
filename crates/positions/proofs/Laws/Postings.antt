-- Laws of specs/Postings: the two sums of each event are zero, and so the sums of the tables stay.
-- Names: settlement-, reversed- and refunded- speak of an event; parties-keep and banks-keep of tables posted to.
-- Assumes nothing.
use Rattle.std.proofs.lemmas.Int.{ints}
use mathlib.Core.Path.{◌≡◌, sym, ◌∙◌, ap}
use mathlib.Core.List.{List}
use Prim.Native.Nat.{ℕ, ◌+◌, ◌≤◌}
use native.Mathlib.Omega.{arith}
use lib.IntN.{ℤ, pos, neg_ℤ, nat_abs, ◌+ℤ◌, +ℤ_invr, +ℤ_invl, neg_ℤ-neg_ℤ}
use Rattle.positions.specs.declared.Postings.{Postings}
use Rattle.positions.specs.Positions.{HasEntry, posted, transferred, total}
use Rattle.positions.specs.Postings.{settlement, opposite, reversed, refunded}
use Rattle.positions.proofs.Laws.Positions.{entry_posted, total_posted, transferred_posted, posted_transferred}

-- ---- the two sums of an event, both zero

abbrev pub party_sum : Postings → ℤ
party_sum p = p.debtor +ℤ p.creditor +ℤ p.compensation

abbrev pub bank_sum : Postings → ℤ
bank_sum p = p.dbank +ℤ p.cbank

-- ---- settlement

pub settlement_parties : (A : ℕ) → party_sum (settlement A) ≡ pos 0
settlement_parties A = omega (arith, ints)

pub settlement_banks : (A : ℕ) → bank_sum (settlement A) ≡ pos 0
settlement_banks A = +ℤ_invl (pos A)

-- ---- opposite

pub opposite_parties : (p : Postings) → party_sum p ≡ pos 0 → party_sum (opposite p) ≡ pos 0
opposite_parties p e = omega (arith, ints)

pub opposite_banks : (p : Postings) → bank_sum p ≡ pos 0 → bank_sum (opposite p) ≡ pos 0
opposite_banks p e = omega (arith, ints)

-- ---- reversed

pub reversed_parties : (A : ℕ) → party_sum (reversed A) ≡ pos 0
reversed_parties A = opposite_parties (settlement A) (settlement_parties A)

pub reversed_banks : (A : ℕ) → bank_sum (reversed A) ≡ pos 0
reversed_banks A = opposite_banks (settlement A) (settlement_banks A)

-- ---- refunded

pub refunded_parties : (A K : ℕ) → party_sum (refunded A K) ≡ pos 0
refunded_parties A K = omega (arith, ints)

pub refunded_banks : (A K : ℕ) → bank_sum (refunded A K) ≡ pos 0
refunded_banks A K = +ℤ_invr (pos (A + K))

-- ---- the tables after an event whose sums are zero

-- creditors, debtors and total compensation
pub parties_keep :
    (creditors debtors : List ℤ) (compensation : ℤ) (c d : ℕ) (p : Postings) → HasEntry creditors c → HasEntry debtors d
    → party_sum p ≡ pos 0
    → total (posted creditors c p.creditor) +ℤ total (posted debtors d p.debtor) +ℤ (compensation +ℤ p.compensation)
    ≡ total creditors +ℤ total debtors +ℤ compensation
parties_keep creditors debtors compensation c d p hc hd e =
    rw (total_posted creditors c p.creditor hc, total_posted debtors d p.debtor hd) (omega (arith, ints))

-- the banks, equal ones too
pub banks_keep :
    (banks : List ℤ) (d c : ℕ) (p : Postings) → HasEntry banks d → HasEntry banks c → bank_sum p ≡ pos 0
    → total (posted (posted banks d p.dbank) c p.cbank) ≡ total banks
banks_keep banks d c p hd hc e =
    rw (total_posted (posted banks d p.dbank) c p.cbank (entry_posted banks d c p.dbank hc), total_posted banks d p.dbank hd) (omega (arith, ints))

-- ---- the two postings to the banks are one transfer

-- from the debtor's bank to the creditor's
pub settlement_transfer :
    (banks : List ℤ) (d c A : ℕ)
    → posted (posted banks d (settlement A).dbank) c (settlement A).cbank ≡ transferred banks d c (pos A)
settlement_transfer banks d c A = sym (transferred_posted banks d c (pos A))

-- from the creditor's bank to the debtor's
pub reversed_transfer :
    (banks : List ℤ) (d c A : ℕ)
    → posted (posted banks d (reversed A).dbank) c (reversed A).cbank ≡ transferred banks c d (pos A)
reversed_transfer banks d c A =
    ap (λ (z : ℤ). posted (posted banks d z) c (neg_ℤ (pos A))) (neg_ℤ-neg_ℤ (pos A)) ∙ posted_transferred banks c d (pos A)

pub refunded_transfer :
    (banks : List ℤ) (d c A K : ℕ)
    → posted (posted banks d (refunded A K).dbank) c (refunded A K).cbank ≡ transferred banks c d (pos (A + K))
refunded_transfer banks d c A K = posted_transferred banks c d (pos (A + K))

-- ---- how large the amounts are

-- no amount of p is larger than m
pub record AtMost (m : ℕ) (p : Postings) : Type 0 where
  pub debtor : nat_abs p.debtor ≤ m
  pub creditor : nat_abs p.creditor ≤ m
  pub dbank : nat_abs p.dbank ≤ m
  pub cbank : nat_abs p.cbank ≤ m
  pub compensation : nat_abs p.compensation ≤ m

pub opposite_size : (m : ℕ) (p : Postings) → AtMost m p → AtMost m (opposite p)
opposite_size m p h = record {
  debtor = omega (arith, ints, h.debtor);
  creditor = omega (arith, ints, h.creditor);
  dbank = omega (arith, ints, h.dbank);
  cbank = omega (arith, ints, h.cbank);
  compensation = omega (arith, ints, h.compensation);
}

pub settlement_size : (A : ℕ) → AtMost A (settlement A)
settlement_size A = record {
  debtor = omega (arith, ints);
  creditor = omega arith;
  dbank = omega (arith, ints);
  cbank = omega arith;
  compensation = omega arith;
}

pub reversed_size : (A : ℕ) → AtMost A (reversed A)
reversed_size A = opposite_size A (settlement A) (settlement_size A)

pub refunded_size : (A K : ℕ) → AtMost (A + K) (refunded A K)
refunded_size A K = record {
  debtor = omega arith;
  creditor = omega (arith, ints);
  dbank = omega arith;
  cbank = omega (arith, ints);
  compensation = omega arith;
}
