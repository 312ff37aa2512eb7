-- What an event of money posts. Document 01, "Postings"; A is the amount of the collection and K the compensation.
-- The effect on the tables takes these amounts; the journal has its own words. Assumes nothing.
use Rattle.std.specs.Prelude.{ℕ, ◌+◌, pos, neg_ℤ}
use Rattle.positions.specs.declared.Postings.{Postings}

abbrev pub settlement : ℕ → Postings
settlement A = record {
  debtor = neg_ℤ (pos A);
  creditor = pos A;
  dbank = neg_ℤ (pos A);
  cbank = pos A;
  compensation = pos 0;
}

-- each amount with the other sign
abbrev pub opposite : Postings → Postings
opposite p = record {
  debtor = neg_ℤ p.debtor;
  creditor = neg_ℤ p.creditor;
  dbank = neg_ℤ p.dbank;
  cbank = neg_ℤ p.cbank;
  compensation = neg_ℤ p.compensation;
}

-- of a return and of a reversal
abbrev pub reversed : ℕ → Postings
reversed A = opposite (settlement A)

abbrev pub refunded : ℕ → ℕ → Postings
refunded A K = record {
  debtor = pos A;
  creditor = neg_ℤ (pos (A + K));
  dbank = pos (A + K);
  cbank = neg_ℤ (pos (A + K));
  compensation = pos K;
}
