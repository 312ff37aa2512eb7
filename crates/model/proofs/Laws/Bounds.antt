-- The positions stay within what the collections have moved, and the sums stay zero.
-- To cite: `days_in_time`, `larger_sizes`, `entries_within`, `Balanced`, `Posting` with `settle_posting` and `undo_posting`, `bounded_posted`,
-- `balanced_posted`. Assumes nothing.
use mathlib.Core.Path.{◌≡◌, refl, sym, ◌∙◌}
use mathlib.Core.Bool.{true}
use mathlib.Core.List.{List}
use Prim.Native.Nat.{ℕ, zero, suc, ◌+◌, ◌≤◌, ◌<◌}
use native.Mathlib.Omega.{arith}
use lib.IntN.{ℤ, pos, neg_ℤ, nat_abs, ◌+ℤ◌, neg_ℤ-neg_ℤ}
use borrow.Author.Tests.{ltb-true, ltb-false}
use lib.Dec.{ltb}
use lib.ListN.{length, get_or, get_or-eq_default}
use Rattle.common.proofs.Tests.{either}
use Rattle.calendar.specs.Gregorian.{is_date, in_range}
use Rattle.calendar.proofs.Laws.DayNumber.{day_number_mono_le}
use Rattle.positions.specs.declared.Postings.{Postings}
use Rattle.positions.specs.Positions.{HasEntry, position, posted, transferred, total, InLimit}
use Rattle.positions.specs.Postings.{settlement, reversed, refunded}
use Rattle.positions.specs.Compensation.{compensation as compensationFor, amount_limit, days_limit}
use Rattle.positions.specs.Limits.{compensation_limit}
use Rattle.positions.proofs.Laws.Positions.{size_posted, size_transferred}
use Rattle.positions.proofs.Laws.Postings.{party_sum, bank_sum, AtMost, settlement_size, reversed_size, refunded_size, settlement_parties, reversed_parties, refunded_parties, settlement_banks, reversed_banks, refunded_banks, parties_keep, banks_keep}
use Rattle.positions.proofs.Laws.Limits.{refund_days, compensation_bound}
use Rattle.tables.specs.Ledger.{Ledger}
use Rattle.tables.specs.declared.Collection.{Collection}
use Rattle.model.specs.declared.Way.{Way}
use Rattle.model.specs.declared.Way.TheVariants.{ByReturn, ByRefund, ByReversal}
use Rattle.model.specs.Deadlines.{last_day, in_time, days_since}
use Rattle.model.specs.Bounds.{spent, Bounded}
use Rattle.model.specs.Effects.{dated, keep_collection, with_postings, undone}
use Rattle.model.proofs.Laws.Sound.{SoundWay}
use Rattle.model.proofs.Laws.Limits.{at_most_limit, longest_way, last_day_found}

-- ---- the days of an undoing in time

-- so the calendar days of an undoing in time are few
pub days_in_time : (way : Way) (settled date : ℕ) → in_range settled ≡ true → is_date date ≡ true → in_time way settled date ≡ true → days_since settled date ≤ refund_days
days_in_time way settled date rs d h =
    let e = last_day_found way settled rs in
    let l = at_most_limit date e.date (last_day way settled) e.is h in
    let m = day_number_mono_le date e.date d e.is_date_lem l in
    omega (arith, longest_way way, e.near)

-- ---- what an event posts

-- amounts of at most m that cancel out
pub record Posting (m : ℕ) (p : Postings) : Type 0 where
  pub sizes : AtMost m p
  pub opposite : p.dbank ≡ neg_ℤ p.cbank
  pub parties : party_sum p ≡ pos 0
  pub banks : bank_sum p ≡ pos 0
  pub cents : ℕ
  pub paid : p.compensation ≡ pos cents
  pub cents_le : cents ≤ m

pub settle_posting : (A : ℕ) → Posting A (settlement A)
settle_posting A =
    record {
      sizes = settlement_size A;
      opposite = refl;
      parties = settlement_parties A;
      banks = settlement_banks A;
      cents = 0;
      paid = refl;
      cents_le = omega arith;
    }

reversed_posting : (A : ℕ) → Posting A (reversed A)
reversed_posting A =
    record {
      sizes = reversed_size A;
      opposite = refl;
      parties = reversed_parties A;
      banks = reversed_banks A;
      cents = 0;
      paid = refl;
      cents_le = omega arith;
    }

refunded_posting : (A K : ℕ) → Posting (A + K) (refunded A K)
refunded_posting A K =
    record {
      sizes = refunded_size A K;
      opposite = sym (neg_ℤ-neg_ℤ (pos (A + K)));
      parties = refunded_parties A K;
      banks = refunded_banks A K;
      cents = K;
      paid = refl;
      cents_le = omega arith;
    }

pub larger_sizes : {m n : ℕ} {p : Postings} → m ≤ n → AtMost m p → AtMost n p
larger_sizes {m} {n} {p} h a =
    record {
      debtor = omega (arith, a.debtor);
      creditor = omega (arith, a.creditor);
      dbank = omega (arith, a.dbank);
      cbank = omega (arith, a.cbank);
      compensation = omega (arith, a.compensation);
    }

pub larger : {m n : ℕ} {p : Postings} → m ≤ n → Posting m p → Posting n p
larger {m} {n} {p} h q =
    record {
      sizes = larger_sizes h q.sizes;
      opposite = q.opposite;
      parties = q.parties;
      banks = q.banks;
      cents = q.cents;
      paid = q.paid;
      cents_le = omega (arith, q.cents_le);
    }

-- an undoing in time posts at most the amount and the largest compensation
pub undo_posting : (way : Way) (A settled date : ℕ) → SoundWay way → A ≤ amount_limit → days_since settled date ≤ days_limit → Posting (amount_limit + compensation_limit) (undone way A settled date)
undo_posting ByReturn A settled date s a d = larger (omega arith) (reversed_posting A)
undo_posting (ByRefund rate authorisation) A settled date s a d =
    let k = compensation_bound date A rate (days_since settled date) a s d in
    larger (omega arith) (refunded_posting A (compensationFor date A rate (days_since settled date)))
undo_posting ByReversal A settled date s a d = larger (omega arith) (reversed_posting A)

-- ---- bounds

-- a table whose entries are within a limit
pub entries_within : (m : ℕ) (table : List ℤ) → ((i : ℕ) → i < length table → nat_abs (get_or table i (pos 0)) ≤ m) → InLimit m table
unfolding position
entries_within m table f zero = omega arith
entries_within m table f (suc i) =
    either (ltb i (length table))
    (λ e. f i (ltb-true i (length table) e))
    (λ e. rw (get_or-eq_default table (pos 0) (ltb-false i (length table) e)) (omega arith))

pub record Balanced (l : Ledger) : Type 0 where
  pub parties : total l.creditor_positions +ℤ total l.debtor_positions +ℤ l.compensation ≡ pos 0
  pub banks : total l.bank_positions ≡ pos 0

-- a position after a posting, and after the two postings to the banks
module _ (table : List ℤ) (bound m after : ℕ) (b : (n : ℕ) → nat_abs (position table n) ≤ bound) (s : bound + m ≤ after) where
  posted_bound : (k : ℕ) (x : ℤ) → nat_abs x ≤ m → (n : ℕ) → nat_abs (position (posted table k x) n) ≤ after
  posted_bound k x h n = omega (arith, size_posted table k n x, b n)

  banks_bound : (from to : ℕ) (x y : ℤ) → x ≡ neg_ℤ y → nat_abs y ≤ m → (n : ℕ) → nat_abs (position (posted (posted table from x) to y) n) ≤ after
  unfolding transferred
  banks_bound from to x y e h n = rw e (omega (arith, size_transferred table from to n y, b n))

-- a collection has moved m more
module _ (l : Ledger) (date row : ℕ) (k' k : Collection) (p : Postings) (m : ℕ) (q : Posting m p) where
  pub bounded_posted : Bounded l → spent l + m ≤ spent (with_postings (keep_collection (dated l date) row k') k p) → Bounded (with_postings (keep_collection (dated l date) row k') k p)
  bounded_posted b s =
      let after = spent (with_postings (keep_collection (dated l date) row k') k p) in
      record {
        creditors = posted_bound l.creditor_positions (spent l) m after b.creditors s k.creditor p.creditor q.sizes.creditor;
        debtors = posted_bound l.debtor_positions (spent l) m after b.debtors s k.debtor p.debtor q.sizes.debtor;
        banks = banks_bound l.bank_positions (spent l) m after b.banks s k.dbank k.cbank p.dbank p.cbank q.opposite q.sizes.cbank;
        cents = b.cents + q.cents;
        paid = rw (b.paid, q.paid);
        cents_le = omega (arith, b.cents_le, q.cents_le);
      }

  -- ---- the sums

  pub balanced_posted : Balanced l → HasEntry l.creditor_positions k.creditor → HasEntry l.debtor_positions k.debtor → HasEntry l.bank_positions k.dbank → HasEntry l.bank_positions k.cbank → Balanced (with_postings (keep_collection (dated l date) row k') k p)
  balanced_posted b ec ed edb ecb =
      record {
        parties =
            parties_keep l.creditor_positions l.debtor_positions l.compensation k.creditor k.debtor p ec ed q.parties
            ∙ b.parties;
        banks = banks_keep l.bank_positions k.dbank k.cbank p edb ecb q.banks ∙ b.banks;
      }
