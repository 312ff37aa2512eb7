-- Laws of specs/Fitness. Each part of fitness has a record of named facts: F-facts reads it out of the test, F-made makes
-- the test of it. To cite: `Fit`, `Sizes`, `HeaderFit`, `MandateFit`, `CollectionFit`, `CreditorFit`; `rows_fit_put_used`
-- and `rows_fit_put_next` (a fit table with a fit row put in it is fit), `rows_fit_implies`, `rows_fit_all`, and what an event may change:
-- `mandate_fit_added`, `collection_fit_added`, `collection_fit_later`, `creditors_fit_added`, `creditors_fit_posted`,
-- `positions_fit_posted`. Assumes nothing.
use mathlib.Core.Path.{◌≡◌, refl, ◌∙◌, ap}
use mathlib.Core.Bool.{Bool, true, false, ◌&&◌, ◌||◌}
use mathlib.Core.List.{List, [], ◌∷◌}
use mathlib.Core.Logic.{◌≢◌, ⊎_elim}
use Prim.Native.Nat.{ℕ, zero, suc, ◌+◌, ◌-◌, ◌%◌, ◌≤◌, ◌<◌}
use native.Mathlib.Omega.{arith}
use borrow.Author.Tests.{leb-true, le-leb, eqb-true, eqb-false, eq-eqb, ltb-true, ltb-false}
use lib.Dec.{eqb, leb, ltb}
use lib.IntN.{ℤ, pos, nat_abs}
use lib.ListN.{length, get_or, set, length-set}
use lib.Seq.{get_or-set_same, get_or-set_other}
use Rattle.std.proofs.Common.{map}
use Rattle.std.specs.List.{list_all, range_with_len}
use Rattle.std.proofs.lemmas.List.Folds.{list_all-map}
use Rattle.common.specs.Tests.{all_of}
use Rattle.common.specs.Walk.{all_from}
use Rattle.std.proofs.lemmas.Bool.{or_cases, or_right}
use Rattle.std.proofs.lemmas.Int.{ints}
use Rattle.common.proofs.Tests.{either, and_halves, and_true, all_of_at}
use Rattle.common.proofs.Made.{all_of_made, all_of_set}
use Rattle.common.proofs.Walk.{all_from_at, all_from_made, all_of_range}
use Rattle.calendar.specs.Gregorian.{in_range}
use Rattle.tables.specs.declared.Mandate.{Mandate}
use Rattle.tables.specs.declared.Standing.{Standing}
use Rattle.tables.specs.declared.Standing.TheVariants.{Live, Closed, Cancelled}
use Rattle.tables.specs.declared.Collection.{Collection}
use Rattle.tables.specs.declared.State.{State}
use Rattle.tables.specs.declared.State.TheVariants.{Presented, Rejected, Settled, Undone}
use Rattle.tables.specs.declared.Undoing.TheVariants.{Return, Refund, Reversal}
use Rattle.tables.specs.Limits.{creditor_count, debtor_count, bank_count, number_limit, amount_limit, mandate_row_limit, collection_row_limit, stride, position_limit}
use Rattle.tables.specs.MandateColumn
use Rattle.tables.specs.CollectionColumn
use Rattle.tables.specs.Records.{standing_tag, flag_cell, mandate_cells, mandate_from, state_tag, state_day, state_of, collection_cells, collection_from}
use Rattle.tables.specs.Rows.{rows, row_at, put_row, mandate_at, put_mandate, collection_at, put_collection}
use Rattle.tables.specs.Lookup.{existing}
use Rattle.tables.specs.Ledger.{Ledger, bank_of, added}
use Rattle.fitness.specs.Fitness.{is_from_to, none_or_date, position_fit, compensation_fit, is_zero, row_count_fit, size_tests, sizes_of, sizes_fit, header_tests, header_of, header_fit, row_fit, rows_fit, mandate_tests, mandate_fit, day_fit, collection_tests, collection_fit, creditor_tests, creditor_fit, creditor_fit_at, creditors_fit, position_fit_at, positions_fit, content_tests, fit}
use Rattle.tables.proofs.Laws.Rows.{row_at_put_same, row_at_put_other}
use Rattle.tables.proofs.Laws.Lookup.{existing_fit}
use Rattle.tables.proofs.Laws.Ledger.{bank_of_zero, bank_of_at, bank_of_past, added_set}

-- ---- limits of one value

pub record Within (low high x : ℕ) : Type 0 where
  pub from : low ≤ x
  pub to : x ≤ high

pub within_facts : (low high x : ℕ) → is_from_to low high x ≡ true → Within low high x
within_facts low high x e =
    let p = and_halves (leb low x) e in
    record { from = leb-true low x p.0; to = leb-true x high p.1 }

pub within_made : (low high x : ℕ) → Within low high x → is_from_to low high x ≡ true
within_made low high x w = and_true (le-leb low x w.from) (le-leb x high w.to)

-- a position lies within the limit on either side
pub position_facts : (z : ℤ) → position_fit z ≡ true → nat_abs z ≤ position_limit
position_facts z e = grind (arith, ints)

pub position_made : (z : ℤ) → nat_abs z ≤ position_limit → position_fit z ≡ true
position_made z h = grind (arith, ints)

-- the compensation is a number of cents
pub record Compensation (z : ℤ) : Type 0 where
  pub cents : pos (nat_abs z) ≡ z
  pub to : nat_abs z ≤ position_limit

pub compensation_facts : (z : ℤ) → compensation_fit z ≡ true → Compensation z
compensation_facts z e = record { cents = grind (arith, ints); to = grind (arith, ints) }

pub compensation_made : (n : ℕ) → n ≤ position_limit → compensation_fit (pos n) ≡ true
compensation_made n h = grind (arith, ints)

-- ---- sizes

pub record RowCount (most : ℕ) (cells : List ℕ) : Type 0 where
  pub whole : length cells % stride ≡ 0
  pub from : 1 ≤ rows cells
  pub to : rows cells ≤ most

pub row_count_facts : (most : ℕ) (cells : List ℕ) → row_count_fit most cells ≡ true → RowCount most cells
row_count_facts most cells e =
    let tests = eqb (length cells % stride) 0 ∷ leb 1 (rows cells) ∷ leb (rows cells) most ∷ [] in
    record {
      whole = eqb-true (length cells % stride) 0 (all_of_at tests 0 e);
      from = leb-true 1 (rows cells) (all_of_at tests 1 e);
      to = leb-true (rows cells) most (all_of_at tests 2 e);
    }

pub row_count_made : (most : ℕ) (cells : List ℕ) → RowCount most cells → row_count_fit most cells ≡ true
row_count_made most cells r =
    all_of_made (eqb (length cells % stride) 0 ∷ leb 1 (rows cells) ∷ leb (rows cells) most ∷ [])
    (eq-eqb (length cells % stride) 0 r.whole)
    (le-leb 1 (rows cells) r.from)
    (le-leb (rows cells) most r.to)

pub record Sizes (l : Ledger) : Type 0 where
  pub mandate_rows_lem : RowCount mandate_row_limit l.mandates
  pub collection_rows_lem : RowCount collection_row_limit l.collections
  pub creditor_table : length l.creditors ≡ creditor_count
  pub creditor_positions_lem : length l.creditor_positions ≡ creditor_count
  pub debtor_positions_lem : length l.debtor_positions ≡ debtor_count
  pub bank_positions_lem : length l.bank_positions ≡ bank_count

module _ (l : Ledger) where
  size_tests_lem : List Bool
  size_tests_lem = size_tests l.mandates l.collections l.creditors l.creditor_positions l.debtor_positions l.bank_positions

  pub sizes_facts : sizes_fit l ≡ true → Sizes l
  unfolding sizes_of size_tests_lem
  sizes_facts e =
      record {
        mandate_rows_lem = row_count_facts mandate_row_limit l.mandates (all_of_at size_tests_lem 0 e);
        collection_rows_lem = row_count_facts collection_row_limit l.collections (all_of_at size_tests_lem 1 e);
        creditor_table = eqb-true (length l.creditors) creditor_count (all_of_at size_tests_lem 2 e);
        creditor_positions_lem = eqb-true (length l.creditor_positions) creditor_count (all_of_at size_tests_lem 3 e);
        debtor_positions_lem = eqb-true (length l.debtor_positions) debtor_count (all_of_at size_tests_lem 4 e);
        bank_positions_lem = eqb-true (length l.bank_positions) bank_count (all_of_at size_tests_lem 5 e);
      }

  pub sizes_made : Sizes l → sizes_fit l ≡ true
  unfolding sizes_of size_tests_lem
  sizes_made s =
      all_of_made size_tests_lem
      (row_count_made mandate_row_limit l.mandates s.mandate_rows_lem)
      (row_count_made collection_row_limit l.collections s.collection_rows_lem)
      (eq-eqb (length l.creditors) creditor_count s.creditor_table)
      (eq-eqb (length l.creditor_positions) creditor_count s.creditor_positions_lem)
      (eq-eqb (length l.debtor_positions) debtor_count s.debtor_positions_lem)
      (eq-eqb (length l.bank_positions) bank_count s.bank_positions_lem)

-- ---- the header

pub record HeaderFit (l : Ledger) : Type 0 where
  pub mandates_lent : l.mandates_used ≤ rows l.mandates
  pub collections_lent : l.collections_used ≤ rows l.collections
  pub latest_date : none_or_date l.latest ≡ true
  pub cents : compensation_fit l.compensation ≡ true

module _ (l : Ledger) where
  header_tests_lem : List Bool
  header_tests_lem = header_tests l.latest l.mandates_used l.collections_used l.compensation l.mandates l.collections

  pub header_facts : header_fit l ≡ true → HeaderFit l
  unfolding header_of header_tests_lem
  header_facts e =
      record {
        mandates_lent = leb-true l.mandates_used (rows l.mandates) (all_of_at header_tests_lem 0 e);
        collections_lent = leb-true l.collections_used (rows l.collections) (all_of_at header_tests_lem 1 e);
        latest_date = all_of_at header_tests_lem 2 e;
        cents = all_of_at header_tests_lem 3 e;
      }

  pub header_made : HeaderFit l → header_fit l ≡ true
  unfolding header_of header_tests_lem
  header_made h =
      all_of_made header_tests_lem
      (le-leb l.mandates_used (rows l.mandates) h.mandates_lent)
      (le-leb l.collections_used (rows l.collections) h.collections_lent)
      h.latest_date
      h.cents

-- ---- rows, over the test of a row's cells

module _ (test : List ℕ → Bool) (cells : List ℕ) where
  pub rows_fit_at : (used : ℕ) → rows_fit test cells used ≡ true → (row : ℕ) → row < used → test (row_at stride cells row) ≡ true
  unfolding rows_fit
  rows_fit_at used e row h = all_from_at (row_fit test cells) used e row h

  pub rows_fit_made : (used : ℕ) → ((row : ℕ) → row < used → test (row_at stride cells row) ≡ true) → rows_fit test cells used ≡ true
  unfolding rows_fit
  rows_fit_made used f = all_from_made (row_fit test cells) used f

  -- a row put among `more` rows of which each other one passed
  rows_fit_put :
      (used more row : ℕ) (fields : List ℕ) → length fields ≡ stride → rows_fit test cells used ≡ true
      → test fields ≡ true → row < rows cells → ((k : ℕ) → k < more → k ≢ row → k < used)
      → all_from (row_fit test (put_row stride cells row fields)) 0 more ≡ true
  rows_fit_put used more row fields n e t h old =
      all_from_made (row_fit test (put_row stride cells row fields)) more
      (λ k l.
      either (eqb k row)
      (λ q.
      let p = eqb-true k row q in
      rw p (ap test (row_at_put_same stride cells row fields n (omega arith) h) ∙ t))
      (λ q.
      let ne = eqb-false k row q in
      ap test (row_at_put_other stride cells row fields n k ne) ∙ rows_fit_at used e k (old k l ne)))

  -- at a used row
  pub rows_fit_put_used :
      (used row : ℕ) (fields : List ℕ) → length fields ≡ stride → rows_fit test cells used ≡ true → test fields ≡ true
      → row < rows cells → rows_fit test (put_row stride cells row fields) used ≡ true
  unfolding rows_fit
  rows_fit_put_used used row fields n e t h = rows_fit_put used used row fields n e t h (λ k l ne. l)

  -- at the next row
  pub rows_fit_put_next :
      (used : ℕ) (fields : List ℕ) → length fields ≡ stride → rows_fit test cells used ≡ true → test fields ≡ true
      → used < rows cells → rows_fit test (put_row stride cells used fields) (used + 1) ≡ true
  unfolding rows_fit
  rows_fit_put_next used fields n e t h =
      rows_fit_put used (used + 1) used fields n e t h (λ k l ne. omega (arith, ne))

  -- the used rows one after the other
  pub rows_fit_all : (used : ℕ) → used ≤ rows cells → list_all test (map (row_at stride cells) (range_with_len 0 (existing cells used))) ≡ rows_fit test cells used
  unfolding rows_fit
  rows_fit_all used h = rw (existing_fit cells used h) (list_all-map test (row_at stride cells) (range_with_len 0 used) ∙ all_of_range (row_fit test cells) 0 used)

-- a test that follows from another one passes wherever that did
pub rows_fit_implies :
    (test other : List ℕ → Bool) (cells : List ℕ) (used : ℕ)
    → ((fields : List ℕ) → test fields ≡ true → other fields ≡ true) → rows_fit test cells used ≡ true
    → rows_fit other cells used ≡ true
rows_fit_implies test other cells used f e =
    rows_fit_made other cells used (λ row h. f (row_at stride cells row) (rows_fit_at test cells used e row h))

-- ---- a mandate's limits

-- what a fit row's record holds; standing and FRST have no limits of their own once they are read
pub record MandateFit (creditors : List ℕ) (m : Mandate) : Type 0 where
  pub number_fit : Within 1 number_limit m.number
  pub creditor_fit_lem : Within 1 creditor_count m.creditor
  pub creditor_added : added creditors m.creditor ≡ true
  pub debtor_fit : Within 1 debtor_count m.debtor
  pub bank_fit : Within 1 bank_count m.bank
  pub signed_date : in_range m.signed ≡ true
  pub code_fit : m.code ≤ 1
  pub presented_date : none_or_date m.presented ≡ true

standing_fit : (s : Standing) → leb (standing_tag s) 2 ≡ true
standing_fit Live = refl
standing_fit Closed = refl
standing_fit Cancelled = refl

flag_fit : (b : Bool) → leb (flag_cell b) 1 ≡ true
flag_fit true = refl
flag_fit false = refl

pub mandate_facts : (creditors fields : List ℕ) → mandate_fit creditors fields ≡ true → MandateFit creditors (mandate_from fields)
unfolding mandate_fit mandate_from
mandate_facts creditors fields e =
    let m = mandate_from fields in
    let at : (k : ℕ) → get_or (mandate_tests creditors fields) k true ≡ true = λ k. all_of_at (mandate_tests creditors fields) k e in
    record {
      number_fit = within_facts 1 number_limit m.number (at 0);
      creditor_fit_lem = within_facts 1 creditor_count m.creditor (at 1);
      creditor_added = at 2;
      debtor_fit = within_facts 1 debtor_count m.debtor (at 3);
      bank_fit = within_facts 1 bank_count m.bank (at 4);
      signed_date = at 5;
      code_fit = leb-true m.code 1 (at 6);
      presented_date = at 9;
    }

pub mandate_made : (creditors : List ℕ) (m : Mandate) → MandateFit creditors m → mandate_fit creditors (mandate_cells m) ≡ true
unfolding mandate_fit
mandate_made creditors m f =
    all_of_made (mandate_tests creditors (mandate_cells m))
    (within_made 1 number_limit m.number f.number_fit)
    (within_made 1 creditor_count m.creditor f.creditor_fit_lem)
    f.creditor_added
    (within_made 1 debtor_count m.debtor f.debtor_fit)
    (within_made 1 bank_count m.bank f.bank_fit)
    f.signed_date
    (le-leb m.code 1 f.code_fit)
    (standing_fit m.standing)
    (flag_fit m.first)
    f.presented_date

-- ---- a collection's limits

pub record CollectionFit (latest : ℕ) (creditors : List ℕ) (c : Collection) : Type 0 where
  pub number_fit : Within 1 number_limit c.number
  pub creditor_fit_lem : Within 1 creditor_count c.creditor
  pub creditor_added : added creditors c.creditor ≡ true
  pub debtor_fit : Within 1 debtor_count c.debtor
  pub cbank_fit : Within 1 bank_count c.cbank
  pub dbank_fit : Within 1 bank_count c.dbank
  pub amount_fit : Within 1 amount_limit c.amount
  pub due_date : in_range c.due ≡ true
  pub state_fit : day_fit latest (state_tag c.state) (state_day c.state) ≡ true

-- a day: in range, and not after the latest date
pub record DayFit (latest day : ℕ) : Type 0 where
  pub date : in_range day ≡ true
  pub to : day ≤ latest

pub day_facts : (latest day : ℕ) → in_range day && leb day latest ≡ true → DayFit latest day
day_facts latest day e =
    let p = and_halves (in_range day) e in
    record { date = p.0; to = leb-true day latest p.1 }

pub day_made : (latest day : ℕ) → DayFit latest day → in_range day && leb day latest ≡ true
day_made latest day d = and_true d.date (le-leb day latest d.to)

-- the state read from a row that fits has a day that fits
state_read :
    (latest tag day : ℕ) → tag ≤ 5 → day_fit latest tag day ≡ true
    → day_fit latest (state_tag (state_of tag day)) (state_day (state_of tag day)) ≡ true
state_read latest zero day h e = refl
state_read latest (suc zero) day h e = refl
state_read latest (suc (suc zero)) day h e = e
state_read latest (suc (suc (suc zero))) day h e = e
state_read latest (suc (suc (suc (suc zero)))) day h e = e
state_read latest (suc (suc (suc (suc (suc zero))))) day h e = e
state_read latest (suc (suc (suc (suc (suc (suc tag)))))) day h e = absurd (omega arith)

tag_fit : (s : State) → leb (state_tag s) 5 ≡ true
tag_fit Presented = refl
tag_fit Rejected = refl
tag_fit (Settled day) = refl
tag_fit (Undone day Return) = refl
tag_fit (Undone day Refund) = refl
tag_fit (Undone day Reversal) = refl

pub collection_facts :
    (latest : ℕ) (creditors fields : List ℕ) → collection_fit latest creditors fields ≡ true
    → CollectionFit latest creditors (collection_from fields)
unfolding collection_fit collection_from
collection_facts latest creditors fields e =
    let c = collection_from fields in
    let at : (k : ℕ) → get_or (collection_tests latest creditors fields) k true ≡ true = λ k. all_of_at (collection_tests latest creditors fields) k e in
    record {
      number_fit = within_facts 1 number_limit c.number (at 0);
      creditor_fit_lem = within_facts 1 creditor_count c.creditor (at 1);
      creditor_added = at 2;
      debtor_fit = within_facts 1 debtor_count c.debtor (at 3);
      cbank_fit = within_facts 1 bank_count c.cbank (at 4);
      dbank_fit = within_facts 1 bank_count c.dbank (at 5);
      amount_fit = within_facts 1 amount_limit c.amount (at 6);
      due_date = at 7;
      state_fit =
          state_read latest (get_or fields CollectionColumn.state 0) (get_or fields CollectionColumn.day 0)
          (leb-true (get_or fields CollectionColumn.state 0) 5 (at 8))
          (at 9);
    }

pub collection_made :
    (latest : ℕ) (creditors : List ℕ) (c : Collection) → CollectionFit latest creditors c
    → collection_fit latest creditors (collection_cells c) ≡ true
unfolding collection_fit
collection_made latest creditors c f =
    all_of_made (collection_tests latest creditors (collection_cells c))
    (within_made 1 number_limit c.number f.number_fit)
    (within_made 1 creditor_count c.creditor f.creditor_fit_lem)
    f.creditor_added
    (within_made 1 debtor_count c.debtor f.debtor_fit)
    (within_made 1 bank_count c.cbank f.cbank_fit)
    (within_made 1 bank_count c.dbank f.dbank_fit)
    (within_made 1 amount_limit c.amount f.amount_fit)
    f.due_date
    (tag_fit c.state)
    f.state_fit

-- ---- a fit record put in a fit table

module _ (creditors cells : List ℕ) (used : ℕ) (m : Mandate) (f : MandateFit creditors m) where
  pub mandates_put_used :
      (row : ℕ) → rows_fit (mandate_fit creditors) cells used ≡ true → row < rows cells
      → rows_fit (mandate_fit creditors) (put_mandate cells row m) used ≡ true
  mandates_put_used row e h =
      rows_fit_put_used (mandate_fit creditors) cells used row (mandate_cells m) refl e (mandate_made creditors m f) h

  pub mandates_put_next :
      rows_fit (mandate_fit creditors) cells used ≡ true → used < rows cells
      → rows_fit (mandate_fit creditors) (put_mandate cells used m) (used + 1) ≡ true
  mandates_put_next e h =
      rows_fit_put_next (mandate_fit creditors) cells used (mandate_cells m) refl e (mandate_made creditors m f) h

module _ (latest : ℕ) (creditors cells : List ℕ) (used : ℕ) (c : Collection) (f : CollectionFit latest creditors c) where
  pub collections_put_used :
      (row : ℕ) → rows_fit (collection_fit latest creditors) cells used ≡ true → row < rows cells
      → rows_fit (collection_fit latest creditors) (put_collection cells row c) used ≡ true
  collections_put_used row e h =
      rows_fit_put_used (collection_fit latest creditors) cells used row (collection_cells c) refl e (collection_made latest creditors c f) h

  pub collections_put_next :
      rows_fit (collection_fit latest creditors) cells used ≡ true → used < rows cells
      → rows_fit (collection_fit latest creditors) (put_collection cells used c) (used + 1) ≡ true
  collections_put_next e h =
      rows_fit_put_next (collection_fit latest creditors) cells used (collection_cells c) refl e (collection_made latest creditors c f) h

-- ---- what keeps a row fit

day_fit_later : (latest tag day later : ℕ) → latest ≤ later → day_fit latest tag day ≡ true → day_fit later tag day ≡ true
day_fit_later latest tag day later h e =
    ⊎_elim
    (λ p. rw p)
    (λ p.
    let d = day_facts latest day p in
    or_right (leb tag 1) _ (day_made later day (record { date = d.date; to = omega (arith, d.to) })))
    (or_cases (leb tag 1) _ e)

-- the places of the tests that the creditors and the latest date decide
abbrev exists_test : ℕ
exists_test = 2

abbrev day_test : ℕ
day_test = 9

-- a creditor gets a bank
pub mandate_fit_added :
    (creditors : List ℕ) (i bank : ℕ) → bank ≢ 0 → (fields : List ℕ) → mandate_fit creditors fields ≡ true
    → mandate_fit (set creditors i bank) fields ≡ true
unfolding mandate_fit
mandate_fit_added creditors i bank b fields e =
    let creditor = get_or fields MandateColumn.creditor 0 in
    all_of_set (mandate_tests creditors fields) exists_test (added (set creditors i bank) creditor) e
    (added_set creditors i bank b creditor (all_of_at (mandate_tests creditors fields) exists_test e))

module _ (latest : ℕ) (creditors fields : List ℕ) (e : collection_fit latest creditors fields ≡ true) where
  pub collection_fit_added : (i bank : ℕ) → bank ≢ 0 → collection_fit latest (set creditors i bank) fields ≡ true
  unfolding collection_fit
  collection_fit_added i bank b =
      let creditor = get_or fields CollectionColumn.creditor 0 in
      all_of_set (collection_tests latest creditors fields) exists_test (added (set creditors i bank) creditor) e
      (added_set creditors i bank b creditor (all_of_at (collection_tests latest creditors fields) exists_test e))

  -- the latest date moves on
  pub collection_fit_later : (later : ℕ) → latest ≤ later → collection_fit later creditors fields ≡ true
  unfolding collection_fit
  collection_fit_later later h =
      let tag = get_or fields CollectionColumn.state 0 in
      let day = get_or fields CollectionColumn.day 0 in
      all_of_set (collection_tests latest creditors fields) day_test (day_fit later tag day) e
      (day_fit_later latest tag day later h (all_of_at (collection_tests latest creditors fields) day_test e))

-- ---- creditors and their positions

pub zero_facts : (z : ℤ) → is_zero z ≡ true → z ≡ pos 0
zero_facts z e = grind (arith, ints)

pub record CreditorFit (bank : ℕ) (position : ℤ) : Type 0 where
  pub bank_fit : bank ≤ bank_count
  pub position_fit_lem : position_fit position ≡ true
  pub none_zero : bank ≡ 0 → position ≡ pos 0

module _ (bank : ℕ) (position : ℤ) where
  pub creditor_facts : creditor_fit bank position ≡ true → CreditorFit bank position
  unfolding creditor_fit
  creditor_facts e =
      let at : (k : ℕ) → get_or (creditor_tests bank position) k true ≡ true = λ k. all_of_at (creditor_tests bank position) k e in
      record {
        bank_fit = leb-true bank bank_count (at 0);
        position_fit_lem = at 1;
        none_zero = λ z. ⊎_elim
            (λ b. absurd (omega (arith, leb-true 1 bank b)))
            (λ p. zero_facts position p)
            (or_cases (leb 1 bank) _ (at 2));
      }

  -- an added creditor may have any position within limits
  pub creditor_made : 1 ≤ bank → bank ≤ bank_count → position_fit position ≡ true → creditor_fit bank position ≡ true
  unfolding creditor_fit
  creditor_made low high p =
      all_of_made (creditor_tests bank position) (le-leb bank bank_count high) p (ap (λ (b : Bool). b || is_zero position) (le-leb 1 bank low))

module _ (creditors : List ℕ) (positions : List ℤ) where
  pub creditors_fit_at :
      creditors_fit creditors positions ≡ true → (i : ℕ) → i < length creditors
      → CreditorFit (get_or creditors i 0) (get_or positions i (pos 0))
  unfolding creditors_fit
  creditors_fit_at e i h =
      creditor_facts (get_or creditors i 0) (get_or positions i (pos 0)) (all_from_at (creditor_fit_at creditors positions) (length creditors) e i h)

  pub creditors_fit_made :
      ((i : ℕ) → i < length creditors → creditor_fit (get_or creditors i 0) (get_or positions i (pos 0)) ≡ true)
      → creditors_fit creditors positions ≡ true
  unfolding creditors_fit
  creditors_fit_made f = all_from_made (creditor_fit_at creditors positions) (length creditors) f

  test_entry :
      creditors_fit creditors positions ≡ true → (i : ℕ) → i < length creditors
      → creditor_fit (get_or creditors i 0) (get_or positions i (pos 0)) ≡ true
  unfolding creditors_fit
  test_entry e i h = all_from_at (creditor_fit_at creditors positions) (length creditors) e i h

  -- every creditor's bank is none or one of the banks
  pub creditors_fit_bank : creditors_fit creditors positions ≡ true → (number : ℕ) → bank_of creditors number ≤ bank_count
  creditors_fit_bank e number =
      either (eqb number 0)
      (λ z. rw (bank_of_zero creditors number (eqb-true number 0 z)) (omega arith))
      (λ z.
      let ne = eqb-false number 0 z in
      either (ltb (number - 1) (length creditors))
      (λ h. rw (bank_of_at creditors number ne) (creditors_fit_at e (number - 1) (ltb-true (number - 1) (length creditors) h)).bank_fit)
      (λ h. rw (bank_of_past creditors number ne (ltb-false (number - 1) (length creditors) h)) (omega arith)))

-- a creditor is added
pub creditors_fit_added :
    (creditors : List ℕ) (positions : List ℤ) (i bank : ℕ) → creditors_fit creditors positions ≡ true → 1 ≤ bank
    → bank ≤ bank_count → creditors_fit (set creditors i bank) positions ≡ true
creditors_fit_added creditors positions i bank e low high =
    creditors_fit_made (set creditors i bank) positions
    (λ k h.
    let in_table : k < length creditors = rw length-set at h in
    either (eqb k i)
    (λ q.
    let p = eqb-true k i q in
    let here : i < length creditors = rw p at in_table in
    rw (p, get_or-set_same creditors i bank 0 here)
    (creditor_made bank (get_or positions i (pos 0)) low high (creditors_fit_at creditors positions e i here).position_fit_lem))
    (λ q. rw (get_or-set_other creditors i k bank 0 (eqb-false k i q)) (test_entry creditors positions e k in_table)))

-- an added creditor's position changes
pub creditors_fit_posted :
    (creditors : List ℕ) (positions : List ℤ) (i : ℕ) (z : ℤ) → creditors_fit creditors positions ≡ true
    → i < length positions → 1 ≤ get_or creditors i 0 → position_fit z ≡ true
    → creditors_fit creditors (set positions i z) ≡ true
creditors_fit_posted creditors positions i z e room low f =
    creditors_fit_made creditors (set positions i z)
    (λ k h.
    either (eqb k i)
    (λ q.
    let p = eqb-true k i q in
    let here : i < length creditors = rw p at h in
    rw (p, get_or-set_same positions i z (pos 0) room)
    (creditor_made (get_or creditors i 0) z low (creditors_fit_at creditors positions e i here).bank_fit f))
    (λ q. rw (get_or-set_other positions i k z (pos 0) (eqb-false k i q)) (test_entry creditors positions e k h)))

-- ---- positions of debtors and banks

module _ (positions : List ℤ) where
  pub positions_fit_at :
      positions_fit positions ≡ true → (i : ℕ) → i < length positions → position_fit (get_or positions i (pos 0)) ≡ true
  unfolding positions_fit
  positions_fit_at e i h = all_from_at (position_fit_at positions) (length positions) e i h

  pub positions_fit_made :
      ((i : ℕ) → i < length positions → position_fit (get_or positions i (pos 0)) ≡ true) → positions_fit positions ≡ true
  unfolding positions_fit
  positions_fit_made f = all_from_made (position_fit_at positions) (length positions) f

-- a position changes
pub positions_fit_posted :
    (positions : List ℤ) (i : ℕ) (z : ℤ) → positions_fit positions ≡ true → position_fit z ≡ true
    → positions_fit (set positions i z) ≡ true
positions_fit_posted positions i z e f =
    positions_fit_made (set positions i z)
    (λ k h.
    let in_table : k < length positions = rw length-set at h in
    either (eqb k i)
    (λ q.
    let p = eqb-true k i q in
    let here : i < length positions = rw p at in_table in
    rw (p, get_or-set_same positions i z (pos 0) here) f)
    (λ q. rw (get_or-set_other positions i k z (pos 0) (eqb-false k i q)) (positions_fit_at positions e k in_table)))

-- ---- all of it

pub record Fit (l : Ledger) : Type 0 where
  pub sizes : Sizes l
  pub header : HeaderFit l
  pub mandates : rows_fit (mandate_fit l.creditors) l.mandates l.mandates_used ≡ true
  pub collections : rows_fit (collection_fit l.latest l.creditors) l.collections l.collections_used ≡ true
  pub creditors : creditors_fit l.creditors l.creditor_positions ≡ true
  pub debtors : positions_fit l.debtor_positions ≡ true
  pub banks : positions_fit l.bank_positions ≡ true

module _ (l : Ledger) where
  pub fit_no_sizes : sizes_fit l ≡ false → fit l ≡ false
  unfolding fit
  fit_no_sizes e = ap (λ (b : Bool). b && (header_fit l && all_of (content_tests l))) e

  pub fit_no_header : sizes_fit l ≡ true → header_fit l ≡ false → fit l ≡ false
  unfolding fit
  fit_no_header e f =
      ap (λ (b : Bool). b && (header_fit l && all_of (content_tests l))) e ∙ ap (λ (b : Bool). b && all_of (content_tests l)) f

  pub fit_contents : sizes_fit l ≡ true → header_fit l ≡ true → fit l ≡ all_of (content_tests l)
  unfolding fit
  fit_contents e f =
      ap (λ (b : Bool). b && (header_fit l && all_of (content_tests l))) e ∙ ap (λ (b : Bool). b && all_of (content_tests l)) f

  pub fit_facts : fit l ≡ true → Fit l
  unfolding fit
  fit_facts e =
      let p = and_halves (sizes_fit l) e in
      let q = and_halves (header_fit l) p.1 in
      record {
        sizes = sizes_facts l p.0;
        header = header_facts l q.0;
        mandates = all_of_at (content_tests l) 0 q.1;
        collections = all_of_at (content_tests l) 1 q.1;
        creditors = all_of_at (content_tests l) 2 q.1;
        debtors = all_of_at (content_tests l) 3 q.1;
        banks = all_of_at (content_tests l) 4 q.1;
      }

  pub fit_made : Fit l → fit l ≡ true
  fit_made f =
      fit_contents (sizes_made l f.sizes) (header_made l f.header)
      ∙ all_of_made (content_tests l) f.mandates f.collections f.creditors f.debtors f.banks

  -- the record of a used row, by its limits
  pub fit_mandate : fit l ≡ true → (row : ℕ) → row < l.mandates_used → MandateFit l.creditors (mandate_at l.mandates row)
  unfolding mandate_at
  fit_mandate e row h =
      mandate_facts l.creditors (row_at stride l.mandates row)
      (rows_fit_at (mandate_fit l.creditors) l.mandates l.mandates_used (fit_facts e).mandates row h)

  pub fit_collection :
      fit l ≡ true → (row : ℕ) → row < l.collections_used
      → CollectionFit l.latest l.creditors (collection_at l.collections row)
  unfolding collection_at
  fit_collection e row h =
      collection_facts l.latest l.creditors (row_at stride l.collections row)
      (rows_fit_at (collection_fit l.latest l.creditors) l.collections l.collections_used (fit_facts e).collections row h)
