-- Events 6 to 10 on a fit ledger: what fitness gives, and that the call is then the model's answer and effect.
-- To cite: `treat_ruled`, `Asked`. Assumes nothing.
use Rattle.std.proofs.Common.{Err, None, Ok, Option, Result, Some, ℕ}
use mathlib.Core.Path.{◌≡◌, refl, sym, ◌∙◌, ap}
use mathlib.Core.Bool.{true, false}
use mathlib.Core.List.{List}
use Prim.Native.Nat.{ℕ, ◌≤◌, ◌<◌}
use native.Mathlib.Omega.{arith}
use borrow.Author.Tests.{leb-true, lt-ltb}
use lib.IntN.{ℤ, pos, nat_abs}
use lib.ListN.{length, get_or}
use Rattle.calendar.specs.Gregorian.{in_range, is_date}
use Rattle.calendar.specs.DayNumber.{day_number}
use Rattle.calendar.specs.Periods.{days_between}
use Rattle.calendar.proofs.Laws.Gregorian.{range_facts}
use Rattle.calendar.proofs.Laws.DayNumber.{day_number_mono_le}
use Rattle.calendar.proofs.Laws.Answers.{day_of_is}
use Rattle.calendar.proofs.Laws.Periods.{days_between_days}
use Rattle.positions.specs.Positions.{position_limit, position, InLimit}
use Rattle.positions.specs.Postings.{settlement}
use Rattle.positions.specs.Compensation.{compensation, compensation_of, rate_limit, InLimits}
use Rattle.positions.specs.declared.Postings.{Postings}
use Rattle.positions.proofs.Laws.Compensation.{compensation_of_is}
use Rattle.positions.proofs.Laws.Integers.{size_within}
use Rattle.positions.proofs.Laws.Limits.{compensation_bound}
use Rattle.positions.proofs.Laws.Positions.{entry_has_entry}
use Rattle.positions.proofs.Laws.Postings.{AtMost, settlement_size, reversed_size, refunded_size}
use Rattle.positions.proofs.Laws.Answers.{settlement_of_is, reversed_of_is, refunded_of_is}
use Rattle.tables.specs.declared.Collection.{Collection}
use Rattle.tables.specs.declared.State.{State}
use Rattle.tables.specs.Limits.{creditor_count, debtor_count, bank_count, amount_limit}
use Rattle.tables.specs.Ledger.{Ledger}
use Rattle.tables.specs.Lookup.{existing, lookup}
use Rattle.tables.specs.Rows.{collection_at}
use Rattle.tables.specs.Records.{state_tag, state_day}
use Rattle.tables.proofs.Laws.Lookup.{lookup_at, lookup_used}
use Rattle.fitness.specs.Fitness.{day_fit, positions_fit, fit}
use Rattle.model.proofs.Laws.Accepted.{is_settled_lem}
use Rattle.model.proofs.Laws.Bounds.{days_in_time, larger_sizes, entries_within}
use Rattle.fitness.proofs.Laws.Fitness.{Within, position_facts, compensation_facts, day_facts, CollectionFit, creditors_fit_at, positions_fit_at, fit_facts, fit_collection}
use Rattle.model.specs.declared.Action.TheVariants.{Treat}
use Rattle.model.specs.declared.Way.{Way}
use Rattle.model.specs.declared.Treatment.{Treatment}
use Rattle.model.specs.declared.Way.TheVariants.{ByReturn, ByRefund, ByReversal}
use Rattle.model.specs.declared.Treatment.TheVariants.{Settle, Reject, Undo}
use Rattle.model.specs.Lookups.{collection_of}
use Rattle.model.specs.Checks.{is_settled, settled_on, state_fits, time_treated, ruled}
use Rattle.model.specs.Deadlines.{in_time, days_since}
use Rattle.model.specs.Effects.{treated, undone, effect}
use Rattle.checking.specs.Calls.{used_row, found_row}
use Rattle.model.specs.declared.HandedOn.{HandedOn}
use Rattle.model.specs.declared.HandedOn.TheVariants.{Nothing}
use Rattle.checking.proofs.Laws.Calls.{AsRuled, done_same, judged_passes}
use Rattle.treatments.specs.declared.verdicts.Verdict.{Verdict}
use Rattle.treatments.specs.Treatments.{treat_checks, treat_judged, refund_for, refund_after, undone_of, go_verdict, by_answer, held, postable, answer_for, effect_for, Treated}
use Rattle.refusals.specs.declared.Refusal.{Refusal}

-- ---- what an undoing posts

-- an amount that can be refunded at a rate
record Refundable (amount rate settled date : ℕ) : Type 0 where
  from : is_date settled ≡ true
  to : is_date date ≡ true
  order : settled ≤ date
  limits : InLimits amount rate (days_since settled date)

-- the rate of a refund, 0 of another undoing
abbrev pub rate_of : Way → ℕ
rate_of ByReturn = 0
rate_of (ByRefund rate authorisation) = rate
rate_of ByReversal = 0

module _ {amount rate settled date : ℕ} (r : Refundable amount rate settled date) where
  days_are : days_between settled date ≡ Some (record { 0 = days_since settled date })
  days_are =
      days_between_days settled date (day_number settled) (day_number date)
      (day_of_is settled r.from)
      (day_of_is date r.to)
      (day_number_mono_le settled date r.from r.to r.order)

  cents_are : compensation_of date amount rate (days_since settled date) ≡ Some (compensation date amount rate (days_since settled date))
  cents_are = compensation_of_is date amount rate (days_since settled date) r.limits

undone_is : (way : Way) (amount settled date : ℕ) → Refundable amount (rate_of way) settled date → undone_of way amount settled date ≡ Some (undone way amount settled date)
undone_is ByReturn amount settled date r = reversed_of_is amount r.limits.high
undone_is (ByRefund rate authorisation) amount settled date r =
    ap (refund_after date amount rate) (days_are r)
    ∙ ap (refund_for amount) (cents_are r)
    ∙ (refunded_of_is amount (compensation date amount rate (days_since settled date)) r.limits.high
    (compensation_bound date amount rate (days_since settled date) r.limits.high r.limits.rated r.limits.dated))
undone_is ByReversal amount settled date r = reversed_of_is amount r.limits.high

-- ---- an undoing in time is within its limits

refundable :
    (way : Way) (latest date amount : ℕ) (s : State) → Within 1 amount_limit amount → rate_of way ≤ rate_limit
    → in_range date ≡ true → latest ≤ date → day_fit latest (state_tag s) (state_day s) ≡ true
    → is_settled s ≡ true → in_time way (settled_on s) date ≡ true
    → Refundable amount (rate_of way) (settled_on s) date
refundable way latest date amount s a rated r h f e g =
    let i = is_settled_lem s e in
    let d = day_facts latest i.day (rw i.is at f) in
    rw i.is
    (record {
      from = (range_facts i.day d.date).is_date_lem;
      to = (range_facts date r).is_date_lem;
      order = omega (arith, d.to);
      limits = record { low = a.from; high = a.to; rated = rated; dated = omega (arith, days_in_time way i.day date d.date (range_facts date r).is_date_lem (rw i.is at g)) };
    })

-- ---- how large the amounts are

undone_size :
    (way : Way) (amount settled date : ℕ) → Refundable amount (rate_of way) settled date
    → AtMost position_limit (undone way amount settled date)
undone_size ByReturn amount settled date r =
    larger_sizes (omega (arith, r.limits.high)) (reversed_size amount)
undone_size (ByRefund rate authorisation) amount settled date r =
    let k = compensation date amount rate (days_since settled date) in
    let h = compensation_bound date amount rate (days_since settled date) r.limits.high r.limits.rated r.limits.dated in
    larger_sizes (omega (arith, h, r.limits.high)) (refunded_size amount k)
undone_size ByReversal amount settled date r =
    larger_sizes (omega (arith, r.limits.high)) (reversed_size amount)

-- ---- what fitness gives of the tables

-- a table of positions of some parties, each within the limit
record Table (count : ℕ) (positions : List ℤ) : Type 0 where
  size : length positions ≡ count
  bounded : InLimit position_limit positions

in_table : (count : ℕ) (positions : List ℤ) → length positions ≡ count
    → ((i : ℕ) → i < count → nat_abs (get_or positions i (pos 0)) ≤ position_limit)
    → Table count positions
in_table count positions size f =
    record { size = size; bounded = entries_within position_limit positions (λ i h. f i (omega (arith, size))) }

fit_table :
    (count : ℕ) (positions : List ℤ) → length positions ≡ count → positions_fit positions ≡ true → Table count positions
fit_table count positions size e =
    in_table count positions size
    (λ i h. position_facts (get_or positions i (pos 0)) (positions_fit_at positions e i (omega (arith, size))))

table_held :
    (count number : ℕ) (positions : List ℤ) (x : ℤ) → Table count positions → Within 1 count number → nat_abs x ≤ position_limit
    → held positions number x ≡ true
table_held count number positions x h n s =
    rw (
      entry_has_entry positions number (record { low = n.from; high = omega (arith, h.size, n.to) }),
      size_within position_limit (position positions number) (h.bounded number),
      size_within position_limit x s,
    )

module _ (l : Ledger) (f : fit l ≡ true) where
  creditor_table : Table creditor_count l.creditor_positions
  creditor_table =
      let m = fit_facts l f in
      in_table creditor_count l.creditor_positions m.sizes.creditor_positions_lem
      (λ i h. position_facts (get_or l.creditor_positions i (pos 0))
      (creditors_fit_at l.creditors l.creditor_positions m.creditors i (omega (arith, m.sizes.creditor_table))).position_fit_lem)

  fit_postable :
      (t : Treatment) (date : ℕ) (k : Collection) (p : Postings) → CollectionFit l.latest l.creditors k → AtMost position_limit p
      → postable (treated t date k) p l.compensation l.creditor_positions l.debtor_positions l.bank_positions ≡ true
  unfolding postable treated
  fit_postable t date k p g a =
      let m = fit_facts l f in
      let debtors = fit_table debtor_count l.debtor_positions m.sizes.debtor_positions_lem m.debtors in
      let banks = fit_table bank_count l.bank_positions m.sizes.bank_positions_lem m.banks in
      rw (
        table_held creditor_count k.creditor l.creditor_positions p.creditor creditor_table g.creditor_fit_lem a.creditor,
        table_held debtor_count k.debtor l.debtor_positions p.debtor debtors g.debtor_fit a.debtor,
        table_held bank_count k.dbank l.bank_positions p.dbank banks g.dbank_fit a.dbank,
        table_held bank_count k.cbank l.bank_positions p.cbank banks g.cbank_fit a.cbank,
        size_within position_limit l.compensation (compensation_facts l.compensation m.header.cents).to,
        size_within position_limit p.compensation a.compensation,
      )

-- ---- the call is the model's

-- an event within its limits
pub record Asked (t : Treatment) (date : ℕ) : Type 0 where
  pub in_range_lem : in_range date ≡ true
  pub rated : (way : Way) → t ≡ Undo way → rate_of way ≤ rate_limit

answer_by : (a : Result Unit Refusal) (v : Result Verdict Refusal) (l : Ledger) → (a ≡ (Ok tt) → answer_for v l ≡ (Ok tt)) → answer_for (by_answer a v) l ≡ a
answer_by (Ok tt) v l h = h refl
answer_by (Err r) v l h = refl

effect_by : (a : Result Unit Refusal) (v : Result Verdict Refusal) (row date : ℕ) (l : Ledger) → a ≡ (Ok tt) → effect_for (by_answer a v) row date l ≡ effect_for v row date l
effect_by a v row date l e = rw e

module _ (l : Ledger) (date number : ℕ) (t : Treatment) where
  treat_answer :
      (f : Option ℕ) → lookup l.collections l.collections_used number ≡ f
      → treat_judged l.latest date t (used_row l.collections l.collections_used f) (collection_at l.collections (found_row f)) ≡ ruled l date (Treat number t)
  unfolding ruled collection_of
  treat_answer None e = rw e
  treat_answer (Some row) e =
      rw (
        e,
        lt-ltb row (existing l.collections l.collections_used) (lookup_at l.collections l.collections_used number row e).existing_row,
      )

-- what an accepted treatment is, of the collection k of a fit ledger
record Goes (l : Ledger) (date row : ℕ) (t : Treatment) (k : Collection) (changed : Ledger) : Type 0 where
  accepted : answer_for (go_verdict t date k) l ≡ (Ok tt)
  makes : effect_for (go_verdict t date k) row date l ≡ changed

module _ (l : Ledger) (date number row : ℕ) (e : lookup l.collections l.collections_used number ≡ Some row) where
  k : Collection
  k = collection_at l.collections row

  module _ (f : fit l ≡ true) (h : l.latest ≤ date) where
    fits : CollectionFit l.latest l.creditors k
    unfolding k
    fits = fit_collection l f row (lookup_used l.collections l.collections_used number row e)

    goes : (t : Treatment) → Asked t date → state_fits t k.state ≡ true → time_treated t k.state date ≡ true → Goes l date row t k (effect l date (Treat number t))
    unfolding effect treated k
    goes Settle a s d =
        let high = fits.amount_fit.to in
        let p = settlement_of_is k.amount high in
        let m : AtMost position_limit (settlement k.amount) = larger_sizes (omega (arith, high)) (settlement_size k.amount) in
        record { accepted = rw (p, fit_postable l f Settle date k (settlement k.amount) fits m); makes = rw (p, e) }
    goes Reject a s d = record { accepted = refl; makes = rw e }
    goes (Undo way) a s d =
        let r = refundable way l.latest date k.amount k.state fits.amount_fit (a.rated way refl) a.in_range_lem h fits.state_fit s d in
        let p = undone_is way k.amount (settled_on k.state) date r in
        let m = undone_size way k.amount (settled_on k.state) date r in
        record { accepted = rw (p, fit_postable l f (Undo way) date k (undone way k.amount (settled_on k.state) date) fits m); makes = rw (p, e) }

module _ (l : Ledger) (date number : ℕ) (t : Treatment) (f : fit l ≡ true) (a : Asked t date) where
  by_found :
      (found : Option ℕ) → lookup l.collections l.collections_used number ≡ found
      → treat_judged l.latest date t (used_row l.collections l.collections_used found) (collection_at l.collections (found_row found)) ≡ (Ok tt)
      → Goes l date (found_row found) t (collection_at l.collections (found_row found)) (effect l date (Treat number t))
  unfolding k
  by_found None e q =
      absurd (cc (judged_passes (treat_checks l.latest date t false (collection_at l.collections 0)) refl q 2))
  by_found (Some row) e q =
      let passed = judged_passes (treat_checks l.latest date t (used_row l.collections l.collections_used (Some row)) (collection_at l.collections row)) refl q in
      goes l date number row e f (leb-true l.latest date (passed 0)) t a (passed 3) (passed 5)

  pub treat_ruled :
      (r : Result HandedOn Refusal) (l' : Ledger) (found : Option ℕ) → found ≡ lookup l.collections l.collections_used number
      → Treated found l date t r l' → AsRuled l date (Treat number t) r l'
  treat_ruled r l' found e d =
      let k = collection_at l.collections (found_row found) in
      let j = treat_judged l.latest date t (used_row l.collections l.collections_used found) k in
      let v = go_verdict t date k in
      let same = answer_by j v l (λ q. (by_found found (sym e) q).accepted) in
      done_same Nothing _ _ l _ _ r l' (same ∙ treat_answer l date number t found (sym e))
      (λ q. let w = sym same ∙ q in effect_by j v (found_row found) date l w ∙ (by_found found (sym e) w).makes)
      d
