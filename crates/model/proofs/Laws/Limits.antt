-- The limits of specs/Deadlines are dates, from every date in range. To cite: `passed_limit`, `at_most_limit` (a test that passed names its limit),
-- `last_day_found`, `last_day_return`, `last_day_refund`, `last_day_reversal`, `lapse_found`, `kept_found`, `timing`. Assumes nothing.
use Rattle.std.proofs.lemmas.Bool.{cond_both}
use Rattle.std.proofs.Common.{Option, Some, ℕ}
use mathlib.Core.Path.{◌≡◌, ap, ◌∙◌}
use mathlib.Core.Bool.{true, false, cond, not}
use Prim.Native.Nat.{ℕ, ◌≤◌}
use native.Mathlib.Omega.{arith}
use lib.Dec.{eqb}
use borrow.Author.Tests.{ltb-false, le-ltb}
use Rattle.common.proofs.Tests.{either, not_true, and_halves}
use Rattle.calendar.specs.Gregorian.{is_date, in_range}
use Rattle.calendar.specs.DayNumber.{day_number, date_at}
use Rattle.calendar.specs.Target.{last_business_day_before}
use Rattle.calendar.specs.Periods.{days_after, months_after, is_after}
use Rattle.calendar.proofs.Laws.Gregorian.{range_facts, date_valid}
use Rattle.calendar.proofs.Laws.DayNumber.{day_number_lt, day_number_reflects_le}
use Rattle.calendar.proofs.Laws.Answers.{DateAfter, day_of_is, date_of_is}
use Rattle.calendar.proofs.Laws.BusinessDays.{last_open_exists}
use Rattle.calendar.proofs.Laws.BusinessDates.{last_business_day_day}
use Rattle.calendar.proofs.Laws.Periods.{month_count_is, period_end_steps}
use Rattle.calendar.proofs.Laws.MonthCounts.{months_after_lem}
use Rattle.calendar.proofs.Laws.PeriodEnds.{longest, range_days, days_after_lem, range_period_end}
use Rattle.calendar.proofs.Laws.Promises.{kept_due_lem}
use Rattle.fitness.specs.Fitness.{none_or_date}
use Rattle.model.specs.declared.Way.{Way}
use Rattle.model.specs.declared.Way.TheVariants.{ByReturn, ByRefund, ByReversal}
use Rattle.model.specs.declared.Authorisation.TheVariants.{Authorised, Unauthorised}
use Rattle.model.specs.Actions.{authorisation}
use Rattle.model.specs.Deadlines.{core, period_of, kept_due, timely, last_day, lapse_end}
use Rattle.model.specs.Promises.{last_day_from, NotAfter, Timing}

-- ---- a test that passed, and its limit

pub at_most_limit : (x last : ℕ) (a : Option ℕ) → a ≡ Some last → not (is_after x a) ≡ true → x ≤ last
at_most_limit x last a e h = let f : is_after x a ≡ false = not_true {b = is_after x a} h in ltb-false last x (rw e at f)

pub passed_limit : (x last : ℕ) (a : Option ℕ) → a ≡ Some last → not (is_after x a) ≡ true → NotAfter x a
passed_limit x last a e h = record { last = last; is = e; not_after = at_most_limit x last a e h }

passes : (x : ℕ) (a : Option ℕ) → NotAfter x a → not (is_after x a) ≡ true
passes x a n = rw (n.is, le-ltb n.last x n.not_after)

-- ---- last days

-- every last day is within 453 days
pub longest_way : (way : Way) → longest (period_of core way) ≤ 453
unfolding longest
longest_way ByReturn = omega arith
longest_way (ByRefund rate Authorised) = omega arith
longest_way (ByRefund rate Unauthorised) = omega arith
longest_way ByReversal = omega arith

pub last_day_found : (way : Way) (settled : ℕ) → in_range settled ≡ true → DateAfter settled (last_day way settled) (longest (period_of core way))
unfolding last_day
last_day_found way settled r = range_period_end (period_of core way) settled r (omega (arith, longest_way way))

-- no months and no days after a date is the date
same_date : (x : ℕ) (a : Option ℕ) → is_date x ≡ true → DateAfter x a 0 → a ≡ Some x
same_date x a h d =
    let le = day_number_reflects_le d.date x d.is_date_lem h (omega (arith, d.near)) in
    let e : d.date ≡ x = omega (arith, d.from) in
    d.is ∙ ap Some e

module _ (x : ℕ) (r : in_range x ≡ true) where
  no_months : months_after (record { 0 = 0 }) x ≡ Some x
  no_months =
      let f = range_facts x r in
      let v = date_valid x f.is_date_lem in
      let e = month_count_is 0 x in
      same_date x _ f.is_date_lem (months_after_lem (record { 0 = 0 }) x f.is_date_lem (omega (arith, f.to)))

  no_days : days_after (record { 0 = 0 }) x ≡ Some x
  no_days =
      let f = range_facts x r in
      same_date x _ f.is_date_lem (days_after_lem (record { 0 = 0 }) x f.is_date_lem (omega (arith, (range_days x r).1)))

-- the last day as the promises word it
module _ (settled code : ℕ) (r : in_range settled ≡ true) where
  pub last_day_return : last_day ByReturn settled ≡ last_day_from 8 code settled
  unfolding last_day
  last_day_return = rw (period_end_steps (period_of core ByReturn) settled, no_months settled r, no_days settled r)

  pub last_day_refund : (rate : ℕ) → last_day (ByRefund rate (authorisation code)) settled ≡ last_day_from 9 code settled
  unfolding last_day
  last_day_refund rate =
      either (eqb code 0)
      (λ e. rw (e, period_end_steps core.authorised settled, no_months settled r))
      (λ e. rw (e, period_end_steps core.unauthorised settled))

  pub last_day_reversal : last_day ByReversal settled ≡ last_day_from 10 code settled
  unfolding last_day
  last_day_reversal = rw (period_end_steps (period_of core ByReversal) settled, no_months settled r, no_days settled r)

-- ---- lapse

-- the date that the 36 months are counted from
counted_from : (presented signed : ℕ) → none_or_date presented ≡ true → in_range signed ≡ true → in_range (cond (eqb presented 0) signed presented) ≡ true
counted_from presented signed p s = cond_both (eqb presented 0) signed presented (λ x. in_range x ≡ true) (λ e. s) (λ e. rw e at p)

months_found : (x : ℕ) → in_range x ≡ true → DateAfter x (months_after (record { 0 = 36 }) x) 1116
months_found x r =
    let f = range_facts x r in
    let v = date_valid x f.is_date_lem in
    let e = month_count_is 36 x in
    months_after_lem (record { 0 = 36 }) x f.is_date_lem (omega (arith, f.to))

pub lapse_found : (presented signed : ℕ) → none_or_date presented ≡ true → in_range signed ≡ true → DateAfter (cond (eqb presented 0) signed presented) (lapse_end presented signed) 1116
unfolding lapse_end
lapse_found presented signed p s = months_found (cond (eqb presented 0) signed presented) (counted_from presented signed p s)

-- ---- refusal 13

-- the kept due of a date in range is one
pub kept_found : (requested : ℕ) → in_range requested ≡ true → in_range (kept_due requested) ≡ true
unfolding kept_due
kept_found requested r = let k = kept_due_lem requested r in rw k.is k.in_range_lem

record Before (x : ℕ) : Type 0 where
  date : ℕ
  is : last_business_day_before x ≡ Some date

before_found : (x : ℕ) → in_range x ≡ true → Before x
before_found x r =
    let d = (range_facts x r).is_date_lem in
    let i = last_open_exists (day_number x) (omega (arith, (range_days x r).0)) (day_number_lt x d) in
    let n = day_number_lt x d in
    record { date = date_at i.day; is = last_business_day_day x (day_number x) (day_of_is x d) ∙ rw i.is (date_of_is i.day (omega (arith, i.last.before))) }

pub timing : Timing
unfolding timely
timing date requested rd rr =
    let a = days_after_lem (record { 0 = 14 }) date (range_facts date rd).is_date_lem (omega (arith, (range_days date rd).1)) in
    let b = before_found (kept_due requested) (kept_found requested rr) in
    record {
      then =
          λ h.
          let p = and_halves (not (is_after requested (days_after (record { 0 = 14 }) date))) h in
          record {
            soon = passed_limit requested a.date _ a.is p.0;
            early = passed_limit date b.date _ b.is p.1;
          };
      only_then = λ g. rw (passes requested _ g.soon, passes date _ g.early);
    }
