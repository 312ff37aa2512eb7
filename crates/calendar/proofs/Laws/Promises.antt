-- The promises of specs/Promises, proved. Assumes nothing.
use mathlib.Core.Path.{◌≡◌, refl, ap}
use mathlib.Core.Bool.{false}
use Prim.Native.Nat.{ℕ, zero, suc, ◌+◌, ◌-◌, ◌<◌}
use native.Mathlib.Numerals.{add-one}
use native.Mathlib.Omega.{arith}
use Rattle.calendar.specs.Gregorian.{leap, leap_day, month_length, is_date}
use Rattle.calendar.specs.DayNumber.{calendar_days, days_before, year_start, day_number, year_at, month_at, date_in, date_at, date_of}
use Rattle.calendar.specs.Easter.{computus, easter_sunday}
use Rattle.calendar.specs.Target.{closed_by, closed, business_day, is_open, First, seek, first_open, open_after, first_business_day, kept}
use Rattle.calendar.specs.Promises.{Conversions, EasterSundays, FirstBusinessDay, business_days_in, NthBusinessDay, LastBusinessDay, KeptDue, PeriodsEnd, SlideLimit}
use Rattle.calendar.proofs.Laws.Gregorian.{range_facts}
use Rattle.calendar.proofs.Laws.DayNumber.{day_number_lt, date_at_date, date_at_day_number, day_number_date_at, day_number_mono, date_at_mono}
use Rattle.calendar.proofs.Laws.Easter.{easter_facts}
use Rattle.calendar.proofs.Laws.BusinessDays.{first_open_first, first_open_near, open_after_zero, open_after_from, open_after_first, last_open_exists}
use Rattle.calendar.proofs.Laws.BusinessDates.{kept_date, first_business_day_is, kept_date_business, kept_date_from, kept_in_range, slide, kept_is, slide_counted, slide_near, slide_none}
use Rattle.calendar.proofs.Laws.PeriodEnds.{longest, range_period_end}

pub conversions : Conversions
conversions =
    record {
      date_has_day = day_number_lt;
      day_has_date = date_at_date;
      date_and_back = date_at_day_number;
      day_and_back = day_number_date_at;
      dates_in_order = day_number_mono;
      days_in_order = date_at_mono;
    }

-- ---- Easter

pub easter_sundays : EasterSundays
easter_sundays y h1 h2 =
    let f = easter_facts y h1 h2 in
    record {
      is_date_lem = f.is_date_lem;
      sunday = omega (arith, f.sunday);
      from = omega (arith, f.of_year, f.march);
      to = omega (arith, f.of_year, f.april);
    }

-- ---- business days

pub first_business_day_lem : FirstBusinessDay
first_business_day_lem n h = (first_open_first n h, first_open_near n h)

-- closed days add nothing to the count
count_closed : (d k j : ℕ) → ((i : ℕ) → i < j → is_open (d + suc (k + i)) ≡ false) → business_days_in d (k + j) ≡ business_days_in d k
unfolding business_days_in
count_closed d k zero h = let e : k + 0 ≡ k = omega arith in rw e
count_closed d k (suc j) h =
    let e : k + suc j ≡ suc (k + j) = omega arith in
    rw (e, h j (omega arith)) (omega (arith, count_closed d k j (λ i l. h i (omega arith))))

-- the next open day adds one
count_first : (d k r : ℕ) → First (d + k + 1) r → business_days_in d (r - d) ≡ business_days_in d k + 1
unfolding business_days_in
count_first d k r f =
    let j = r - (d + k + 1) in
    let e : r - d ≡ suc (k + j) = omega (arith, f.from) in
    let o : d + suc (k + j) ≡ r = omega (arith, f.from) in
    let c = count_closed d k j (λ i l. f.shut (d + suc (k + i)) (omega arith) (omega (arith, f.from))) in
    rw (e, o, f.is_open_lem, c)

-- the next business day after the n-th
next_open : (n d : ℕ) → open_after (suc n) d < calendar_days → First (open_after n d + 1) (open_after (suc n) d)
next_open n d h =
    let e = add-one n in
    rw e at (open_after_first n d (rw e h))

count_after : (n d : ℕ) → open_after n d < calendar_days → business_days_in d (open_after n d - d) ≡ n
unfolding business_days_in
count_after zero d h =
    let e : open_after 0 d - d ≡ 0 = omega (arith, open_after_zero d) in
    ap (business_days_in d) e
count_after (suc n) d h =
    let f = next_open n d h in
    let l = open_after_from n d in
    let e : d + (open_after n d - d) ≡ open_after n d = omega arith in
    let g : First (d + (open_after n d - d) + 1) (open_after (suc n) d) = rw e f in
    let c = count_first d (open_after n d - d) (open_after (suc n) d) g in
    omega (arith, c, count_after n d (omega (arith, f.from)))

pub nth_business_day : NthBusinessDay
nth_business_day n d h =
    record {
      is_open_lem = (next_open n d h).is_open_lem;
      days = open_after (suc n) d - d;
      after = omega (arith, open_after_from (suc n) d);
      count = count_after (suc n) d h;
    }

pub last_business_day : LastBusinessDay
last_business_day = last_open_exists

-- ---- the ends of the range

pub kept_due_lem : KeptDue
kept_due_lem x r =
    let d = (range_facts x r).is_date_lem in
    record {
      date = kept_date x;
      is = first_business_day_is x d;
      in_range_lem = kept_in_range x r;
      business = kept_date_business x d;
      from = kept_date_from x d;
    }

pub periods_end : PeriodsEnd
unfolding longest
periods_end p x r l =
    let e = range_period_end p x r l in
    record { date = e.date; is = e.is; is_date_lem = e.is_date_lem; from = e.from }

-- ---- how far a due date slides

pub slide_limit_lem : SlideLimit
unfolding leap leap_day month_length is_date days_before year_start day_number year_at month_at date_in date_at date_of computus easter_sunday closed_by closed business_day is_open seek first_open first_business_day kept
slide_limit_lem = record {
  every_date = λ x h. record {
    answer = record { date = kept_date x; slid = record { 0 = slide x } };
    is = kept_is x h;
    first = first_business_day_is x h;
    counted = slide_counted x h;
    limit = omega (arith, slide_near x h);
    none = slide_none x h;
  };
  at_easter = refl;
  from_thursday = refl;
  from_saturday = refl;
}
