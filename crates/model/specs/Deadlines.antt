-- Document 01, "Ten events": the kept due, the last days after a settle, the lapse of a mandate. What an
-- error here is caught by is worded in specs/Promises and specs/Journal. Assumes nothing.
use Rattle.std.specs.Prelude.{Bool, cond, not, ◌&&◌, ℕ, ◌-◌, eqb, Option, Some, None}
use Rattle.calendar.specs.DayNumber.{day_number}
use Rattle.calendar.specs.Target.{first_business_day, kept, last_business_day_before}
use Rattle.calendar.specs.Periods.{days_after, months_after, period_end, is_after}
use Rattle.calendar.specs.declared.CalendarDays.{CalendarDays}
use Rattle.calendar.specs.declared.KeptDate.{KeptDate}
use Rattle.calendar.specs.declared.Period.{Period}
use Rattle.model.specs.declared.Way.{Way}
use Rattle.model.specs.declared.Way.TheVariants.{ByReturn, ByRefund, ByReversal}
use Rattle.model.specs.declared.Authorisation.TheVariants.{Authorised, Unauthorised}

-- ---- the kept due

-- a date that was worked out; from dates in range there is always one
abbrev pub date_found : Option ℕ → ℕ
date_found (Some x) = x
date_found None = 0

-- "Kept due is the first business day on or after the requested date" ("Ten events")
unfoldable pub kept_due : ℕ → ℕ
kept_due requested = date_found (first_business_day requested)

-- "together with the number of calendar days from the requested one" (document 02, (e)); none where no date is kept
abbrev pub days_found : Option KeptDate → CalendarDays
days_found (Some k) = k.slid
days_found None = record { 0 = 0 }

unfoldable pub slid : ℕ → CalendarDays
slid requested = days_found (kept requested)

abbrev pub kept_with_days : ℕ → KeptDate
kept_with_days requested = record { date = kept_due requested; slid = slid requested }

-- ---- when a collect comes, refusal 13

-- it is requested for at most 14 calendar days ahead of the event date
abbrev pub soon_enough : ℕ → ℕ → Bool
soon_enough date requested = not (is_after requested (days_after (record { 0 = 14 }) date))

-- it is presented no later than on the last business day that precedes the kept due
abbrev pub early_enough : ℕ → ℕ → Bool
early_enough date requested = not (is_after date (last_business_day_before (kept_due requested)))

unfoldable pub timely : ℕ → ℕ → Bool
timely date requested = soon_enough date requested && early_enough date requested

-- ---- last days, by the settled day

abbrev pub period : ℕ → ℕ → ℕ → Period
period months days business =
    record { months = record { 0 = months }; days = record { 0 = days }; business = record { 0 = business } }

-- the periods of a scheme
pub record Profile : Type 0 where
  pub returning : Period
  pub reversing : Period
  pub authorised : Period
  pub unauthorised : Period

-- the Core scheme, source 004
abbrev pub core : Profile
core = record {
  returning = period 0 0 5;
  reversing = period 0 0 5;
  authorised = period 0 56 2;
  unauthorised = period 13 30 4;
}

abbrev pub period_of : Profile → Way → Period
period_of p ByReturn = p.returning
period_of p (ByRefund rate Authorised) = p.authorised
period_of p (ByRefund rate Unauthorised) = p.unauthorised
period_of p ByReversal = p.reversing

unfoldable pub last_day : Way → ℕ → Option ℕ
last_day way settled = period_end (period_of core way) settled

-- the event date is not after the last day
abbrev pub in_time : Way → ℕ → ℕ → Bool
in_time way settled date = not (is_after date (last_day way settled))

-- the calendar days since the settle
abbrev pub days_since : ℕ → ℕ → ℕ
days_since settled date = day_number date - day_number settled

-- ---- lapse

-- the end of 36 months that run from the kept due last presented or, where nothing was presented, from signing
unfoldable pub lapse_end : ℕ → ℕ → Option ℕ
lapse_end presented signed = months_after (record { 0 = 36 }) (cond (eqb presented 0) signed presented)

-- a collect of this kept due comes after that end
abbrev pub lapsed_for : ℕ → ℕ → ℕ → Bool
lapsed_for due presented signed = is_after due (lapse_end presented signed)
