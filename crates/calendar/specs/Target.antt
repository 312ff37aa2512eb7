-- Business days. Document 01, "Calendar": all but the weekend and the six TARGET closing days.
-- Days go by their number here; a date stands for its day.
-- Assumes nothing.
use Rattle.std.specs.Prelude.{◌≡◌, Bool, true, false, cond, not, ◌&&◌, [], ◌∷◌, ℕ, zero, suc, ◌+◌, ◌-◌, ◌%◌, ◌≤◌, ◌<◌, ltb, eqb, Option, Some, None}
use Rattle.common.specs.Tests.{any_of}
use Rattle.calendar.specs.Gregorian.{year, month_day, is_date}
use Rattle.calendar.specs.DayNumber.{calendar_days, day_number, date_at, date_of}
use Rattle.calendar.specs.Easter.{easter_sunday}
use Rattle.calendar.specs.declared.CalendarDays.{CalendarDays}
use Rattle.calendar.specs.declared.KeptDate.{KeptDate}

-- ---- business days

-- Monday is 0. The one known weekday: day 0, 1 January 2000, was a Saturday
abbrev pub weekday : ℕ → ℕ
weekday n = (n + 5) % 7

-- the day n, with md its month and day and e the number of its year's Easter Sunday
unfoldable pub closed_by : ℕ → ℕ → ℕ → Bool
closed_by n md e =
    any_of
    (eqb (weekday n) 5  -- Saturday
    ∷ eqb (weekday n) 6  -- Sunday
    ∷ eqb md 101  -- 1 January
    ∷ eqb (n + 2) e  -- Good Friday
    ∷ eqb n (e + 1)  -- Easter Monday
    ∷ eqb md 501  -- 1 May
    ∷ eqb md 1225  -- 25 December
    ∷ eqb md 1226  -- 26 December
    ∷ [])

unfoldable pub closed : ℕ → Bool
closed x = closed_by (day_number x) (month_day x) (day_number (easter_sunday (year x)))

unfoldable pub business_day : ℕ → Bool
business_day x = is_date x && not (closed x)

-- whether the day n is a business day
unfoldable pub is_open : ℕ → Bool
is_open n = ltb n calendar_days && business_day (date_at n)

-- ---- the first business day on or after a day

pub record First (n r : ℕ) : Type 0 where
  pub from : n ≤ r
  pub is_open_lem : is_open r ≡ true
  pub shut : (j : ℕ) → n ≤ j → j < r → is_open j ≡ false

-- the first open one of f days from n on, or the day behind them
unfoldable pub seek : ℕ → ℕ → ℕ
seek zero n = n
seek (suc f) n = cond (is_open n) n (seek f (n + 1))

-- that it lies within four days, and so is `First`, is `FirstBusinessDay` of specs/Promises
unfoldable pub first_open : ℕ → ℕ
first_open n = seek 4 n

-- ---- the n-th business day strictly after a day; with n = 0 the day itself

unfoldable pub open_after : ℕ → ℕ → ℕ
open_after zero d = d
open_after (suc n) d = first_open (open_after n d + 1)

-- ---- the last business day before a day

pub record Last (n r : ℕ) : Type 0 where
  pub before : r < n
  pub is_open_lem : is_open r ≡ true
  pub shut : (j : ℕ) → r < j → j < n → is_open j ≡ false

unfoldable pub last_open_before : ℕ → Option ℕ
last_open_before zero = None
last_open_before (suc n) = let earlier = last_open_before n in cond (is_open n) (Some n) earlier

-- ---- the same for dates

-- the day of an answer, as a date
abbrev pub answer_date : Option ℕ → Option ℕ
answer_date (Some n) = date_of n
answer_date None = None

-- "Kept due is the first business day on or after the requested date"
unfoldable pub first_business_day : ℕ → Option ℕ
first_business_day x = cond (is_date x) (date_of (first_open (day_number x))) None

-- the calendar days from the date x on to a later one, or to x itself
abbrev pub days_to : ℕ → ℕ → CalendarDays
days_to x date = record { 0 = day_number date - day_number x }

-- "The kept due date is now given together with the number of calendar days from the requested one" (document 02, (e))
abbrev pub with_days : ℕ → Option ℕ → Option KeptDate
with_days x (Some date) = Some (record { date = date; slid = days_to x date })
with_days x None = None

unfoldable pub kept : ℕ → Option KeptDate
kept x = with_days x (first_business_day x)

unfoldable pub last_business_day_before : ℕ → Option ℕ
last_business_day_before x = cond (is_date x) (answer_date (last_open_before (day_number x))) None
