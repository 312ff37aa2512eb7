-- Day arithmetic. Document 01, "Calendar": twelve counts, each of the days before a month, with the leap rule.
-- Day 0 is 1 January 2000. That these conversions are right is `Conversions` of specs/Promises, which needs no look at them.
-- Assumes nothing.
use Rattle.std.specs.Prelude.{ℕ, ◌+◌, ◌-◌, ◌*◌, ◌/◌, cond, ◌&&◌, List, [], ◌∷◌, ltb, leb, get_or, Option, Some, None}
use Rattle.calendar.specs.Gregorian.{year, month, day_of_month, date_of_parts, leap_day, is_date, first_year}

-- ---- from a date to its day number

-- the days before each of the twelve months, in a year without a leap day
abbrev pub counts : List ℕ
counts = 0 ∷ 31 ∷ 59 ∷ 90 ∷ 120 ∷ 151 ∷ 181 ∷ 212 ∷ 243 ∷ 273 ∷ 304 ∷ 334 ∷ []

-- the days before the month m in a year with l leap days
unfoldable pub days_before : ℕ → ℕ → ℕ
days_before l m = get_or counts (m - 1) 0 + cond (ltb 2 m) l 0

-- the days before the year 2000 + k
unfoldable pub year_start : ℕ → ℕ
year_start k = 365 * k + (k + 3) / 4 - (k + 99) / 100 + (k + 399) / 400

-- the days of the calendar
abbrev pub calendar_days : ℕ
calendar_days = 73049

unfoldable pub day_number : ℕ → ℕ
day_number x = year_start (year x - first_year) + days_before (leap_day (year x)) (month x) + (day_of_month x - 1)

unfoldable pub day_of : ℕ → Option ℕ
day_of x = cond (is_date x) (Some (day_number x)) None

-- ---- and back

-- a day of the calendar
unfoldable pub in_calendar : ℕ → Option ℕ
in_calendar n = cond (ltb n calendar_days) (Some n) None

-- the year of the day n is 2000 + year_at n: n / 366 or one more
unfoldable pub year_at : ℕ → ℕ
year_at n = cond (leb (year_start (n / 366 + 1)) n) (n / 366 + 1) (n / 366)

-- the month of the day r, from 0, of a year with l leap days: r / 32 + 1 or one more
unfoldable pub month_at : ℕ → ℕ → ℕ
month_at l r = cond (ltb (r / 32) 11 && leb (days_before l (r / 32 + 2)) r) (r / 32 + 2) (r / 32 + 1)

-- the date of the day r, from 0, of the year y
unfoldable pub date_in : ℕ → ℕ → ℕ
date_in y r = date_of_parts y (month_at (leap_day y) r) (r - days_before (leap_day y) (month_at (leap_day y) r) + 1)

unfoldable pub date_at : ℕ → ℕ
date_at n = date_in (first_year + year_at n) (n - year_start (year_at n))

unfoldable pub date_of : ℕ → Option ℕ
date_of n = cond (ltb n calendar_days) (Some (date_at n)) None
