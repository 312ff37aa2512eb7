-- Dates. Document 01, "Calendar": YYYYMMDD, a day that the Gregorian calendar has; those of events and rows have a range.
-- The calendar itself covers the years of the Easter table, so that what is counted from such a date lies in it too.
-- Assumes nothing.
use Rattle.std.specs.Prelude.{ℕ, ◌+◌, ◌*◌, ◌/◌, ◌%◌, Bool, cond, not, ◌&&◌, ◌||◌, [], ◌∷◌, leb, eqb}
use Rattle.common.specs.Tests.{all_of}

-- ---- the parts of YYYYMMDD

abbrev pub year : ℕ → ℕ
year x = x / 10000

abbrev pub month : ℕ → ℕ
month x = x / 100 % 100

abbrev pub day_of_month : ℕ → ℕ
day_of_month x = x % 100

-- MMDD
abbrev pub month_day : ℕ → ℕ
month_day x = x % 10000

abbrev pub date_of_parts : ℕ → ℕ → ℕ → ℕ
date_of_parts y m d = y * 10000 + m * 100 + d

-- ---- a real Gregorian day

unfoldable pub leap : ℕ → Bool
leap y = eqb (y % 4) 0 && (not (eqb (y % 100) 0) || eqb (y % 400) 0)

-- the leap days of a year: 1 or 0
unfoldable pub leap_day : ℕ → ℕ
leap_day y = cond (leap y) 1 0

-- the days of the month m in a year with l leap days
unfoldable pub month_length : ℕ → ℕ → ℕ
month_length l m = cond (eqb m 2) (28 + l) (cond (eqb m 4 || eqb m 6 || eqb m 9 || eqb m 11) 30 31)

-- the calendar's years, those of the Easter table
abbrev pub first_year : ℕ
first_year = 2000

abbrev pub last_year : ℕ
last_year = 2199

unfoldable pub is_date : ℕ → Bool
is_date x =
    all_of
    (leb first_year (year x)
    ∷ leb (year x) last_year
    ∷ leb 1 (month x)
    ∷ leb (month x) 12
    ∷ leb 1 (day_of_month x)
    ∷ leb (day_of_month x) (month_length (leap_day (year x)) (month x))
    ∷ [])

-- ---- dates of events and rows

abbrev pub first_date : ℕ
first_date = 20100101

abbrev pub last_date : ℕ
last_date = 21891231

unfoldable pub in_range : ℕ → Bool
in_range x = is_date x && leb first_date x && leb x last_date
