-- Periods. Document 01, "Calendar": business days, months and calendar days after a date.
-- Counts of calendar days and of business days meet only in a `Period`, whose end the calendar works out.
-- Assumes nothing.
use Rattle.std.specs.Prelude.{Bool, false, cond, ◌&&◌, ℕ, ◌+◌, ◌-◌, ◌*◌, ◌/◌, ◌%◌, min, ltb, leb, Option, Some, None}
use Rattle.calendar.specs.Gregorian.{year, month, day_of_month, date_of_parts, leap_day, month_length, is_date, last_year}
use Rattle.calendar.specs.DayNumber.{day_number, date_of}
use Rattle.calendar.specs.Target.{open_after}
use Rattle.calendar.specs.declared.CalendarDays.{CalendarDays}
use Rattle.calendar.specs.declared.BusinessDays.{BusinessDays}
use Rattle.calendar.specs.declared.Months.{Months}
use Rattle.calendar.specs.declared.Period.{Period}

-- ---- calendar days

unfoldable pub days_after : CalendarDays → ℕ → Option ℕ
days_after n x = cond (is_date x) (date_of (day_number x + n.0)) None

-- the calendar days from a date to one that is not before it
unfoldable pub days_between : ℕ → ℕ → Option CalendarDays
days_between x y = cond (is_date x && is_date y && leb x y) (Some (record { 0 = day_number y - day_number x })) None

-- ---- business days

-- "n business days after D" ("Calendar"): the first that counts is the day after D or later
unfoldable pub business_days_after : BusinessDays → ℕ → Option ℕ
business_days_after n x = cond (is_date x) (date_of (open_after n.0 (day_number x))) None

-- ---- months

-- the months from the start of year 0 to the month n months after that of x
unfoldable pub month_count : ℕ → ℕ → ℕ
month_count n x = year x * 12 + (month x - 1) + n

-- the day d of the month that a count of months leads to, or the last day of a month without such a day
unfoldable pub day_of_month_count : ℕ → ℕ → ℕ
day_of_month_count t d = date_of_parts (t / 12) (t % 12 + 1) (min d (month_length (leap_day (t / 12)) (t % 12 + 1)))

-- "n months after D" ("Calendar"): the day number stays where the month has it
unfoldable pub months_after : Months → ℕ → Option ℕ
months_after n x =
    cond (is_date x && ltb (month_count n.0 x) ((last_year + 1) * 12))
    (Some (day_of_month_count (month_count n.0 x) (day_of_month x)))
    None

-- ---- periods: business days after (months after D) + calendar days

abbrev pub and_then : Option ℕ → (ℕ → Option ℕ) → Option ℕ
and_then (Some x) f = f x
and_then None f = None

unfoldable pub period_end : Period → ℕ → Option ℕ
period_end p x = and_then (and_then (months_after p.months x) (days_after p.days)) (business_days_after p.business)

-- whether a date comes after one that was worked out; nothing comes after one beyond the calendar
abbrev pub is_after : ℕ → Option ℕ → Bool
is_after x (Some limit) = ltb limit x
is_after x None = false
