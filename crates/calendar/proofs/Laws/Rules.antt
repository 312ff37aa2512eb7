-- The laws that each function of src/ needs, where they are several: its attribute names them by one ruleset.
-- Assumes nothing.
use Rattle.calendar.proofs.Laws.Gregorian.{leap_day_le, date_valid}
use Rattle.calendar.proofs.Laws.Months.{days_before_le, month_at_of}
use Rattle.calendar.proofs.Laws.Years.{year_start_le, year_at_of, by_fours}
use Rattle.calendar.proofs.Laws.DayNumber.{day_number_lt, rest_lt}
use Rattle.calendar.proofs.Laws.Answers.{day_lt, in_calendar_day, in_calendar_is, in_calendar_none, in_calendar_beyond, date_of_is, date_of_beyond}
use Rattle.calendar.proofs.Laws.Easter.{table_years, easter_of_is, easter_day_of_date, easter_day_of_none}
use Rattle.calendar.proofs.Laws.Open.{weekend_shut}
use Rattle.calendar.proofs.Laws.BusinessDays.{first_open_from, first_open_lt, open_after_zero, open_after_more}
use Rattle.calendar.proofs.Laws.BusinessDates.{kept_day, kept_none, last_business_day_day, last_business_day_none}
use Rattle.calendar.proofs.Laws.Periods.{days_after_day, days_after_none, days_between_days, days_between_later, days_between_no_start, days_between_no_end, business_days_after_day, business_days_after_none, day_of_month_count_day, day_of_month_count_last, months_after_none, months_after_beyond, months_after_is, month_count_is, period_end_no_months, period_end_day, period_end_beyond}
use Rattle.calendar.proofs.Laws.MonthCounts.{months_after_is_date}

-- ---- src/easter.rt

pub ruleset of_easter_sunday = (table_years, easter_of_is)

pub ruleset of_easter_day = (easter_day_of_date, easter_day_of_none)

-- ---- src/gregorian.rt

pub ruleset of_number = (date_valid, leap_day_le, year_start_le, days_before_le)

pub ruleset of_date_in = (month_at_of, leap_day_le)

pub ruleset of_date_of = (in_calendar_day, in_calendar_none, date_of_beyond)

pub ruleset of_place = (by_fours, year_at_of)

pub ruleset of_date_at = (year_at_of, rest_lt, date_of_is)

-- ---- src/target.rt

pub ruleset of_is_open_day = (leap_day_le, weekend_shut)

pub ruleset of_first_open = (in_calendar_day, in_calendar_is, in_calendar_none, in_calendar_beyond, first_open_from, first_open_lt)

pub ruleset of_kept = (kept_day, kept_none, first_open_from)

pub ruleset of_last_business_day_before = (last_business_day_day, last_business_day_none)

-- ---- src/periods.rt

pub ruleset of_days_after = (days_after_day, days_after_none)

pub ruleset of_days_between = (days_between_days, days_between_later, days_between_no_start, days_between_no_end)

pub ruleset of_open_after = (open_after_zero, open_after_more, in_calendar_day)

pub ruleset of_business_days_after = (day_lt, business_days_after_day, business_days_after_none)

pub ruleset of_day_of_month = (day_of_month_count_day, day_of_month_count_last)

pub ruleset of_months_after = (months_after_none, months_after_beyond, months_after_is, month_count_is)

pub ruleset of_period_end = (day_number_lt, months_after_is_date, period_end_no_months, period_end_day, period_end_beyond, in_calendar_day, in_calendar_none)
