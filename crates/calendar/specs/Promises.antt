-- What is promised of the calendar. Each promise is one type here; proofs/Laws/Promises has a proof of it.
-- Who believes the leap rule, the tests of a date (specs/Gregorian), the eight tests of a closed day and the one known weekday
-- (specs/Target) need not look into the arithmetic of specs/DayNumber, nor into any search.
use Rattle.std.specs.Prelude.{◌≡◌, true, cond, ℕ, zero, suc, ◌+◌, ◌*◌, ◌≤◌, ◌<◌, eqb, Some}
use Rattle.calendar.specs.Gregorian.{is_date, in_range, first_year, last_year}
use Rattle.calendar.specs.DayNumber.{calendar_days, day_number, date_at}
use Rattle.calendar.specs.Easter.{easter_sunday}
use Rattle.calendar.specs.Target.{weekday, business_day, is_open, First, first_open, open_after, Last, last_open_before, first_business_day, kept}
use Rattle.calendar.specs.Periods.{days_after, period_end}
use Rattle.calendar.specs.declared.KeptDate.{KeptDate}
use Rattle.calendar.specs.declared.Period.{Period}

-- ---- dates and day numbers are two names of the same days, in the same order

pub record Conversions : Type 0 where
  pub date_has_day : (x : ℕ) → is_date x ≡ true → day_number x < calendar_days
  pub day_has_date : (n : ℕ) → n < calendar_days → is_date (date_at n) ≡ true
  pub date_and_back : (x : ℕ) → is_date x ≡ true → date_at (day_number x) ≡ x
  pub day_and_back : (n : ℕ) → n < calendar_days → day_number (date_at n) ≡ n
  pub dates_in_order : (x y : ℕ) → is_date x ≡ true → is_date y ≡ true → x < y → day_number x < day_number y
  pub days_in_order : (n m : ℕ) → n < m → m < calendar_days → date_at n < date_at m

-- ---- Easter Sunday is a Sunday of its year, from 22 March to 25 April

pub record IsEaster (y x : ℕ) : Type 0 where
  pub is_date_lem : is_date x ≡ true
  pub sunday : weekday (day_number x) ≡ 6
  pub from : y * 10000 + 322 ≤ x
  pub to : x ≤ y * 10000 + 425

abbrev pub EasterSundays : Type 0
EasterSundays = (y : ℕ) → first_year ≤ y → y ≤ last_year → IsEaster y (easter_sunday y)

-- ---- what is searched for is found, and is what its name says

-- the first business day on or after any day of the calendar; a due date slides by 0 to 4 days
abbrev pub FirstBusinessDay : Type 0
FirstBusinessDay = (n : ℕ) → n < calendar_days → First n (first_open n) × first_open n ≤ n + 4

-- the business days among the k days after the day d
unfoldable pub business_days_in : ℕ → ℕ → ℕ
business_days_in d zero = 0
business_days_in d (suc k) = business_days_in d k + cond (is_open (d + suc k)) 1 0

-- the n-th business day strictly after d: it is one, and with it there are n
pub record Nth (n d r : ℕ) : Type 0 where
  pub is_open_lem : is_open r ≡ true
  pub days : ℕ
  pub after : r ≡ d + days
  pub count : business_days_in d days ≡ n

abbrev pub NthBusinessDay : Type 0
NthBusinessDay = (n d : ℕ) → open_after (suc n) d < calendar_days → Nth (suc n) d (open_after (suc n) d)

-- the last business day before a day is found, at most five days before it; from the sixth day on, so from every date of the range
pub record LastFound (n : ℕ) : Type 0 where
  pub day : ℕ
  pub is : last_open_before n ≡ Some day
  pub last : Last n day
  pub near : n ≤ day + 5

abbrev pub LastBusinessDay : Type 0
LastBusinessDay = (n : ℕ) → 5 ≤ n → n < calendar_days → LastFound n

-- ---- nothing is lost at the ends of the range of events and rows

pub record KeptInRange (x : ℕ) : Type 0 where
  pub date : ℕ
  pub is : first_business_day x ≡ Some date
  pub in_range_lem : in_range date ≡ true
  pub business : business_day date ≡ true
  pub from : x ≤ date

-- a due date of the range is kept in the range
abbrev pub KeptDue : Type 0
KeptDue = (x : ℕ) → in_range x ≡ true → KeptInRange x

-- a period of up to ten years from a date of the range ends on a date, none before its start
pub record EndsAfter (p : Period) (x : ℕ) : Type 0 where
  pub date : ℕ
  pub is : period_end p x ≡ Some date
  pub is_date_lem : is_date date ≡ true
  pub from : x ≤ date

abbrev pub PeriodsEnd : Type 0
PeriodsEnd = (p : Period) (x : ℕ) → in_range x ≡ true → 31 * p.months.0 + p.days.0 + 5 * p.business.0 ≤ 3652 → EndsAfter p x

-- ---- how far a due date slides (document 02, (e)): from the rule of the Easter table, `EasterSundays`, and the other closed days

abbrev pub slide_limit : ℕ
slide_limit = 4

pub record Slides (x : ℕ) : Type 0 where
  pub answer : KeptDate
  pub is : kept x ≡ Some answer
  pub first : first_business_day x ≡ Some answer.date
  -- that lies so many calendar days after x
  pub counted : days_after answer.slid x ≡ Some answer.date
  pub limit : answer.slid.0 ≤ slide_limit
  -- none exactly from a business day
  pub none : eqb answer.slid.0 0 ≡ business_day x

pub record SlideLimit : Type 0 where
  -- for every date of the calendar, 20000101 to 21991231
  pub every_date : (x : ℕ) → is_date x ≡ true → Slides x
  -- the limit is reached: from a Good Friday past Easter Monday, from a 25 December that is a Thursday, and from the Saturday before one
  -- that is a Monday
  pub at_easter : kept 20240329 ≡ Some (record { date = 20240402; slid = record { 0 = slide_limit } })
  pub from_thursday : kept 20251225 ≡ Some (record { date = 20251229; slid = record { 0 = slide_limit } })
  pub from_saturday : kept 20231223 ≡ Some (record { date = 20231227; slid = record { 0 = slide_limit } })
