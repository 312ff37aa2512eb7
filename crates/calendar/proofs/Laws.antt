-- Laws of the calendar, in the order of specs/. Only these files unfold its definitions; callers cite the laws.
pub mod Gregorian  -- what a date is, and the bounds of its parts
pub mod Months  -- the month of a day of the year
pub mod Years  -- the year of a day
pub mod DayNumber  -- the conversions: inverse, and in the order of the dates
pub mod Answers  -- what an answer says of a date or a day
pub mod Easter  -- the table is the computus, and where Easter lies
pub mod Target  -- business days; the first one is unique and in the order of the days
pub mod Holidays  -- of five days in a row one is a business day
pub mod Open  -- a business day by its place in the year
pub mod BusinessDays  -- the first, the n-th and the last business day
pub mod BusinessDates  -- the same for dates; a due date of the range is kept in it
pub mod Periods  -- calendar days, business days and months after a date
pub mod MonthCounts  -- the date some months after another, and how far it lies
pub mod PeriodEnds  -- every period from a date of the range ends in the calendar, and ends keep the order
pub mod Rules  -- the laws that the functions of src/ need
pub mod Promises  -- the promises of specs/Promises, proved
