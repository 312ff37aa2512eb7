-- Document 01, "Calendar", in definitions; read in this order.
pub mod Gregorian  -- a date, the leap rule, the range of the dates of events and rows
pub mod DayNumber  -- the twelve counts; a date's day number and back
pub mod Easter  -- the computus
pub mod Target  -- business days, and the first, the next and the last one
pub mod Periods  -- calendar days, business days and months after a date
pub mod Promises  -- what is promised of all of them
