-- Document 01, "Dates and cents to prove", and document 02, (b) and (e).
pub mod Thirteen  -- the table, and the one statement of every row
pub mod HalfCents  -- half cents by the date of the refund
pub mod Slides  -- how far due dates slid, and what is handed on of it
