pub mod Thirteen  -- the table of specs/Thirteen, proved by one computed test
pub mod HalfCents  -- the table of specs/HalfCents, by the same test, and its totals
pub mod Slides  -- the table of specs/Slides, by the same test
