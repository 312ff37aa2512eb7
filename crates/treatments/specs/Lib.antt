-- What the call for events 6 to 10 promises, by the row that was found.
pub mod Treatments  -- the verdict on a collection, and what is written for it
