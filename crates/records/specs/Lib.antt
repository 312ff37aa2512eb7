-- What the calls for events 1 to 5 promise, by the rows that were found.
pub mod Records  -- the answers and the effects
