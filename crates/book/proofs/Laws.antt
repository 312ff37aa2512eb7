-- Laws of the book. Only these files unfold its definitions.
pub mod Events  -- the call for an event
pub mod Queries  -- the position query
