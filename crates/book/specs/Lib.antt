-- What the contracts of the book cite besides the model.
pub mod Acting  -- an event acted on by the rows that were found
pub mod Events  -- the calls for an event and for a query
