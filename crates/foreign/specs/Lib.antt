-- What the calls for programs in another language answer and leave, in definitions.
pub mod Books  -- the calls that change the book: opening, an event, a list of events
pub mod Queries  -- the position query
pub mod Texts  -- a text of events, its end, the listing
