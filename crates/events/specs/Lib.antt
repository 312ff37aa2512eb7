-- Document 01, "Ten events", in definitions.
pub mod Fields  -- the nine fields of an event in a list, and the event of a list
pub mod Limits  -- which fields each kind and code names, their limits, and refusals 3, 4 and 5 in checking order
