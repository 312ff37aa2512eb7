-- Document 01, "The text line" of an event, in definitions; read in this order.
pub mod Line  -- the text line: its bytes, reading it, writing it
pub mod Promises  -- what is promised of every event and every line
