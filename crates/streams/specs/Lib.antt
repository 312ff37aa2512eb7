-- What can be said of standard input and output.
pub mod Streams  -- what a read and a write give, and which bytes
