-- Document 01, "The text line", of the program `ledger`, in definitions; read in this order. What is written for which bytes:
-- crates/run.
pub mod Cut  -- where a line of the input ends, and the lines of a text
pub mod Layout  -- the lines that the program writes
