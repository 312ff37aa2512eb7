-- Document 01, "The text line", of the program `ledger` and its input, in definitions; read in this order.
pub mod Run  -- the whole run: bytes in, bytes out
pub mod Lines  -- a text by its lines
pub mod Promises  -- what is promised of a run
