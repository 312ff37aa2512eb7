-- Laws of the tables, in the order of specs/. Only these files unfold its definitions; callers cite the laws.
pub mod Records  -- a record read from its own cells is the record
pub mod Rows  -- get after put, in the row and outside it
pub mod Ledger  -- a creditor's bank
pub mod Lookup  -- what a lookup says, and what a written row does to it
