-- Document 01, "Records", in definitions; read in this order.
pub mod Limits  -- the numbers of the paper
pub mod MandateColumn  -- the columns of a mandate
pub mod CollectionColumn  -- and of a collection
pub mod Records  -- a mandate and a collection as the cells of a row
pub mod Rows  -- rows in a table of cells
pub mod Ledger  -- all that is lent, and a creditor's bank
pub mod Lookup  -- the lowest used row of a number
