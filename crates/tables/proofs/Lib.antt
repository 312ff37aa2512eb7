pub mod Laws  -- the laws of the tables, for this crate's proofs and its callers'
