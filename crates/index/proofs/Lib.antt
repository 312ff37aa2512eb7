pub mod Laws  -- the laws of an index, for this crate's proofs and its callers'
