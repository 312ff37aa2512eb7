pub mod Laws  -- the laws of the lines, for this crate's proofs and its callers'
