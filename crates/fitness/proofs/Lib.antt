pub mod Laws  -- the laws of fitness, for this crate's proofs and its callers'
