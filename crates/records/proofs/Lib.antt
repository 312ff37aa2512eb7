pub mod Laws  -- the laws of events 1 to 5, for this crate's proofs and its callers'
