pub mod Laws  -- the laws of events 6 to 10, for this crate's proofs and its callers'
