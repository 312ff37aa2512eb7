pub mod Laws  -- the laws of safety, for this crate's proofs and its callers'
