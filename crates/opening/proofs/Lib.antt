pub mod Laws  -- the laws of the opening, for this crate's proofs and its callers'
