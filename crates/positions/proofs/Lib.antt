pub mod Laws  -- of positions, postings, compensation and its products, for this crate's proofs and its callers'
