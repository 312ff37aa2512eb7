pub mod Laws  -- the calendar's laws, for its own proofs and its callers'
