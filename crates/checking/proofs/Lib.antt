pub mod Laws  -- the laws of an answer and its effect, for the crates above
