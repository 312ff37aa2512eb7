pub mod Laws  -- the book's laws, for its own proofs
