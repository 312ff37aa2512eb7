pub mod Laws  -- the laws that the proofs of this crate cite
