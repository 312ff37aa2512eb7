-- Laws for the proofs of this crate.
pub mod Books  -- the opening
pub mod Queries  -- the position query
pub mod Texts  -- a piece of input
