-- Laws of the deadlines in code.
pub mod Collects  -- the terms of a collect
