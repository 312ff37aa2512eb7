-- Laws of the definitions of specs/, for this crate's proofs and for the crates above it.
pub mod Limits  -- what an event within its limits has, by kind
pub mod Numbers  -- refusals 3, 4 and 5 in the paper's numbers
