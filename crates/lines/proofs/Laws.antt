-- Laws of the definitions of specs/, for this crate's proofs and for the crates above it.
pub mod Line  -- fields one after the other, read and written
pub mod Promises  -- the promises of specs/Promises, proved; what a line read into cells leaves in them
pub mod Numbers  -- the answers in the paper's numbers
