-- Laws of the definitions of specs/, for this crate's proofs and for the crates above it.
pub mod Field  -- a field's bytes, what is read of them, signs
pub mod Buffer  -- the room of a field, the buffer as it is written
pub mod Words  -- eight columns at a time
