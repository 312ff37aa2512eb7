-- Laws of this crate, in the order of specs/. Only these files unfold its definitions; callers cite the laws.
pub mod Lines  -- the lines of a text, and what is written to them, one after the other
pub mod Slide  -- what is said of a requested date
pub mod Pieces  -- an input in pieces
