-- Laws of the lines, in the order of specs/. Only these files unfold its definitions; callers cite the laws.
pub mod Cut  -- what an end of a line says
pub mod Lines  -- a text by its lines
pub mod Layout  -- lengths of the lines, and the lines written to a buffer
