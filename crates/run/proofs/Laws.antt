-- Laws of the run, in the order of specs/. Only these files unfold its definitions; callers cite the laws.
pub mod Run  -- a text taken in pieces, and line by line
pub mod Positions  -- the lines of the listing
pub mod Lines  -- a text by its lines
pub mod Program  -- the whole program: the listing is the journal's
