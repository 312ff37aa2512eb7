-- Laws of specs/Listing and specs/Past. Only these files unfold their definitions; callers cite the laws.
pub mod Ending  -- the end of the input
pub mod Listing  -- the listing of positions, and how far it is written
pub mod Past  -- the lines past the last that is answered
