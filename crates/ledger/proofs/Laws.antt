-- Laws of the program, in the order of specs/.
pub mod Input  -- a read, a turn, the whole input
pub mod Program  -- the start and the end of a run
