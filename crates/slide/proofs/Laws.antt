-- Laws of the program.
pub mod Input  -- a turn, the whole input
