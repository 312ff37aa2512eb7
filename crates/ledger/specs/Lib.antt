-- The program in definitions, in the order of its run.
pub mod Input  -- what is read, answered and handed on
pub mod Program  -- what a run begins with, and what it shows at the end
