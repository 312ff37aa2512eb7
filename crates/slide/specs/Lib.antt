-- The program in definitions.
pub mod Input  -- what is read, answered and handed on
