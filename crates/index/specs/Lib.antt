-- An index of a table's rows by number.
pub mod Index  -- what stands in an index, how it is followed, and what that gives
