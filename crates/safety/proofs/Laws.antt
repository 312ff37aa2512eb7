-- Laws of safety. Only these files unfold its definitions.
pub mod Sums  -- what the rows have moved, by the tags of their states
pub mod Safety  -- the test passes exactly where the tables are safe
