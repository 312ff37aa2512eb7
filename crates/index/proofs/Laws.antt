-- Laws of an index. Only these files unfold its definitions; callers cite the laws.
pub mod Making  -- an index made row by row, from the last one on
pub mod Following  -- an index followed gives a row before which none has the number
