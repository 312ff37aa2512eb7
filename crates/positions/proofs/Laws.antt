-- Laws of positions, in the order of specs/. Only these files unfold its definitions; callers cite the laws.
pub mod Integers  -- sizes of signed numbers, and their 64 bits
pub mod Positions  -- a read after a posting, the order of postings, sums, bounds
pub mod Postings  -- the sums of what an event posts, and of the tables after it
pub mod Rounding  -- what either way to round gives, and where they part
pub mod Compensation  -- how near K is, its order and its bounds
pub mod Products  -- what the second product is, and that K is that product rounded
pub mod Limits  -- the postings of all rows stay within the limit
pub mod Answers  -- what each answer says of the table, and when a posting is made
