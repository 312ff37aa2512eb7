-- Document 01, "Postings", and document 02, (b) and (g), in definitions; read in this order.
pub mod Positions  -- a table of signed positions: a posting, a transfer, the sum, the limit
pub mod Postings  -- what a settle, its opposite and a refund post
pub mod Compensation  -- K, how it is rounded by the date of the refund, and what holds of both ways
pub mod Products  -- the products by which K is worked out, and the calls for them
pub mod Limits  -- how far the postings of all rows can carry a position
pub mod Answers  -- what the calls answer, and what they leave in the table
