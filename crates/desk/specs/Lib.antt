-- Questions asked line by line, in definitions: ours (docs/DECISIONS.md, 79), for the request of document 02, (e). Read in this order.
pub mod Lines  -- the lines of a text, and what is written to them, whatever is asked
pub mod Slide  -- the question for the kept due date, and what is said to it
pub mod Promises  -- what is promised of the answers
pub mod Answering  -- vocabulary of private contracts: one line after the other
