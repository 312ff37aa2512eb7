-- Document 01, "What is refused, in checking order".
pub mod Refusals  -- the number of each refusal
