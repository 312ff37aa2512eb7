-- Laws of the refusals.
pub mod Refusals  -- 0 is no refusal's number
