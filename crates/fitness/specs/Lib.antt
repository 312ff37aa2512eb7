-- Document 01, refusal 2, in definitions.
pub mod Fitness  -- when lent memory is fit
