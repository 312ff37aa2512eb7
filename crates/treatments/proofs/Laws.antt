-- Laws of events 6 to 10.
pub mod Treatments  -- what is written for a verdict
pub mod Ready  -- on a fit ledger the call is the model's
