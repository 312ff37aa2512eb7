-- What the contracts of the code for an event cite besides the model.
pub mod Calls  -- an answer, and the ledger after it
