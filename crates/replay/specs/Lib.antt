-- What the contracts of this crate cite besides the model.
pub mod Replay  -- a lent list of events, given to an opened ledger
