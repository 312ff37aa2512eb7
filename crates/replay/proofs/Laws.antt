-- Laws of this crate.
pub mod Replay  -- a lent list of events, given to an opened ledger
