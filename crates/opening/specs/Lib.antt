-- Document 01, "Records", the opening, in definitions.
pub mod Opening  -- what an opening answers, and the ledger after it
