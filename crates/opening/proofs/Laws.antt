-- Laws of the opening. Only this file unfolds its definitions; callers cite the laws.
pub mod Opening  -- the cleared tables, and what an opened ledger is
