-- Laws of fitness. Only this file unfolds its definitions; callers cite the laws.
pub mod Fitness  -- fitness by named facts, and what keeps it
