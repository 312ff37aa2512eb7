-- Laws for every crate.
pub mod Tests  -- of specs/Tests: what a list of tests that passed, or failed, says
pub mod Made  -- a list of tests that passes, from a proof of each
pub mod Walk  -- of specs/Walk: the steps of a walk, and what its answer says
pub mod Checks  -- of specs/Checks: a list of checks that gives no error passed each test
