-- What several crates share: the numbers of document 01, and tools that belong to no section of it.
pub mod Limits  -- the numbers of document 01
pub mod Tests  -- all of some tests, one of some tests
pub mod Checks  -- an ordered list of checks, each with the answer where it fails
pub mod Walk  -- a test at every number of a walk, and the first number at which one holds
