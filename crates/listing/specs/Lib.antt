-- What the program `ledger` writes at the end of its input, in definitions.
pub mod Listing  -- the calls for the end of the input and for the listing
pub mod Past  -- the lines past the last that is answered
