-- Laws that other crates cite.
pub mod Cells  -- cells that are as many as they should be
