-- Laws of this crate.
pub mod Text  -- a text of events: the call for a piece of the program's input
