-- What the contracts of this crate cite besides the model.
pub mod Text  -- a text of events: the call for a piece of the program's input
