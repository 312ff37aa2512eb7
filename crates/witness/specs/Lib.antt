-- What is accepted and what is refused: lists of events on a ledger as it is opened, and what each event is answered.
pub mod Opening  -- the tables that the program lends, and the answers to a list of events
pub mod Text  -- the bytes of printed lines, and what the program writes for them
pub mod Example  -- the example of document 01
pub mod EveryKind  -- every kind of event is accepted, with each of its codes
pub mod EveryRefusal  -- every refusal of the rules is given, beside events just inside its limit
