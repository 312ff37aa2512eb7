pub mod Ruled  -- the answers to a list of events, by the rules alone, computed
pub mod Example  -- the example of document 01
pub mod EveryKind  -- every kind of event, with each of its codes
pub mod EveryRefusal  -- every refusal of the rules, beside events just inside its limit
