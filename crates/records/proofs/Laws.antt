-- Laws of events 1 to 5.
pub mod Records  -- accepted events by the tests that they passed; answers and effects are the model's
