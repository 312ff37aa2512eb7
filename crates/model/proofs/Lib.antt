pub mod Laws  -- the laws of the model, and the theorem over every list
