pub mod Laws  -- the laws of the refusals
