pub mod Laws  -- of the calls
