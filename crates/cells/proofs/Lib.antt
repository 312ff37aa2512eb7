pub mod Laws  -- of the lent cells
