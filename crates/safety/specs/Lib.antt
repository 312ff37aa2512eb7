-- When lent memory is safe, in definitions.
pub mod Safety  -- fit, and the positions within what the collections have moved
