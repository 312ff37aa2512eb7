-- Numbers as text, in definitions; read in this order.
pub mod Field  -- a number in a field: its bytes, reading it, a field at a place
pub mod Words  -- vocabulary of private contracts: eight columns at a time
