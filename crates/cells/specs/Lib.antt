-- What a program in another language lends beside the tables, in definitions.
pub mod Cells  -- a header, an event and the counts of a text in lent cells
