-- Document 01 over the whole ledger, in definitions; read in this order.
pub mod Actions  -- "Ten events": what each event asks for
pub mod Deadlines  -- "Ten events": kept due, last days and lapse
pub mod Lookups  -- "Records": what the ledger has under a number
pub mod Checks  -- "What is refused, in checking order"
pub mod Effects  -- "Ten events" and "Postings": what an accepted event does
pub mod Step  -- the calls: one event, one query, a list of events
pub mod Bounds  -- tables that are safe: fit, and no position further than the collections can have moved it
pub mod Journal  -- "The journal"
pub mod Noted  -- what the tables hold, as the journal notes it
pub mod Promises  -- demand 3: what is promised of every list of events
