-- Laws of the model, up to demand 3. Only these files unfold its definitions.
pub mod Actions  -- what an event of each kind asks for
pub mod Views  -- what is known under a number, after a row is written
pub mod Sound  -- an event within its limits, and what its acceptance says
pub mod Effects  -- what an effect is where the row of its number is known
pub mod Accepted  -- what acceptance says, and the ledger after an event by its answer
pub mod Limits  -- the limits of the rules are dates
pub mod Refunds  -- what a refund posts, by the rule of its date
pub mod Wordings  -- the journal's words and the step's say the same
pub mod Agree  -- a ledger and a journal that agree
pub mod KeptMandates  -- events 1 to 5 keep the agreement
pub mod KeptTreatments  -- events 6 to 10 keep the agreement
pub mod AnyStart  -- every list keeps the agreement, whatever tables it starts on
pub mod Counts  -- of each collection as much was accepted as its state says
pub mod Spent  -- how far the collections can have moved a position
pub mod Bounds  -- the positions stay within what the collections have moved, and the sums stay zero
pub mod FitKept  -- every accepted event keeps the tables fit
pub mod Invariant  -- what every accepted event keeps of the tables
pub mod Batch  -- a list of events keeps the tables safe, and the sums zero
pub mod Opened  -- what the answer to an opening says of the tables
pub mod Lists  -- an entry of a history, and the ledger that it was given to
pub mod Sums  -- the sum of what the ledger answers
pub mod Theorem  -- demand 3, proved
pub mod Grown  -- every event leaves the used rows where they are, with their numbers
pub mod Answers  -- the answers in the paper's numbers
pub mod Handed  -- what an answer hands on: the days that a due date slid
