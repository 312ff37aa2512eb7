-- What is promised of every event and every line: document 01, "The text line", and the buyer's demand 2.
-- Each statement is proved in proofs/Laws/Promises. Assumes nothing.
use Rattle.std.specs.Prelude.{◌≡◌, true, List, [], ◌∷◌, ◌++◌, ℕ, ◌≤◌, length, take, drop, Ok}
use Rattle.common.specs.Tests.{among}
use Rattle.refusals.specs.Refusals.{answer_number}
use Rattle.events.specs.declared.Event.{Event}
use Rattle.events.specs.Limits.{checked}
use Rattle.lines.specs.Line.{line_length, line_of, read_line, write_answer, bytes_after}

-- the line of an event is as long as every line
abbrev pub LineHasItsLength : Type 0
LineHasItsLength = (e : Event) → length (line_of e) ≡ line_length

-- reading what the writer wrote gives the event
abbrev pub ReadsWhatWasWritten : Type 0
ReadsWhatWasWritten =
    (e : Event) (out : List ℕ)  -- any event and any buffer
    → checked e ≡ (Ok tt)  -- the event is within its limits
    → line_length ≤ length out  -- the buffer has room
    → read_line (take line_length (bytes_after e out)) ≡ Ok e

-- writing what was read gives the bytes that it was read from, and leaves the rest of the buffer
abbrev pub WritesWhatWasRead : Type 0
WritesWhatWasRead =
    (l : List ℕ) (e : Event) (out : List ℕ)  -- any bytes, event and buffer
    → read_line l ≡ Ok e  -- the reader takes the bytes for the event
    → line_length ≤ length out  -- the buffer has room
    → bytes_after e out ≡ l ++ drop line_length out

-- an event that the reader takes is within its limits
abbrev pub OnlyWithinIsTaken : Type 0
OnlyWithinIsTaken = (l : List ℕ) (e : Event) → read_line l ≡ Ok e → checked e ≡ (Ok tt)

-- there is a line for each event that is within its limits
abbrev pub EveryEventHasALine : Type 0
EveryEventHasALine = (e : Event) → checked e ≡ (Ok tt) → read_line (line_of e) ≡ Ok e

-- and no other
abbrev pub NoEventHasTwoLines : Type 0
NoEventHasTwoLines = (l : List ℕ) (e : Event) → read_line l ≡ Ok e → l ≡ line_of e

-- two events with one line are equal
abbrev pub NoLineHasTwoEvents : Type 0
NoLineHasTwoEvents = (e f : Event) → checked e ≡ (Ok tt) → checked f ≡ (Ok tt) → line_of e ≡ line_of f → e ≡ f

-- document 01: "the reader gives 1, 3, 4, 5; the line writer 2, 3, 4, 5"; 0 is taken or written
abbrev pub ReaderAnswers : Type 0
ReaderAnswers = (l : List ℕ) → among (0 ∷ 1 ∷ 3 ∷ 4 ∷ 5 ∷ []) (answer_number (read_line l)) ≡ true

abbrev pub WriterAnswers : Type 0
WriterAnswers = (e : Event) (out : List ℕ) → among (0 ∷ 2 ∷ 3 ∷ 4 ∷ 5 ∷ []) (answer_number (write_answer e out)) ≡ true
