-- What is answered to the lines of a text (crates/report/specs/Cut): the run said once more, with no byte of it kept back. Document 01, "The
-- text line" and "The journal". Assumes nothing.
use Rattle.std.specs.Prelude.{List, [], ◌∷◌, ◌++◌, ℕ, ◌+◌, eqb, Result, Ok, Err}
use Rattle.events.specs.declared.Event.{Event}
use Rattle.lines.specs.Line.{read_line}
use Rattle.tables.specs.Ledger.{Ledger}
use Rattle.model.specs.Step.{answer_number, Entry, entry}
use Rattle.report.specs.Layout.{answer_line}
use Rattle.run.specs.Run.{answer_to, after_line}
use Rattle.refusals.specs.declared.Refusal.{Refusal}

-- the events that the reader takes
abbrev pub event_in : Result Event Refusal → List Event
event_in (Ok e) = e ∷ []
event_in (Err r) = []

unfoldable pub events_of : List (List ℕ) → List Event
events_of [] = []
events_of (line ∷ rest) = event_in (read_line line) ++ events_of rest

-- the numbers of the answers: each line finds the ledger as the one before left it
unfoldable pub answers_of : Ledger → List (List ℕ) → List ℕ
answers_of l [] = []
answers_of l (line ∷ rest) = answer_number (answer_to l (read_line line)) ∷ answers_of (after_line l (read_line line)) rest

-- what is written of the numbers, where n lines were answered before
unfoldable pub answers_output : ℕ → List ℕ → List ℕ
answers_output n [] = []
answers_output n (a ∷ rest) = answer_line (n + 1) a ++ answers_output (n + 1) rest

-- the history that lines and numbers tell: an event whose number is 0 was accepted
abbrev pub entry_in : Result Event Refusal → ℕ → List Entry
entry_in (Ok e) a = entry e (eqb a 0) ∷ []
entry_in (Err r) a = []

unfoldable pub history_of : List (List ℕ) → List ℕ → List Entry
history_of [] answers = []
history_of (line ∷ rest) [] = []
history_of (line ∷ rest) (a ∷ answers) = entry_in (read_line line) a ++ history_of rest answers
