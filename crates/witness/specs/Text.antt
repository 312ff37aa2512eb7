-- The bytes of printed lines, how they are read, and what the program writes for an input. Document 01, "The text line".
-- Assumes nothing.
use Rattle.std.specs.Prelude.{List, [], ◌∷◌, ◌++◌, ℕ, Result, Ok}
use Prim.Native.Char.{code}
use Prim.Native.String.{String, [] as noText, ◌∷◌ as ◌then◌}
use Rattle.events.specs.declared.Event.{Event}
use Rattle.lines.specs.Line.{line_end, read_line}
use Rattle.tables.specs.Ledger.{Ledger}
use Rattle.run.specs.Run.{run_at, take_text, text_output, end_text, end_output, positions_output}
use Rattle.refusals.specs.declared.Refusal.{Refusal}

-- a byte for each character, of those below 128
abbrev pub ascii_of : String → List ℕ
ascii_of noText = []
ascii_of (c then s) = code c ∷ ascii_of s

abbrev pub line_with : String → List ℕ
line_with s = ascii_of s ++ (line_end ∷ [])

abbrev pub text_of : List String → List ℕ
text_of [] = []
text_of (s ∷ rest) = line_with s ++ text_of rest

-- what the reader makes of each line
abbrev pub read_of : List String → List (Result Event Refusal)
read_of [] = []
read_of (s ∷ rest) = read_line (line_with s) ∷ read_of rest

abbrev pub taken_of : List Event → List (Result Event Refusal)
taken_of [] = []
taken_of (e ∷ es) = Ok e ∷ taken_of es

-- an answer for each line, for one without its end too, and then the positions
abbrev pub whole_output : Ledger → List ℕ → List ℕ
whole_output l text =
    text_output (run_at l 0 []) text
    ++ end_output (take_text (run_at l 0 []) text)
    ++ positions_output (end_text (take_text (run_at l 0 []) text)).book
