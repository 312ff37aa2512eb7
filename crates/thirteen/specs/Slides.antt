-- Document 02, (e): by how many calendar days a due date slid, and what the ledger hands on of it. A third table, read as the first one; its
-- ledger is that of the first one. Assumes nothing.
use Rattle.std.specs.Prelude.{◌≡◌, List, [], ◌∷◌}
use Rattle.events.specs.declared.Event.{Event}
use Rattle.witness.specs.Opening.{event}
use Rattle.thirteen.specs.Thirteen.{Question, Row, row, Agree, questions_of}
use Rattle.thirteen.specs.Thirteen.Question.{KeptFor, SlidFrom, Answer, Value}

-- ---- the table

-- requested for 25 December 2025, a Thursday, on its 13th day before and on the 15th
abbrev pub for_christmas : Event
for_christmas = event 5 20251212 7 71 0 0 10000 20251225 1

abbrev pub too_early : Event
too_early = event 5 20251210 7 71 0 0 10000 20251225 1

unfoldable pub slide_rows : List Row
slide_rows =
    row (SlidFrom 20240329) 4  -- Good Friday, kept for 2 April
    ∷ row (SlidFrom 20240330) 3
    ∷ row (SlidFrom 20240331) 2
    ∷ row (SlidFrom 20240401) 1  -- Easter Monday
    ∷ row (SlidFrom 20240402) 0  -- a business day
    ∷ row (KeptFor 20251225) 20251229
    ∷ row (SlidFrom 20251225) 4  -- a Thursday
    ∷ row (SlidFrom 20231223) 4  -- a Saturday, 25 December a Monday
    ∷ row (Answer for_christmas) 0
    ∷ row (Value for_christmas) 4
    ∷ row (Answer too_early) 13
    ∷ row (Value too_early) 0  -- a refused collect hands nothing on
    ∷ row (Value (event 8 20240409 0 70 0 0 0 0 0)) 0  -- nor does an accepted return
    ∷ []

-- its questions once more, with each event written out
abbrev pub questions : List Question
questions =
    SlidFrom 20240329
    ∷ SlidFrom 20240330
    ∷ SlidFrom 20240331
    ∷ SlidFrom 20240401
    ∷ SlidFrom 20240402
    ∷ KeptFor 20251225
    ∷ SlidFrom 20251225
    ∷ SlidFrom 20231223
    ∷ Answer (event 5 20251212 7 71 0 0 10000 20251225 1)
    ∷ Value (event 5 20251212 7 71 0 0 10000 20251225 1)
    ∷ Answer (event 5 20251210 7 71 0 0 10000 20251225 1)
    ∷ Value (event 5 20251210 7 71 0 0 10000 20251225 1)
    ∷ Value (event 8 20240409 0 70 0 0 0 0 0)
    ∷ []

-- ---- the statement

pub record SlidDays : Type 0 where
  pub asked : questions_of slide_rows ≡ questions
  pub agree : Agree slide_rows
