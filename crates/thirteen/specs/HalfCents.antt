-- Document 02, (b): half cents on both sides of the turn of the year, by the date of the refund. A second table, read as the first one, and
-- the total that a ledger answers after refunds of 2025, of both years and of 2026. Assumes nothing.
use Rattle.std.specs.Prelude.{◌≡◌, List, [], ◌∷◌, ◌++◌, ℕ, length, replicate, pos, Ok}
use Rattle.events.specs.declared.Event.{Event}
use Rattle.opening.specs.Opening.{opened}
use Rattle.model.specs.Step.{query, run}
use Rattle.witness.specs.Opening.{event, lent, answers}
use Rattle.thirteen.specs.Thirteen.{Question, Row, row, Agree, questions_of}
use Rattle.thirteen.specs.Thirteen.Question.{Cents}

-- ---- K by the date of the refund

unfoldable pub dated_rows : List Row
dated_rows =
    row (Cents 20251231 5000 360 1) 1
    ∷ row (Cents 20260101 5000 360 1) 0  -- the first date of the rule, though a closed day
    ∷ row (Cents 20260102 5000 360 1) 0
    ∷ row (Cents 20260102 5000 360 3) 2
    ∷ []

abbrev pub questions : List Question
questions =
    Cents 20251231 5000 360 1
    ∷ Cents 20260101 5000 360 1
    ∷ Cents 20260102 5000 360 1
    ∷ Cents 20260102 5000 360 3
    ∷ []

-- ---- two collections of 5,000 cents, both settled on 20251229

abbrev pub two_settled : List Event
two_settled =
    event 1 20251215 0 1 1 0 0 0 0
    ∷ event 2 20251215 7 1 5 2 0 20251215 0
    ∷ event 5 20251215 7 70 0 0 5000 20251229 0
    ∷ event 5 20251215 7 71 0 0 5000 20251229 1
    ∷ event 6 20251229 0 70 0 0 0 0 0
    ∷ event 6 20251229 0 71 0 0 0 0 0
    ∷ []

-- 2.5 cents each: 1 day at 1800, and 4 days at 450
abbrev pub refund_in_2025 : ℕ → Event
refund_in_2025 collection = event 9 20251230 0 collection 1800 0 0 0 0

abbrev pub refund_in_2026 : ℕ → Event
refund_in_2026 collection = event 9 20260102 0 collection 450 0 0 0 0

-- every event of the list is accepted, and the query of total compensation then answers so many cents
pub record TotalAfter (es : List Event) (cents : ℕ) : Type 0 where
  pub accepted : answers (opened lent) es ≡ replicate (length es) 0
  pub total : query (run (opened lent) es) 4 0 ≡ Ok (pos cents)

-- ---- the statement

pub record HalfCents : Type 0 where
  pub asked : questions_of dated_rows ≡ questions
  pub agree : Agree dated_rows
  pub by_the_old_rule : TotalAfter (two_settled ++ (refund_in_2025 70 ∷ refund_in_2025 71 ∷ [])) 6
  pub by_each_rule : TotalAfter (two_settled ++ (refund_in_2025 70 ∷ refund_in_2026 71 ∷ [])) 5
  pub by_the_new_rule : TotalAfter (two_settled ++ (refund_in_2026 70 ∷ refund_in_2026 71 ∷ [])) 4
