-- Vocabulary of the private contracts of src/answering.rt, which answers one line after the other. No promise and no public contract cites
-- it: what a call leaves stands in specs/Lines alone. Assumes nothing.
use Rattle.std.specs.Prelude.{◌≡◌, cond, List, ℕ, ◌+◌, ◌≤◌, ltb, length, drop, Option, None}
use Rattle.digits.specs.Field.{pasted}
use Rattle.report.specs.Cut.{end_from, answered_lines}
use Rattle.report.specs.Layout.{last_number}
use Rattle.report.specs.declared.layout.Progress.{Progress}
use Rattle.desk.specs.declared.answering.Answered.{Answered}
use Rattle.desk.specs.Lines.{rest_behind, numbered, lines_output}

-- the end of the next line that is answered, from a place on, where n were before
unfoldable pub next_end : ℕ → List ℕ → ℕ → Option ℕ
next_end n text at = cond (ltb n last_number) (end_from text at) None

-- each answer has so many bytes
pub record AllWide (wide : ℕ) (said : List ℕ → List ℕ) : Type 0 where
  pub each : (number : ℕ) (line : List ℕ) → length (numbered number (said line)) ≡ wide

-- ---- a line, where p.lines were answered before

pub record LineAnswered (said : List ℕ → List ℕ) (p : Progress) (line out : List ℕ) (r : Progress) (out' : List ℕ) : Type 0 where
  pub lines_are : r.lines ≡ p.lines + 1
  pub bytes : out' ≡ pasted p.written (numbered (p.lines + 1) (said line)) out
  pub written : r.written ≡ p.written + length (numbered (p.lines + 1) (said line))

-- ---- the lines of a text, where n were answered before

pub record LinesAnswered (said : List ℕ → List ℕ) (n : ℕ) (text out : List ℕ) (r : Answered) (out' : List ℕ) : Type 0 where
  pub lines_are : r.progress.lines ≡ n + length (answered_lines n text)
  pub bytes : out' ≡ pasted 0 (lines_output said n (answered_lines n text)) out
  pub written : r.progress.written ≡ length (lines_output said n (answered_lines n text))
  -- the rest begins at a place
  pub rest : drop r.at text ≡ rest_behind n text
  pub inside : r.at ≤ length text
