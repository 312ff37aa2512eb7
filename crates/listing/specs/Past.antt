-- The lines past the last that is answered. Document 01, "The text line": the program reads at most 999,999 lines. `PastHolds` says the
-- same by the lines that there are and those that the run answers; proofs/Laws/Past has the proof. Assumes nothing.
use Rattle.std.specs.Prelude.{◌≡◌, Bool, cond, ◌&&◌, ◌||◌, List, [], ℕ, ◌+◌, ◌-◌, ◌≤◌, ◌<◌, leb, ltb, length, drop}
use Rattle.report.specs.Cut.{lines_from, answered_lines}
use Rattle.report.specs.Layout.{last_number}
use Rattle.run.specs.Run.{end_lines}

-- how many lines of a text are not answered, where n were answered before: `answered_lines` of crates/report takes the others
abbrev pub lines_past : ℕ → List ℕ → ℕ
lines_past n text = length (drop (last_number - n) (lines_from [] text))

-- whether there is input past it: lines, or where the last is answered the bytes of a partial one
abbrev pub goes_past : ℕ → ℕ → ℕ → Bool
goes_past over lines partial = ltb 0 over || (leb last_number lines && ltb 0 partial)

-- ---- what is promised of both

pub record PastHolds : Type 0 where
  -- a line of a text is answered or past the last
  pub all_lines : (n : ℕ) (text : List ℕ) → length (answered_lines n text) + lines_past n text ≡ length (lines_from [] text)
  -- where one is past the last, the last was answered
  pub last_answered : (n : ℕ) (text : List ℕ) → 0 < lines_past n text → last_number ≤ n + length (answered_lines n text)
  -- there is then input past the last exactly where there are more lines, a partial one among them, than are answered at the end of the input
  pub more_lines :
      (over lines partial : ℕ)
      → (0 < over → last_number ≤ lines)
      → goes_past over lines partial ≡ ltb (end_lines lines partial) (lines + over + cond (ltb 0 partial) 1 0)
