-- Where a line of the input ends, and the lines of a text. Document 01, "The text line": at a byte 10 and nowhere else. Bytes are numbers.
-- To cite: proofs/Laws/Cut. Assumes nothing.
use Rattle.std.specs.Prelude.{◌≡◌, ◌≢◌, Bool, true, false, cond, List, [], ◌∷◌, ◌++◌, ℕ, ◌+◌, ◌-◌, ◌≤◌, ◌<◌, eqb, length, take, get_or, Option, Some, None}
use Rattle.common.specs.Walk.{first_from}
use Rattle.lines.specs.Line.{line_end}
use Rattle.report.specs.Layout.{last_number}

abbrev pub ends_at : List ℕ → ℕ → Bool
ends_at text i = eqb (get_or text i 0) line_end

-- the first end of a line from a place on; there is none past the last byte
unfoldable pub end_from : List ℕ → ℕ → Option ℕ
end_from text from = first_from (ends_at text) Some None from (length text - from)

abbrev pub is_none : Option ℕ → Bool
is_none None = true
is_none (Some i) = false

abbrev pub is_at : ℕ → Option ℕ → Bool
is_at k None = false
is_at k (Some i) = eqb i k

-- the first byte that ends a line is at i
abbrev pub IsFirstEnd : List ℕ → ℕ → Type 0
IsFirstEnd text i = (i < length text) × (get_or text i 0 ≡ line_end) × ((k : ℕ) → k < i → get_or text k 0 ≢ line_end)

-- ---- a text by its lines

-- each byte 10 ends a line; the bytes of a partial one stand before the text
unfoldable pub lines_from : List ℕ → List ℕ → List (List ℕ)
lines_from partial [] = []
lines_from partial (b ∷ bs) =
    cond (eqb b line_end)
    ((partial ++ (b ∷ [])) ∷ lines_from [] bs)
    (lines_from (partial ++ (b ∷ [])) bs)

-- those that are answered, where n were before: no more than 999,999 are
unfoldable pub answered_lines : ℕ → List ℕ → List (List ℕ)
answered_lines n text = take (last_number - n) (lines_from [] text)

abbrev pub NoMoreAnswered : Type 0
NoMoreAnswered = (n : ℕ) (text : List ℕ) → n ≤ last_number → n + length (answered_lines n text) ≤ last_number

-- the bytes behind the last
unfoldable pub last_from : List ℕ → List ℕ → List ℕ
last_from partial [] = partial
last_from partial (b ∷ bs) = cond (eqb b line_end) (last_from [] bs) (last_from (partial ++ (b ∷ [])) bs)

abbrev pub last_piece : List ℕ → List ℕ
last_piece text = last_from [] text
