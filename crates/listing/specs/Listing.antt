-- What the calls for the end of the input and for the listing answer and write, by the run of crates/run. Document 01, "The text
-- line", and refusal 2. Assumes nothing.
use Rattle.std.specs.Prelude.{◌≡◌, Bool, cond, ◌&&◌, List, ℕ, ◌+◌, ◌*◌, leb, ℤ, length, Result, Ok, Err}
use Rattle.refusals.specs.declared.Refusal.{Refusal}
use Rattle.refusals.specs.declared.Refusal.TheVariants.{UnfitMemory}
use Rattle.positions.specs.Positions.{position}
use Rattle.digits.specs.Field.{pasted}
use Rattle.tables.specs.Limits.{creditor_count, debtor_count, bank_count}
use Rattle.tables.specs.Ledger.{Ledger}
use Rattle.fitness.specs.Fitness.{fit}
use Rattle.model.specs.Step.{answer_number}
use Rattle.report.specs.Layout.{answer_length, position_length}
use Rattle.run.specs.Run.{fit_number, end_lines, end_bytes, figures_output, positions_output}
use Rattle.report.specs.declared.layout.Progress.{Progress}

-- ---- the end of the input

-- a buffer without room for an answer is refused, and nothing is written
abbrev pub end_fits : List ℕ → Bool
end_fits out = leb answer_length (length out)

-- the lines answered then, and the bytes written
abbrev pub ended : ℕ → ℕ → Progress
ended lines partial = record { lines = end_lines lines partial; written = length (end_bytes lines partial) }

pub record EndTaken (lines partial : ℕ) (out : List ℕ) (r : Result Progress Refusal) (out' : List ℕ) : Type 0 where
  pub answer_is : r ≡ cond (end_fits out) (Ok (ended lines partial)) (Err UnfitMemory)
  pub number_is : answer_number r ≡ fit_number (end_fits out)
  pub out_is : out' ≡ cond (end_fits out) (pasted 0 (end_bytes lines partial) out) out

-- ---- the listing

-- the bytes that a listing takes at most: a line for each party and bank, and one for the total
abbrev pub listing_room : ℕ
listing_room = (creditor_count + debtor_count + bank_count + 1) * position_length

-- a listing is written where lent memory is fit and the buffer has room for the longest one; else it is refused
unfoldable pub listed : Ledger → List ℕ → Bool
listed l out = fit l && leb listing_room (length out)

-- the listing and its bytes, or refusal 2 and nothing written
pub record Listed (l : Ledger) (out : List ℕ) (r : Result ℕ Refusal) (out' : List ℕ) : Type 0 where
  pub answer_is : r ≡ cond (listed l out) (Ok (length (positions_output l))) (Err UnfitMemory)
  pub number_is : answer_number r ≡ fit_number (listed l out)
  pub out_is : out' ≡ cond (listed l out) (pasted 0 (positions_output l) out) out

-- for private contracts: the lines of one table of positions, from number 1 to n; those of a kind are the lines of its table
abbrev pub table_output : ℕ → List ℤ → ℕ → List ℕ
table_output kind positions n = figures_output kind (position positions) n
