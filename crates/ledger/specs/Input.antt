-- The program's input. Nothing says which bytes `read` gives; what is said is that there are bytes of which the run of
-- crates/run/specs/Run makes what the program hands on. Assumes nothing.
use Rattle.std.specs.Prelude.{◌≡◌, Bool, List, ℕ, ◌+◌, ◌*◌, ◌≤◌, ◌<◌, length, take, Result, Ok, Err, IfOk}
use Rattle.digits.specs.Field.{pasted}
use Rattle.tables.specs.Ledger.{Ledger}
use Rattle.report.specs.Layout.{answer_length}
use Rattle.run.specs.Run.{Run, run_at, take_text}
use Rattle.listing.specs.Past.{lines_past, goes_past}
use Rattle.text.specs.Text.{piece_run, piece_output}
use Rattle.streams.specs.declared.StreamFailed.{StreamFailed}
use Rattle.ledger.specs.declared.Stage.{Stage}

-- ---- a read behind the first `partial` bytes: how many there are then, unless it failed

abbrev pub filled_after : ℕ → Result ℕ StreamFailed → Result ℕ StreamFailed
filled_after partial (Ok n) = Ok (partial + n)
filled_after partial (Err e) = Err e

-- so many bytes are in a text, and none of the first `partial` is gone
pub record Filled (partial filled long : ℕ) : Type 0 where
  pub onward : partial ≤ filled
  pub inside : filled ≤ long

-- bytes were put behind the first `partial`, which are as they were; where the read did not fail, so many are there now
pub record Behind (partial : ℕ) (text : List ℕ) (r : Result ℕ StreamFailed) (text' : List ℕ) : Type 0 where
  pub front : take partial text' ≡ take partial text
  pub filled : IfOk r (λ n. Filled partial n (length text'))

-- ---- a turn: the first `filled` bytes of the text are given to the run

-- they are there, and the buffer has room for an answer to each byte of the text
pub record Given (filled : ℕ) (text out : List ℕ) : Type 0 where
  pub inside : filled ≤ length text
  pub room : answer_length * length text ≤ length out

-- whether the bytes given, where n lines were answered before, go past the last that is answered; they take the run to s
abbrev pub passes : ℕ → List ℕ → Run → Bool
passes n given s = goes_past (lines_past n given) s.lines (length s.partial)

-- the run handed on, its partial line at the front of the text, and the answers to be written
pub record Turned (l : Ledger) (p : Stage) (filled : ℕ) (text out : List ℕ) (r : Stage) (l' : Ledger) (text' out' : List ℕ) : Type 0 where
  pub run_is : run_at l' r.lines (take r.partial text') ≡ piece_run l p.lines filled text
  pub partial_is : r.partial ≡ length (piece_run l p.lines filled text).partial
  pub text_is : text' ≡ pasted 0 (piece_run l p.lines filled text).partial text
  pub written_is : r.written ≡ length (piece_output l p.lines filled text)
  pub out_is : out' ≡ pasted 0 (piece_output l p.lines filled text) out
  pub past_is : r.beyond ≡ passes p.lines (take filled text) (piece_run l p.lines filled text)

-- ---- the whole input: some bytes take the run from the start to what is handed on

pub record InputTaken (start : Run) (l : Ledger) (lines partial : ℕ) (past : Bool) (text : List ℕ) : Type 0 where
  pub input : List ℕ
  pub run_is : run_at l lines (take partial text) ≡ take_text start input
  -- there is room to read on
  pub room : partial < length text
  pub past_is : past ≡ passes 0 input (take_text start input)

-- the same for one who is not handed on how many lines were answered, nor how long the partial line is
pub record InputMade (start : Run) (l : Ledger) (text : List ℕ) : Type 0 where
  pub lines : ℕ
  pub partial : ℕ
  pub past : Bool
  pub taken : InputTaken start l lines partial past text
