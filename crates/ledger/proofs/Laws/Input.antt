-- Laws of specs/Input. To cite: `taken_none`, `taken_still`, `taken_on`. Assumes nothing.
use mathlib.Core.Path.{◌≡◌, refl, sym, ap, ◌∙◌, subst}
use mathlib.Core.Bool.{Bool, false, ◌&&◌, ◌||◌}
use mathlib.Core.List.{List, [], ◌++◌}
use Prim.Native.Nat.{ℕ, ◌+◌, ◌-◌, ◌≤◌, ◌<◌}
use native.Mathlib.Nat.{zero-add}
use native.Mathlib.Omega.{arith}
use borrow.Author.Tests.{ltb-false}
use Rattle.std.proofs.lemmas.Bool.{or_parts}
use lib.Arith.{le-zero}
use lib.Dec.{leb, ltb}
use lib.ListN.{length, take, drop, length-append}
use lib.Seq.{take-add, drop-nil}
use Rattle.digits.specs.Field.{pasted}
use Rattle.tables.specs.Ledger.{Ledger}
use Rattle.report.specs.Cut.{lines_from, answered_lines}
use Rattle.report.specs.Layout.{last_number}
use Rattle.run.specs.Run.{Run, run_at, take_text, clipped_length}
use Rattle.report.proofs.Laws.Cut.{Endless}
use Rattle.run.proofs.Laws.Run.{partial_none, partial_text, piece_by_piece}
use Rattle.run.proofs.Laws.Lines.{line_by_line}
use Rattle.listing.specs.Past.{lines_past, goes_past}
use Rattle.listing.proofs.Laws.Past.{past_next}
use Rattle.text.specs.Text.{piece_run}
use Rattle.ledger.specs.declared.Stage.{Stage}
use Rattle.ledger.specs.Input.{passes, Turned, InputTaken}

-- ---- bytes at the front of others

pub front_length : (x out : List ℕ) → length x ≤ length (pasted 0 x out)
front_length x out = omega (arith, length-append x (drop (0 + length x) out))

-- ---- the whole input

nothing_past : (m : ℕ) → false ≡ ltb 0 (length (drop {A = List ℕ} m [])) || (leb last_number 0 && false)
nothing_past m = rw (drop-nil {A = List ℕ} m)

pub taken_none : (l : Ledger) (text : List ℕ) → clipped_length < length text → InputTaken (run_at l 0 []) l 0 0 false text
unfolding take_text lines_from
taken_none l text h = record { input = []; run_is = refl; room = omega (arith, h); past_is = nothing_past (last_number - 0) }

short_room : (n m k : ℕ) → n ≡ m → m ≤ clipped_length → clipped_length < k → n < k
short_room n m k e s h = omega (arith, e, s, h)

-- a read that failed, or gave nothing, leaves what was taken
pub taken_still : (start : Run) (l : Ledger) (lines partial : ℕ) (past : Bool) (text : List ℕ)
    → InputTaken start l lines partial past text
    → (text' : List ℕ)
    → take partial text' ≡ take partial text
    → length text' ≡ length text
    → InputTaken start l lines partial past text'
taken_still start l lines partial past text a text' front same =
    record {
      input = a.input;
      run_is = ap (run_at l lines) front ∙ a.run_is;
      room = omega (arith, a.room, same);
      past_is = a.past_is;
    }

-- a read and its turn
module _ (l₀ l : Ledger) (p : Stage) (text : List ℕ) (a : InputTaken (run_at l₀ 0 []) l p.lines p.partial p.beyond text) where
  module _ (text' : List ℕ) (front : take p.partial text' ≡ take p.partial text) (filled : ℕ) (onward : p.partial ≤ filled) where
    -- the bytes that were read
    abbrev bytes : List ℕ
    bytes = take (filled - p.partial) (drop p.partial text')

    given_is : take filled text' ≡ take p.partial text ++ bytes
    given_is =
        let m : filled ≡ p.partial + (filled - p.partial) = omega (arith, onward) in
        ap (λ (k : ℕ). take k text') m
        ∙ take-add p.partial (filled - p.partial) text'
        ∙ ap (λ (x : List ℕ). x ++ bytes) front

    piece_is : piece_run l p.lines filled text' ≡ take_text (run_at l₀ 0 []) (a.input ++ bytes)
    piece_is =
        ap (take_text (run_at l p.lines [])) given_is
        ∙ ap (λ (r : Run). take_text (run_at r.book r.lines []) (r.partial ++ bytes)) a.run_is
        ∙ sym (piece_by_piece l₀ 0 a.input bytes).after

    module _ (going : p.beyond ≡ false) where
      few : lines_past 0 a.input ≡ 0
      few = le-zero (ltb-false 0 _ (or_parts (ltb 0 (lines_past 0 a.input)) _ (sym a.past_is ∙ going)).0)

      lines_are : p.lines ≡ length (answered_lines 0 a.input)
      lines_are =
          ap (λ (r : Run). r.lines) a.run_is
          ∙ (line_by_line l₀ 0 a.input).count
          ∙ zero-add (length (answered_lines 0 a.input))

      endless : Endless (take p.partial text)
      endless =
          let h = partial_text a.input (run_at l₀ 0 []) (partial_none l₀ 0) in
          subst Endless (sym (ap (λ (r : Run). r.partial) a.run_is)) h.endless

      same_past : passes p.lines (take filled text') (piece_run l p.lines filled text') ≡ passes 0 (a.input ++ bytes) (take_text (run_at l₀ 0 []) (a.input ++ bytes))
      same_past =
          ap (passes p.lines (take filled text')) piece_is
          ∙ ap (λ (x : List ℕ). passes p.lines x (take_text (run_at l₀ 0 []) (a.input ++ bytes))) given_is
          ∙ ap (λ (n : ℕ). goes_past n (take_text (run_at l₀ 0 []) (a.input ++ bytes)).lines (length (take_text (run_at l₀ 0 []) (a.input ++ bytes)).partial)) (past_next a.input few p.lines (take p.partial text) bytes lines_are endless)

      pub taken_on : (out : List ℕ) (r : Stage) (l' : Ledger) (text'' out' : List ℕ)
          → clipped_length < length text''
          → Turned l p filled text' out r l' text'' out'
          → InputTaken (run_at l₀ 0 []) l' r.lines r.partial r.beyond text''
      taken_on out r l' text'' out' h t =
          record {
            input = a.input ++ bytes;
            run_is = t.run_is ∙ piece_is;
            room = short_room _ _ _ t.partial_is (partial_text (take filled text') (run_at l p.lines []) (partial_none l p.lines)).short h;
            past_is = t.past_is ∙ same_past;
          }
