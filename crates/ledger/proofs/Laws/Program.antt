-- Laws of specs/Program. To cite: `begins_opened`, `rows_lent`, `listing_taken`, `room_after`, `shown_after`, `run_shown`. Assumes nothing.
use Rattle.std.proofs.Common.{Ok, Result}
use mathlib.Core.Path.{◌≡◌, refl, sym, ap, subst, ◌∙◌}
use mathlib.Core.Bool.{Bool, true}
use mathlib.Core.List.{List, [], ◌++◌}
use Prim.Native.Nat.{ℕ, ◌+◌, ◌-◌, ◌/◌, ◌≤◌}
use native.Mathlib.Nat.{le_of_lt}
use native.Mathlib.Omega.{arith}
use borrow.Author.Tests.{le-leb}
use borrow.Author.Rules.{part_to_end}
use lib.Dec.{leb}
use lib.ListN.{length, take, drop, replicate, length-replicate, length-drop}
use lib.Seq.{take-append_seam, length-take-le}
use Rattle.std.proofs.lemmas.Bool.{cond_both}
use Rattle.common.proofs.Tests.{and_true}
use Rattle.tables.specs.Limits.{stride}
use Rattle.tables.specs.Rows.{rows}
use Rattle.tables.specs.Ledger.{Ledger}
use Rattle.fitness.specs.Fitness.{fit}
use Rattle.refusals.specs.Refusals.{answer_number}
use Rattle.opening.specs.Opening.{open_result, opening}
use Rattle.model.proofs.Laws.Answers.{query_facts}
use Rattle.model.proofs.Laws.Opened.{was_opened}
use Rattle.report.specs.Cut.{answered_lines}
use Rattle.report.specs.declared.layout.Progress.{Progress}
use Rattle.report.specs.Layout.{answer_length, answer_line}
use Rattle.listing.specs.Listing.{end_fits, ended, EndTaken, listing_room, listed, Listed}
use Rattle.run.specs.Run.{Run, run_at, take_text, ends_line, end_bytes, end_output, positions_output}
use Rattle.run.specs.Promises.{TextKept}
use Rattle.run.proofs.Laws.Lines.{line_by_line}
use Rattle.report.proofs.Laws.Layout.{length_answer_line}
use Rattle.listing.proofs.Laws.Listing.{listed_is}
use Rattle.run.proofs.Laws.Program.{program_kept}
use Rattle.ledger.specs.Input.{InputTaken}
use Rattle.ledger.specs.Program.{mandate_rows, collection_rows, Begins, LastRoom, last_output, Finished, Shown, RunShown}
use Rattle.refusals.specs.declared.Refusal.{Refusal}

-- ---- the start

-- the tables t were opened
pub begins_opened : (t l : Ledger) (answer : Result Unit Refusal)
    → open_result (answer_number answer) l ≡ opening t
    → answer ≡ (Ok tt)
    → rows t.mandates ≡ mandate_rows
    → rows t.collections ≡ collection_rows
    → Begins l
begins_opened t l answer e a m c =
    let w = was_opened t l answer e a in
    record { tables = t; accepted = w.sizes; is_opened = w.is; mandates = m; collections = c }

-- rows of zeros
pub rows_lent : (n : ℕ) → rows (replicate n 0) ≡ n / stride
rows_lent n = ap (λ (k : ℕ). k / stride) (length-replicate {A = ℕ} n 0)

-- ---- the end

last_short : (lines partial : ℕ) → length (end_bytes lines partial) ≤ answer_length
last_short lines partial =
    cond_both (ends_line lines partial) (answer_line (lines + 1) 1) [] (λ (x : List ℕ). length x ≤ answer_length)
    (λ _. omega (arith, length_answer_line (lines + 1) 1))
    (λ _. omega arith)

module _ (l : Ledger) (lines partial : ℕ) (out : List ℕ) (h : LastRoom l out) (e : Result Progress Refusal) (out' : List ℕ) (t : EndTaken lines partial out e out') where
  ends : end_fits out ≡ true
  ends = le-leb answer_length (length out) (omega (arith, h.room))

  -- the buffer has room for the answer
  end_taken : e ≡ Ok (ended lines partial)
  end_taken = rw ends at t.answer_is

  module _ (end : Progress) (is : e ≡ Ok end) where
    written_is : end.written ≡ length (end_bytes lines partial)
    written_is = ap (λ (r : Progress). r.written) (let same : end ≡ ended lines partial = cc end_taken in same)

    module _ (same : length out' ≡ length out) (r : Result ℕ Refusal) (part : List ℕ) (s : Listed l (take (length out' - end.written) (drop end.written out')) r part) where
      abbrev behind : List ℕ
      behind = drop end.written out'

      rest_is : take (length out' - end.written) behind ≡ behind
      rest_is = part_to_end out' end.written

      listing_fits : listed l behind ≡ true
      listing_fits =
          let n = length-drop end.written out' in
          let room = le-leb listing_room (length behind) (omega (arith, h.room, same, written_is, last_short lines partial)) in
          sym (listed_is l behind (fit l) (leb listing_room (length behind)) refl refl) ∙ and_true h.fits room

      taken : Listed l behind r part
      taken = subst (λ (x : List ℕ). Listed l x r part) rest_is s

      -- and for the listing behind it
      pub listing_taken : r ≡ Ok (length (positions_output l))
      listing_taken = rw listing_fits at taken.answer_is

module _ (l : Ledger) (lines partial : ℕ) (out : List ℕ) (bytes : ℕ) (out' : List ℕ) (f : Finished l lines partial out bytes out') where
  finished_front : take bytes out' ≡ last_output l lines partial
  finished_front =
      let x = last_output l lines partial in
      rw (f.bytes_are, f.out_is) (take-append_seam x (drop (0 + length x) out))

-- ---- the whole run

text_kept : (l : Ledger) → Begins l → (input : List ℕ) → TextKept l (answered_lines 0 input) (take_text (run_at l 0 []) input)
text_kept l b input = rw b.is_opened (program_kept b.tables b.accepted input)

module _ (l l' : Ledger) (lines partial : ℕ) (past : Bool) (text : List ℕ) (b : Begins l) (t : InputTaken (run_at l 0 []) l' lines partial past text) where
  book_is : l' ≡ (take_text (run_at l 0 []) t.input).book
  book_is = ap (λ (r : Run). r.book) t.run_is

  pub room_after : (out : List ℕ) → answer_length + listing_room ≤ length out → LastRoom l' out
  room_after out h =
      let e = (line_by_line l 0 t.input).after in
      let f = query_facts _ 4 0 _ ((text_kept l b t.input).all_kept.figures 4 0 refl) in
      record { fits = ap fit (book_is ∙ e) ∙ f.0; room = h }

  -- the bytes of the partial line
  last_is : end_bytes lines partial ≡ end_output (take_text (run_at l 0 []) t.input)
  last_is =
      ap (end_bytes lines) (sym (length-take-le partial text (le_of_lt t.room)))
      ∙ ap end_output t.run_is

  pub shown_after : (out : List ℕ) (bytes : ℕ) (out' : List ℕ) → Finished l' lines partial out bytes out' → Shown l bytes out'
  shown_after out bytes out' f =
      record {
        input = t.input;
        last =
            finished_front l' lines partial out bytes out' f
            ∙ ap (λ (x : List ℕ). x ++ positions_output l') last_is
            ∙ ap (λ (x : List ℕ). end_output (take_text (run_at l 0 []) t.input) ++ x)
            (ap positions_output book_is ∙ (text_kept l b t.input).listing);
      }

  pub run_shown : (out : List ℕ) (bytes : ℕ) (out' : List ℕ) → Finished l' lines partial out bytes out' → RunShown l l' text bytes out'
  unfolding shown_after
  run_shown out bytes out' f =
      record {
        made = record { lines = lines; partial = partial; past = past; taken = t };
        shown = shown_after out bytes out' f;
        same = refl;
      }
