-- The example of document 01 holds: the input is read and its events are answered by computing, and the positions after them are
-- figures of the journal, which is fed the events and these answers. To cite: `example`. Assumes nothing.
use Rattle.std.proofs.Common.{Ok, Result}
use mathlib.Core.Path.{◌≡◌, refl, ap, ◌∙◌}
use mathlib.Core.Bool.{true, ◌&&◌}
use mathlib.Core.List.{List, [], ◌∷◌, ◌++◌}
use Prim.Native.Nat.{ℕ, suc, ◌+◌, ◌≤◌}
use native.Mathlib.Omega.{arith}
use lib.Dec.{eqb, leb}
use lib.ListN.{drop, length}
use borrow.Author.Tests.{eqb-true, le-leb}
use Rattle.common.proofs.Tests.{and_halves, and_true, either}
use Rattle.calendar.specs.Gregorian.{leap, leap_day}
use Rattle.calendar.specs.DayNumber.{days_before, year_start, day_number}
use Rattle.positions.specs.Compensation.{interest, half_up}
use Rattle.digits.specs.Field.{signed_padded, signed_field, read_digits, read_number, read_field}
use Rattle.lines.specs.Line.{read_line}
use Rattle.tables.specs.Limits.{creditor_count, debtor_count, bank_count}
use Rattle.tables.specs.Ledger.{Ledger}
use Rattle.opening.specs.Opening.{OpenResult, opened}
use Rattle.opening.proofs.Laws.Opening.{opening_done}
use Rattle.model.specs.Step.{in_query, figure_of, query, run, Entry, history}
use Rattle.model.specs.Journal.{Journal, new_noted, collected_on, noted_collection, note_collect, noted_settled, note_settle, note_refund, paid_on, note_kind, journal_from, journal, figure_in}
use Rattle.model.proofs.Laws.Answers.{query_facts}
use Rattle.model.proofs.Laws.Theorem.{demand3}
use Rattle.report.specs.Layout.{answer_line, position_line}
use Rattle.run.specs.Run.{run_at, take_text, text_output, figures_output, kind_output, positions_output}
use Rattle.run.proofs.Laws.Positions.{figures_output_same}
use Rattle.witness.specs.Opening.{lent, answers}
use Rattle.witness.specs.Text.{text_of, read_of, taken_of, whole_output}
use Rattle.witness.specs.Example.{input, output, events, numbers, positions, cents_in, Example}
use Rattle.witness.proofs.Ruled.{ruled_answer, ruled_answers, lent_sizes, opened_answers, entries, history_answers}
use Rattle.refusals.specs.declared.Refusal.{Refusal}
use Rattle.events.specs.declared.Event.{Event}

-- ---- the answers, and the history that they make

answered : answers (opened lent) events ≡ numbers
unfolding events ruled_answers
answered = opened_answers lent lent_sizes events

history_is : history (opened lent) events ≡ entries events numbers
history_is = history_answers events (opened lent) ∙ ap (entries events) answered

-- ---- the journal's figures

-- the journal after the example; whoever unfolds it unfolds all that its figures are computed from
closing : Journal
unfolding events journal_from note_kind new_noted collected_on noted_collection note_collect noted_settled note_settle note_refund paid_on interest half_up leap leap_day days_before year_start day_number
closing = journal (entries events numbers)

creditors : (n : ℕ) → figure_in closing 1 n ≡ cents_in positions 1 n
unfolding closing
creditors n = either (eqb n 1) (λ p. rw (eqb-true n 1 p)) (λ p. rw p)

-- the debtor got all of it back
debtors : (n : ℕ) → figure_in closing 2 n ≡ cents_in positions 2 n
unfolding closing
debtors n = either (eqb n 5) (λ p. rw (eqb-true n 5 p)) (λ p. rw p)

banks : (n : ℕ) → figure_in closing 3 n ≡ cents_in positions 3 n
unfolding closing
banks n = either (eqb n 1) (λ p. rw (eqb-true n 1 p)) (λ p. either (eqb n 2) (λ q. rw (eqb-true n 2 q)) (λ q. rw (p, q)))

total : figure_in closing 4 0 ≡ cents_in positions 4 0
unfolding closing
total = refl

closing_figures : (kind number : ℕ) → in_query kind number ≡ true → figure_in closing kind number ≡ cents_in positions kind number
closing_figures kind number q =
    either (eqb kind 1) (λ p. rw (eqb-true kind 1 p) (creditors number))
    (λ not1.
    either (eqb kind 2) (λ p. rw (eqb-true kind 2 p) (debtors number))
    (λ not2.
    either (eqb kind 3) (λ p. rw (eqb-true kind 3 p) (banks number))
    (λ not3.
    let last = and_halves (eqb kind 4) (rw (not1, not2, not3) at q) in
    rw (eqb-true kind 4 last.0, eqb-true number 0 last.1) total)))

-- ---- the queries

abbrev after_example : Ledger
after_example = run (opened lent) events

figures : (kind number : ℕ) → in_query kind number ≡ true → query after_example kind number ≡ Ok (cents_in positions kind number)
unfolding closing
figures kind number q =
    (demand3 lent lent_sizes events).figures kind number q
    ∙ ap (λ (h : List Entry). Ok (figure_in (journal h) kind number)) history_is
    ∙ ap Ok (closing_figures kind number q)

figure_is : (kind number : ℕ) → in_query kind number ≡ true → figure_of after_example kind number ≡ cents_in positions kind number
figure_is kind number q = (query_facts after_example kind number (cents_in positions kind number) (figures kind number q)).1

-- ---- the listing

-- the lines of a kind of parties
lines_of : (kind count : ℕ) → ((n : ℕ) → 1 ≤ n → n ≤ count → in_query kind n ≡ true)
    → kind_output after_example kind count ≡ figures_output kind (cents_in positions kind) count
lines_of kind count q =
    figures_output_same kind (figure_of after_example kind) (cents_in positions kind) count
    (λ i k. figure_is kind (suc i) (q (suc i) (omega arith) (omega arith)))

-- the lines of all positions are computed
computed_lines :
    figures_output 1 (cents_in positions 1) creditor_count
    ++ figures_output 2 (cents_in positions 2) debtor_count
    ++ figures_output 3 (cents_in positions 3) bank_count
    ++ position_line 4 0 (cents_in positions 4 0)
    ≡ text_of (drop (length numbers) output)
unfolding figures_output position_line signed_field signed_padded
computed_lines = refl

listed : positions_output after_example ≡ text_of (drop (length numbers) output)
unfolding positions_output
listed =
    let within : (count n : ℕ) → 1 ≤ n → n ≤ count → leb 1 n && leb n count ≡ true = λ count n a b. and_true (le-leb 1 n a) (le-leb n count b) in
    rw (lines_of 1 creditor_count (within creditor_count), lines_of 2 debtor_count (within debtor_count), lines_of 3 bank_count (within bank_count), figure_is 4 0 refl)
    computed_lines

-- ---- the text, on any ledger

-- the lines of answers, the first with the number n
abbrev answer_lines : ℕ → List ℕ → List ℕ
answer_lines n [] = []
answer_lines n (a ∷ rest) = answer_line n a ++ answer_lines (n + 1) rest

-- whoever unfolds it unfolds all that is computed to read a line
computed_read : List ℕ → Result Event Refusal
unfolding read_line read_digits read_number read_field ruled_answer
computed_read line = read_line line

reads : read_of input ≡ taken_of events
unfolding events computed_read
reads = refl

module _ (l : Ledger) where
  answers_output_lem : text_output (run_at l 0 []) (text_of input) ≡ answer_lines 1 (answers l events)
  unfolding text_output events computed_read answers
  answers_output_lem = refl

  taken : take_text (run_at l 0 []) (text_of input) ≡ run_at (run l events) 7 []
  unfolding take_text events computed_read run
  taken = refl

-- ---- the statement

writes : whole_output (opened lent) (text_of input) ≡ text_of output
unfolding answer_line signed_field signed_padded
writes = rw (answers_output_lem (opened lent), answered, taken (opened lent), listed)

pub example : Example
example = record {
  opens = ap (λ (o : OpenResult). o.number) (opening_done lent lent_sizes);
  reads = reads;
  answered = answered;
  figures = figures;
  writes = writes;
}
