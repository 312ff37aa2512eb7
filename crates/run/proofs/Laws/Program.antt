-- The promise of the whole program: the listing is the journal's. To cite: `program_kept`. Assumes nothing.
use Rattle.std.proofs.Common.{Ok}
use mathlib.Core.Path.{◌≡◌, refl, ap, ◌∙◌}
use mathlib.Core.Bool.{true}
use mathlib.Core.List.{List}
use Prim.Native.Nat.{ℕ, suc}
use native.Mathlib.Omega.{arith}
use borrow.Author.Tests.{le-leb}
use Rattle.tables.specs.Limits.{creditor_count, debtor_count, bank_count}
use Rattle.tables.specs.Ledger.{Ledger}
use Rattle.opening.specs.Opening.{opened}
use Rattle.model.specs.Step.{in_query, figure_of, query, run, Entry, history}
use Rattle.model.specs.Journal.{Journal, journal, figure_in}
use Rattle.model.proofs.Laws.Answers.{query_facts}
use Rattle.model.proofs.Laws.Theorem.{demand3}
use Rattle.report.specs.Cut.{answered_lines}
use Rattle.run.specs.Run.{positions_output, journal_output}
use Rattle.run.specs.Lines.{events_of}
use Rattle.run.specs.Promises.{ProgramKept}
use Rattle.run.proofs.Laws.Lines.{line_by_line}
use Rattle.run.proofs.Laws.Positions.{figures_output_same}

-- ---- the listing

module _ (l : Ledger) (j : Journal) (figures : (kind number : ℕ) → in_query kind number ≡ true → query l kind number ≡ Ok (figure_in j kind number)) where
  same : (kind number : ℕ) → in_query kind number ≡ true → figure_of l kind number ≡ figure_in j kind number
  same kind number q = (query_facts l kind number (figure_in j kind number) (figures kind number q)).1

  listing_same : positions_output l ≡ journal_output j
  unfolding positions_output journal_output
  listing_same =
      let a = figures_output_same 1 (figure_of l 1) (figure_in j 1) creditor_count (λ i h. same 1 (suc i) (rw (le-leb 1 (suc i) (omega arith), le-leb (suc i) creditor_count (omega arith)))) in
      let b = figures_output_same 2 (figure_of l 2) (figure_in j 2) debtor_count (λ i h. same 2 (suc i) (rw (le-leb 1 (suc i) (omega arith), le-leb (suc i) debtor_count (omega arith)))) in
      let c = figures_output_same 3 (figure_of l 3) (figure_in j 3) bank_count (λ i h. same 3 (suc i) (rw (le-leb 1 (suc i) (omega arith), le-leb (suc i) bank_count (omega arith)))) in
      rw (a, b, c, same 4 0 refl)

-- ---- the whole

pub program_kept : ProgramKept
program_kept t z text =
    let l = opened t in
    let ls = answered_lines 0 text in
    let es = events_of ls in
    let k = demand3 t z es in
    let written = line_by_line l 0 text in
    record {
      all_kept = k;
      listing =
          ap positions_output written.after
          ∙ listing_same (run l es) (journal (history l es)) k.figures
          ∙ ap (λ (h : List Entry). journal_output (journal h)) written.accepted;
    }
