-- `take_lines` meets its contract. The loop: the lines before `at` have been answered. Assumes nothing.
use Rattle.std.proofs.Common.{refl, sym, ◌∙◌}
use Rattle.tables.proofs.Laws.Ledger.{same_loans, loans_then}
use Rattle.report.proofs.Laws.Cut.{end_from_at, end_from_none}
use Rattle.text.proofs.Laws.Text.{answered_start, answered_line, answered_end}
use Rattle.text.proofs.text.KnownBook.take_lines.Goals as goal

pub loop-end-init : goal.loop-end-init
loop-end-init c = record { book = refl; same = same_loans _; answered = answered_start _ _ _ _ refl }

pub loop-end-preserved : goal.loop-end-preserved
loop-end-preserved c =
    let here = c.loop-end.invariant in
    record {
      book = c.end_line-progress.ensures.book ∙ here.book;
      same = loans_then _ _ _ here.same c.end_line-progress.ensures.loans;
      answered = (answered_line _ _ _ _ _ (end_from_at _ _ _ (sym c.line_end.ensures ∙ c.in-Some.is)) _ _ _ _ _ _ _ here.answered refl c.end_line-progress.ensures.answered).0;
    }

pub returns-clause-answered : goal.returns-clause-answered
returns-clause-answered c =
    answered_end _ _ _ _ _ _ _ c.loop-end.invariant.answered (end_from_none _ _ (sym c.line_end.ensures ∙ c.in_default.is))
