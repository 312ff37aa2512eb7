use Rattle.std.proofs.Common.{sym, ◌∙◌}
use borrow.Author.Tests.{eqb-true, eqb-false, le-ltb}
use Rattle.lines.specs.Line.{columns}
use Rattle.report.proofs.Laws.Cut.{not_short, not_other, none_before_is}
use Rattle.report.proofs.cut.ends_soundly.Goals as goal
use Rattle.report.proofs.cut.ends_soundly.Goals.{then-text-gt-COLUMNS, else-text-gt-COLUMNS}

pub returns-then-text-eq-LINE_END : goal.returns-then-text-eq-LINE_END
returns-then-text-eq-LINE_END c =
    c.is_endless.ensures
    ∙ elim c.if-text-gt-COLUMNS.branch [
      | then-text-gt-COLUMNS w ↦
          none_before_is c.args.text.now 0 columns w.if-text-gt-COLUMNS.true (eqb-true _ _ (sym w.value-is ∙ c.if-text-eq-LINE_END.true))
      | else-text-gt-COLUMNS w ↦ absurd (cc (c.if-text-eq-LINE_END.true, w.value-is ∙ le-ltb _ _ w.if-text-gt-COLUMNS.false))
    ]

pub returns-else-text-eq-LINE_END : goal.returns-else-text-eq-LINE_END
returns-else-text-eq-LINE_END c =
    c.if-text-eq-LINE_END.false
    ∙ elim c.if-text-gt-COLUMNS.branch [
      | then-text-gt-COLUMNS w ↦ not_other c.args.text.now 0 columns (eqb-false _ _ (sym w.value-is ∙ c.if-text-eq-LINE_END.false))
      | else-text-gt-COLUMNS w ↦ not_short c.args.text.now 0 columns w.if-text-gt-COLUMNS.false
    ]
