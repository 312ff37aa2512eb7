use Rattle.std.proofs.Common.{rules, sym, ap, ◌∙◌}
use Rattle.calendar.specs.declared.KeptDate.{KeptDate}
use Rattle.model.specs.declared.Presentation.{Presentation}
use Rattle.model.specs.Deadlines.{slid}
use Rattle.records.proofs.Laws.Records.{collected_refused, collected_done}
use Rattle.records.proofs.collects.collect.Goals as goal

pub returns-in_err-m-clause-collected : goal.returns-in_err-m-clause-collected
returns-in_err-m-clause-collected c = λ cp dp bp.
    collected_refused _ _ _ _ _ _ c.in_err-m.field-0.0 _ (sym c.judge_collect.ensures ∙ c.in_err-m.was) (search rules)

pub returns-clause-collected : goal.returns-clause-collected
returns-clause-collected c = λ cp dp bp.
    collected_done _ _ _ _ _ (c.in_ok-m.m, c.in_ok-m.presented) _ _ (sym c.judge_collect.ensures ∙ c.in_ok-m.was)
    (ap (λ (k : KeptDate). k.slid) c.presented.invariant ∙ ap (λ (p : Presentation). slid p.requested) c.presented.view_is)
    (rw (c.put_record.ensures, c.put_record-2.ensures, c.presented_on.ensures, c.new_collection-c.ensures, c.found_row.ensures))
