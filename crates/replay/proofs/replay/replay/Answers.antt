use Rattle.std.proofs.Common.{◌≡◌, Err, rules, refl}
use Rattle.model.proofs.Laws.Opened.{was_opened}
use Rattle.replay.proofs.Laws.Replay.{replayed_refused, replayed_done}
use Rattle.replay.proofs.replay.replay.Goals as goal

pub returns-in_err-open-clause-replayed : goal.returns-in_err-open-clause-replayed
returns-in_err-open-clause-replayed c =
    let refused : c.from_residual.result ≡ Err c.in_err-open.field-0.0 = search rules in
    rw refused (replayed_refused _ _ _ _ _ refl (rw c.in_err-open.was at c.open.ensures.opening))

pub run_events-requires : goal.run_events-requires
run_events-requires c = (was_opened _ _ _ c.open.ensures.opening c.in_ok-open.was).safe

pub returns-clause-replayed : goal.returns-clause-replayed
returns-clause-replayed c = replayed_done _ _ c.open.result _ _ c.in_ok-open.was c.open.ensures.opening c.run_events.ensures.run
