use Rattle.tables.proofs.Laws.Ledger.{same_loans, loans_then}
use Rattle.replay.proofs.Laws.Replay.{chunk_event, running_start, running_step}
use Rattle.std.proofs.Common.{ℕ, List, [], ◌/◌, ◌<◌, length, get_or, ap, ◌∙◌}
use Rattle.events.specs.Fields.{event_of}
use Rattle.replay.specs.Replay.{event_cells}
use Rattle.replay.proofs.replay.run_events.Goals as goal

pub loop-fields-init : goal.loop-fields-init
loop-fields-init c = record { same = same_loans _; running = running_start _ _ c.requires }

pub loop-fields-preserved : goal.loop-fields-preserved
loop-fields-preserved c =
    let here = c.loop-fields in
    let cells = c.args.cells.now in
    let chunks = c.as_chunks.ensures in
    let inside : here.fields-index < length cells / event_cells = rw chunks.front_len at c.loop-fields-test.true in
    let same_event = c.from.ensures ∙ ap (λ (xs : List (List ℕ)). event_of (get_or xs here.fields-index [])) chunks.front ∙ chunk_event cells here.fields-index inside in
    record {
      same = loans_then _ _ _ here.invariant.same c.take_fit.ensures.loans;
      running = running_step _ _ _ _ _ _ _ here.invariant.running same_event c.take_fit.ensures.taken;
    }
