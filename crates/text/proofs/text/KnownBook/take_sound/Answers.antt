-- `take_sound` meets its contract: refusal 2, or what `act_from` did from the rows that the indexes say. Assumes nothing.
use Rattle.std.proofs.Common.{sym, ◌∙◌}
use Rattle.book.proofs.Laws.Events.{taken_unfit}
use Rattle.text.proofs.Laws.Text.{taken_by_index, known_kept}
use Rattle.text.proofs.text.KnownBook.take_sound.Goals as goal

pub returns-then-not-may_act-clause-taken : goal.returns-then-not-may_act-clause-taken
returns-then-not-may_act-clause-taken c = taken_unfit _ _ (sym c.may_act.ensures ∙ c.if-not-may_act.true)

pub invariant_of-self : goal.invariant_of-self
invariant_of-self c =
    let t =
    taken_by_index _ _ _ _ c.args.self.now.known _ c.args.e _ _ _ _ _ _ c.view-view.ensures (sym c.may_act.ensures ∙ c.if-not-may_act.false) c.requires
    c.named_mandate.ensures c.since-mandates.ensures c.named_collection.ensures c.since-collections.ensures c.act_from.ensures.acted in
    record { known = known_kept _ _ _ _ c.args.self.now.known _ c.args.e t.after_is }

pub returns-clause-taken : goal.returns-clause-taken
returns-clause-taken c =
    taken_by_index _ _ _ _ c.args.self.now.known _ c.args.e _ _ _ _ _ _ c.view-view.ensures (sym c.may_act.ensures ∙ c.if-not-may_act.false) c.requires
    c.named_mandate.ensures c.since-mandates.ensures c.named_collection.ensures c.since-collections.ensures c.act_from.ensures.acted
