-- Laws of specs/Actions: what an event of each kind asks for. To cite: `action_creditor` to `action_reversal`. Assumes nothing.
use mathlib.Core.Path.{◌≡◌}
use mathlib.Core.Bool.{cond}
use lib.Dec.{eqb}
use Rattle.events.specs.declared.Event.{Event}
use Rattle.model.specs.Actions.{new_mandate, presentation, authorisation, action_of}
use Rattle.model.specs.declared.Action.TheVariants.{AddCreditor, AddMandate, ChangeMandate, Collect, Treat}
use Rattle.model.specs.declared.Change.TheVariants.{NewBank, NewCreditor, Cancel}
use Rattle.model.specs.declared.Treatment.TheVariants.{Settle, Reject, Undo}
use Rattle.model.specs.declared.Way.TheVariants.{ByReturn, ByRefund, ByReversal}

module _ (e : Event) where
  pub action_creditor : e.kind ≡ 1 → action_of e ≡ AddCreditor e.a e.b
  unfolding action_of
  action_creditor h = rw h

  pub action_mandate : e.kind ≡ 2 → action_of e ≡ AddMandate (new_mandate e)
  unfolding action_of
  action_mandate h = rw h

  pub action_amend : e.kind ≡ 3 → action_of e ≡ ChangeMandate e.mandate (cond (eqb e.code 0) (NewBank e.c) (NewCreditor e.a))
  unfolding action_of
  action_amend h = rw h

  pub action_cancel : e.kind ≡ 4 → action_of e ≡ ChangeMandate e.mandate Cancel
  unfolding action_of
  action_cancel h = rw h

  pub action_collect : e.kind ≡ 5 → action_of e ≡ Collect (presentation e)
  unfolding action_of
  action_collect h = rw h

  pub action_settle : e.kind ≡ 6 → action_of e ≡ Treat e.a Settle
  unfolding action_of
  action_settle h = rw h

  pub action_reject : e.kind ≡ 7 → action_of e ≡ Treat e.a Reject
  unfolding action_of
  action_reject h = rw h

  pub action_return : e.kind ≡ 8 → action_of e ≡ Treat e.a (Undo ByReturn)
  unfolding action_of
  action_return h = rw h

  pub action_refund : e.kind ≡ 9 → action_of e ≡ Treat e.a (Undo (ByRefund e.b (authorisation e.code)))
  unfolding action_of
  action_refund h = rw h

  pub action_reversal : e.kind ≡ 10 → action_of e ≡ Treat e.a (Undo ByReversal)
  unfolding action_of
  action_reversal h = rw h
