-- Document 01, "Ten events": what an event asks for, read off its nine fields. The kinds fall into five sorts, by what they
-- name: a creditor or a mandate to be added, a mandate to be changed, a collection to be presented, one to be treated. The types
-- of what is asked for are those of the code, src/lib.rt. Assumes nothing.
use Rattle.std.specs.Prelude.{Bool, cond, ℕ, eqb}
use Rattle.events.specs.declared.Event.{Event}
use Rattle.tables.specs.declared.Mandate.{Mandate}
use Rattle.tables.specs.declared.Standing.TheVariants.{Live}
use Rattle.model.specs.declared.Action.{Action}
use Rattle.model.specs.declared.Action.TheVariants.{AddCreditor, AddMandate, ChangeMandate, Collect, Treat}
use Rattle.model.specs.declared.Change.{Change}
use Rattle.model.specs.declared.Change.TheVariants.{NewBank, NewCreditor, Cancel}
use Rattle.model.specs.declared.Presentation.{Presentation}
use Rattle.model.specs.declared.Treatment.TheVariants.{Settle, Reject, Undo}
use Rattle.model.specs.declared.Way.TheVariants.{ByReturn, ByRefund, ByReversal}
use Rattle.model.specs.declared.Authorisation.{Authorisation}
use Rattle.model.specs.declared.Authorisation.TheVariants.{Authorised, Unauthorised}

-- ---- the codes

-- mandate code 0 is recurrent, 1 one-off
abbrev pub is_recurrent : ℕ → Bool
is_recurrent code = eqb code 0

-- a new mandate: live, nothing presented, FRST due if it is recurrent
unfoldable pub new_mandate : Event → Mandate
new_mandate e = record {
  number = e.mandate;
  creditor = e.a;
  debtor = e.b;
  bank = e.c;
  signed = e.second;
  code = e.code;
  standing = Live;
  first = is_recurrent e.code;
  presented = 0;
}

abbrev pub presentation : Event → Presentation
presentation e =
    record { mandate = e.mandate; collection = e.a; amount = e.amount; requested = e.second; code = e.code }

-- amend: code 0 a new debtor bank, code 1 a new creditor
abbrev pub amendment : Event → Change
amendment e = cond (eqb e.code 0) (NewBank e.c) (NewCreditor e.a)

-- refund: code 0 authorised, code 1 unauthorised
abbrev pub authorisation : ℕ → Authorisation
authorisation code = cond (eqb code 0) Authorised Unauthorised

-- ---- the kinds

unfoldable pub action_of : Event → Action
action_of e =
    cond (eqb e.kind 1) (AddCreditor e.a e.b)
    (cond (eqb e.kind 2) (AddMandate (new_mandate e))
    (cond (eqb e.kind 3) (ChangeMandate e.mandate (amendment e))
    (cond (eqb e.kind 4) (ChangeMandate e.mandate Cancel)
    (cond (eqb e.kind 5) (Collect (presentation e))
    (cond (eqb e.kind 6) (Treat e.a Settle)
    (cond (eqb e.kind 7) (Treat e.a Reject)
    (cond (eqb e.kind 8) (Treat e.a (Undo ByReturn))
    (cond (eqb e.kind 9) (Treat e.a (Undo (ByRefund e.b (authorisation e.code))))
    (Treat e.a (Undo ByReversal))))))))))  -- 10; any other kind is refused by 3 before this is asked
