-- `take_line` meets its contract where the ledger refuses the event. Assumes nothing.
use Rattle.std.proofs.Common.{Err, rules, ◌≡◌, sym, ◌∙◌}
use Rattle.text.proofs.Laws.Text.{line_refused}
use Rattle.text.proofs.text.KnownBook.take_line.Goals as goal

pub returns-in_err-take_sound-clause-taken : goal.returns-in_err-take_sound-clause-taken
returns-in_err-take_sound-clause-taken c =
    let refused : c.from_residual-in_err-take_sound.result ≡ Err c.in_err-take_sound.field-0.0 = search rules in
    rw refused (line_refused _ _ _ _ _ _ (sym c.read.ensures.answer ∙ c.in_ok-e.was) c.take_sound.ensures.taken c.in_err-take_sound.was)
