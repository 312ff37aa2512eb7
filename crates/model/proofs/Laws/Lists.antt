-- Lists of events: an entry of a history, and the ledger that it was given to. To cite: `each_entry`. Assumes nothing.
use mathlib.Core.Path.{◌≡◌, subst}
use mathlib.Core.List.{List, [], ◌∷◌, ◌++◌}
use Rattle.events.specs.declared.Event.{Event}
use Rattle.tables.specs.Ledger.{Ledger}
use Rattle.model.specs.Step.{is_accepted, answer, after, run, Entry, entry, history}

-- what holds of any event that is given to the ledger after a list, with the history of that list, holds of each entry, with those before it
pub each_entry :
    (P : List Entry → Entry → Type 0) (l : Ledger) (es : List Event)
    → ((earlier : List Event) (e : Event) → P (history l earlier) (entry e (is_accepted (answer (run l earlier) e))))
    → (before later : List Entry) (x : Entry) → history l es ≡ before ++ (x ∷ later) → P before x
unfolding run history
each_entry P l [] f [] later x q = absurd cc
each_entry P l [] f (y ∷ before) later x q = absurd cc
each_entry P l (e ∷ es) f [] later x q = let first : entry e (is_accepted (answer l e)) ≡ x = cc in subst (P []) first (f [] e)
each_entry P l (e ∷ es) f (y ∷ before) later x q =
    let first : entry e (is_accepted (answer l e)) ≡ y = cc in
    let rest : history (after l e) es ≡ before ++ (x ∷ later) = cc in
    each_entry (λ b z. P (y ∷ b) z) (after l e) es
    (λ earlier d.
    subst (λ (z : Entry). P (z ∷ history (after l e) earlier) (entry d (is_accepted (answer (run (after l e) earlier) d)))) first
    (f (e ∷ earlier) d))
    before later x rest
