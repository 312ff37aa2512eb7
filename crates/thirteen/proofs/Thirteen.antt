-- The table of specs/Thirteen holds: one test that the checker computes over all rows, and a lemma that reads each row out of it.
-- Assumes nothing.
use mathlib.Core.Path.{◌≡◌, refl, ap, ◌∙◌}
use mathlib.Core.Bool.{Bool, true, ◌&&◌}
use mathlib.Core.List.{List, [], ◌∷◌}
use Prim.Native.Nat.{ℕ}
use Rattle.std.proofs.Common.{Result}
use Rattle.refusals.specs.declared.Refusal.{Refusal}
use Rattle.events.specs.declared.Event.{Event}
use lib.Dec.{T, eqb, eqb→eq}
use mir.Facts.{and_yes}
use Rattle.calendar.specs.Easter.{easter_of}
use Rattle.positions.specs.Compensation.{compensation as compensationFor, interest, half_up, rounded}
use Rattle.tables.specs.Ledger.{Ledger}
use Rattle.opening.specs.Opening.{fresh}
use Rattle.model.specs.Lookups.{mandate_of, collection_of}
use Rattle.model.specs.Actions.{action_of}
use Rattle.model.specs.Step.{answer_number, answer_value, handed_on, verdict_by, outcome}
use Rattle.witness.specs.Opening.{lent}
use Rattle.witness.proofs.Ruled.{ruled_answer, ruled_run, lent_sizes, opened_run, opened_answer}
use Rattle.thirteen.specs.Thirteen.{events, said, Question, Row, table, Agree, Thirteen}
use Rattle.thirteen.specs.Thirteen.Question.{Easter, KeptFor, SlidFrom, Months, Answer, Value, Cents}

-- ---- the answers by the rules alone, which compute

abbrev computed : Question → ℕ
computed (Easter year) = said (Easter year)
computed (KeptFor requested) = said (KeptFor requested)
computed (SlidFrom requested) = said (SlidFrom requested)
computed (Months n date) = said (Months n date)
computed (Answer e) = answer_number (ruled_answer (ruled_run (fresh lent) events) e)
computed (Value e) = answer_value (verdict_by (ruled_answer (ruled_run (fresh lent) events) e) (handed_on (action_of e)))
computed (Cents date amount rate days) = said (Cents date amount rate days)

value_computed : (e : Event) → said (Value e) ≡ computed (Value e)
unfolding outcome
value_computed e = ap (λ (a : Result Unit Refusal). answer_value (verdict_by a (handed_on (action_of e)))) (opened_answer lent lent_sizes events e)

said_computed : (q : Question) → said q ≡ computed q
said_computed (Easter year) = refl
said_computed (KeptFor requested) = refl
said_computed (SlidFrom requested) = refl
said_computed (Months n date) = refl
said_computed (Answer e) = ap answer_number (opened_answer lent lent_sizes events e)
said_computed (Value e) = value_computed e
said_computed (Cents date amount rate days) = refl

-- ---- all rows by one test

abbrev holds? : Row → Bool
holds? r = eqb (computed r.question) r.paper

abbrev agree? : List Row → Bool
agree? [] = true
agree? (r ∷ rs) = holds? r && agree? rs

pub agree : (rs : List Row) → T (agree? rs) → Agree rs
agree [] t = tt
agree (r ∷ rs) t =
    let p = and_yes (holds? r) (agree? rs) t in
    (said_computed r.question ∙ eqb→eq (computed r.question) r.paper p.0, agree rs p.1)

pub thirteen : Thirteen
unfolding table ruled_run easter_of compensationFor interest rounded half_up
thirteen = record {
  settled = ap (λ (l : Ledger). collection_of l 70) (opened_run lent lent_sizes events);
  presented = ap (λ (l : Ledger). mandate_of l 7) (opened_run lent lent_sizes events);
  rows = refl;
  asked = refl;
  agree = agree table tt;
}
