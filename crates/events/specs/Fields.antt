-- An event and its fields in a list, in the order of document 01, "Ten events". Assumes nothing.
use Rattle.std.specs.Prelude.{ℕ, List, [], ◌∷◌, get_or}
use Rattle.events.specs.declared.Event.{Event}

abbrev pub fields_of : Event → List ℕ
fields_of e =
    e.kind
    ∷ e.date
    ∷ e.mandate
    ∷ e.a
    ∷ e.b
    ∷ e.c
    ∷ e.amount
    ∷ e.second
    ∷ e.code
    ∷ []

-- a field past the end of the list is 0
abbrev pub event_of : List ℕ → Event
event_of vs = record {
  kind = get_or vs 0 0;
  date = get_or vs 1 0;
  mandate = get_or vs 2 0;
  a = get_or vs 3 0;
  b = get_or vs 4 0;
  c = get_or vs 5 0;
  amount = get_or vs 6 0;
  second = get_or vs 7 0;
  code = get_or vs 8 0;
}
