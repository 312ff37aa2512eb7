-- An event acted on by the rows that were found of what it names: the promise of the call that its kind asks for. That it is the model's
-- answer and effect on a fit ledger, of an event within its limits: `acted_taken` of proofs/Laws/Events. Assumes nothing.
use Rattle.std.specs.Prelude.{Bool, ◌&&◌, cond, ℕ, leb, Option, Some, None, Result}
use Rattle.refusals.specs.declared.Refusal.{Refusal}
use Rattle.events.specs.declared.Event.{Event}
use Rattle.tables.specs.Ledger.{Ledger}
use Rattle.tables.specs.Lookup.{lookup_since}
use Rattle.model.specs.Actions.{action_of}
use Rattle.model.specs.declared.HandedOn.{HandedOn}
use Rattle.model.specs.declared.Action.{Action}
use Rattle.model.specs.declared.Action.TheVariants.{AddCreditor, AddMandate, ChangeMandate, Collect, Treat}
use Rattle.records.specs.Records.{CreditorAdded, MandateAdded, MandateChanged, Collected}
use Rattle.treatments.specs.Treatments.{Treated}

-- the kinds that name a mandate, 2 to 5, and those that name a collection, from 5 on
abbrev pub names_mandate : ℕ → Bool
names_mandate kind = leb 2 kind && leb kind 5

abbrev pub names_collection : ℕ → Bool
names_collection kind = leb 5 kind

-- the number that it names
abbrev pub named_mandate : Event → Option ℕ
named_mandate e = cond (names_mandate e.kind) (Some e.mandate) None

abbrev pub named_collection : Event → Option ℕ
named_collection e = cond (names_collection e.kind) (Some e.a) None

-- the row of that number, looked for from a row on
abbrev pub mandate_found : Event → Ledger → ℕ → Option ℕ
mandate_found e l since = cond (names_mandate e.kind) (lookup_since l.mandates l.mandates_used e.mandate since) None

abbrev pub collection_found : Event → Ledger → ℕ → Option ℕ
collection_found e l since = cond (names_collection e.kind) (lookup_since l.collections l.collections_used e.a since) None

-- from the ledger l to the ledger l'
abbrev pub ActedOn : Option ℕ → Option ℕ → Ledger → ℕ → Action → Result HandedOn Refusal → Ledger → Type 0
ActedOn mandate collection l date (AddCreditor number bank) r l' = CreditorAdded l date number bank r l'
ActedOn mandate collection l date (AddMandate m) r l' = MandateAdded mandate l date m r l'
ActedOn mandate collection l date (ChangeMandate n c) r l' = MandateChanged mandate l date c r l'
ActedOn mandate collection l date (Collect p) r l' = Collected mandate collection l date p r l'
ActedOn mandate collection l date (Treat n t) r l' = Treated collection l date t r l'

-- by the rows that are found from a row on in each table
abbrev pub ActedFrom : ℕ → ℕ → Ledger → Event → Result HandedOn Refusal → Ledger → Type 0
ActedFrom i j l e r l' = ActedOn (mandate_found e l i) (collection_found e l j) l e.date (action_of e) r l'
