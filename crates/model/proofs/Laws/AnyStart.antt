-- Lists that start on any tables: every event keeps a ledger and a journal in agreement, whatever its answer, and so does every list.
-- To cite: `agrees_run`, `agrees_start`; both together are `agrees_from_any_start`. Assumes nothing.
use mathlib.Core.Path.{◌≡◌, refl, ap}
use mathlib.Core.Bool.{true}
use mathlib.Core.List.{List, [], ◌∷◌}
use mathlib.Core.Logic.{◌≢◌}
use Prim.Native.Nat.{ℕ}
use native.Mathlib.Omega.{arith}
use borrow.Author.Tests.{ltb-true}
use Rattle.common.proofs.Tests.{not_true, and_halves}
use Rattle.calendar.specs.Gregorian.{in_range}
use Rattle.calendar.proofs.Laws.Gregorian.{range_facts}
use Rattle.events.specs.declared.Event.{Event}
use Rattle.tables.specs.Ledger.{Ledger}
use Rattle.tables.specs.Rows.{rows}
use Rattle.fitness.specs.Fitness.{fit}
use Rattle.tables.specs.declared.Collection.{Collection}
use Rattle.fitness.proofs.Laws.Fitness.{Sizes, fit_facts}
use Rattle.model.specs.declared.Action.{Action}
use Rattle.model.specs.declared.Treatment.{Treatment}
use Rattle.model.specs.Actions.{action_of}
use Rattle.model.specs.declared.Action.TheVariants.{AddCreditor, AddMandate, ChangeMandate, Collect, Treat}
use Rattle.model.specs.declared.Treatment.TheVariants.{Settle, Reject, Undo}
use Rattle.model.specs.Lookups.{Known, is_known, mandate_of, collection_of}
use Rattle.model.specs.Lookups.Known.{unknown, known}
use Rattle.model.specs.Checks.{settled_on}
use Rattle.model.specs.Effects.{effect}
use Rattle.model.specs.Step.{is_accepted, answer, after, run, entry, history}
use Rattle.model.specs.Journal.{Journal, feed, journal_from}
use Rattle.model.specs.Noted.{row_noted, row_noted_known, SameKnown, started}
use Rattle.model.specs.Promises.{Agrees, AgreesFromAnyStart}
use Rattle.model.proofs.Laws.Sound.{Sound, Passed}
use Rattle.model.proofs.Laws.Effects.{not_known, mandate_there_lem, CollectionThere, collection_there}
use Rattle.model.proofs.Laws.Accepted.{after_cases, undo_facts}
use Rattle.model.proofs.Laws.Wordings.{note_of, note_action}
use Rattle.model.proofs.Laws.Agree.{unmoved}
use Rattle.model.proofs.Laws.KeptMandates.{agrees_creditor, agrees_mandate, agrees_change, agrees_collect}
use Rattle.model.proofs.Laws.KeptTreatments.{agrees_settle, agrees_reject, agrees_undo}

-- ---- each event, on a fit ledger

not_zero : (day : ℕ) → in_range day ≡ true → day ≢ 0
not_zero day r z = omega (arith, (range_facts day r).from)

module _ (base l : Ledger) (j : Journal) (date : ℕ) (f : fit l ≡ true) (g : Agrees base l j) where
  sizes : Sizes l
  sizes = (fit_facts l f).sizes

  agrees_treat : (n : ℕ) (h : CollectionThere l n) (t : Treatment) → Passed l date (Treat n t) → Agrees base (effect l date (Treat n t)) (note_of j date (Treat n t))
  agrees_treat n h Settle p = agrees_settle base l j date g sizes n h
  agrees_treat n h Reject p = agrees_reject base l j date g sizes n h
  agrees_treat n h (Undo way) p =
      let u = undo_facts l n date h way p in
      agrees_undo base l j date g sizes n h way u.day u.state (not_zero u.day u.real)

  agrees_kept : (a : Action) → Sound a → Passed l date a → Agrees base (effect l date a) (note_of j date a)
  agrees_kept (AddCreditor a b) o p = agrees_creditor base l j date g a b o.creditor sizes.creditor_table
  agrees_kept (AddMandate m) o p =
      agrees_mandate base l j date g m (ltb-true l.mandates_used (rows l.mandates) p.row)
      (not_known (mandate_of l m.number) (not_true p.new))
  agrees_kept (ChangeMandate n c) o p =
      agrees_change base l j date g n c (mandate_there_lem l n f (and_halves (is_known (mandate_of l n)) p.there).0)
  agrees_kept (Collect p) o q =
      agrees_collect base l j date g p (mandate_there_lem l p.mandate f q.there)
      (ltb-true l.collections_used (rows l.collections) q.row)
      (not_known (collection_of l p.collection) (not_true q.new))
  agrees_kept (Treat n t) o p = agrees_treat n (collection_there l n f p.there) t p

-- ---- each event, on any ledger: an unfit one accepts nothing

agrees_after : (base l : Ledger) (j : Journal) (e : Event) → Agrees base l j → Agrees base (after l e) (feed j (entry e (is_accepted (answer l e))))
agrees_after base l j e g =
    after_cases (λ b x. Agrees base x (feed j (entry e b))) l e
    (λ a. rw (note_action j e a.is_within) (agrees_kept base l j e.date a.fits g (action_of e) a.sound a.passed))
    g

-- ---- every list

pub agrees_run : (base l : Ledger) (j : Journal) → Agrees base l j → (es : List Event) → Agrees base (run l es) (journal_from j (history l es))
unfolding run history journal_from
agrees_run base l j g [] = g
agrees_run base l j g (e ∷ es) =
    agrees_run base (after l e) (feed j (entry e (is_accepted (answer l e)))) (agrees_after base l j e g) es

-- ---- the start

held_same : (x : Known Collection) → SameKnown x (row_noted_known x)
unfolding row_noted
held_same unknown = tt
held_same (known k) =
    record { creditor = refl; debtor = refl; cbank = refl; dbank = refl; amount = refl; settled = λ s e. ap settled_on e }

pub agrees_start : (l : Ledger) → Agrees l l (started l)
agrees_start l =
    record {
      banks = λ a. refl;
      mandates = λ n. refl;
      collections = λ n. held_same (collection_of l n);
      figures = unmoved l;
    }

pub agrees_from_any_start : AgreesFromAnyStart
agrees_from_any_start = record { at_start = agrees_start; after_list = agrees_run }
