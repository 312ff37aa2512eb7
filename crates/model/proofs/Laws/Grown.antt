-- What an event, whatever its answer, writes to the rows of both tables: each used row stays where it is, with its number, and no
-- unused row is written. To cite: `mandates_grown`, `collections_grown`, `unused_rows`. Assumes nothing.
use Rattle.std.proofs.Common.{None, Option, Some, ℕ}
use mathlib.Core.Path.{◌≡◌, refl, ◌∙◌}
use mathlib.Core.List.{List}
use Prim.Native.Nat.{ℕ, ◌+◌}
use native.Mathlib.Omega.{arith}
use lib.ListN.{length, get_or}
use Rattle.events.specs.declared.Event.{Event}
use Rattle.tables.specs.declared.Mandate.{Mandate}
use Rattle.tables.specs.declared.Collection.{Collection}
use Rattle.tables.specs.Ledger.{Ledger}
use Rattle.tables.specs.Records.{mandate_cells, collection_cells}
use Rattle.tables.specs.Limits.{stride}
use Rattle.tables.specs.Rows.{put_row, mandate_at, collection_at, put_mandate, put_collection}
use Rattle.tables.specs.Lookup.{lookup, number_at}
use Rattle.tables.proofs.Laws.Lookup.{Grown, grown_same, grown_put_kept, grown_put_next, lookup_used, lookup_lent, mandate_at_number, collection_at_number}
use Rattle.tables.proofs.Laws.Rows.{length_put, cell_put_unused}
use Rattle.model.specs.declared.Action.{Action}
use Rattle.model.specs.declared.Treatment.{Treatment}
use Rattle.model.specs.Actions.{action_of}
use Rattle.model.specs.declared.Action.TheVariants.{AddCreditor, AddMandate, ChangeMandate, Collect, Treat}
use Rattle.model.specs.declared.Treatment.TheVariants.{Settle, Reject, Undo}
use Rattle.model.specs.Effects.{dated, changed, presented_on, new_collection, treated, post_treated, keep_collection, at_row, effect}
use Rattle.model.specs.Step.{after}
use Rattle.model.specs.Promises.{UnusedKept, UnusedRows}
use Rattle.model.proofs.Laws.Effects.{changed_number, presented_number, treated_number}
use Rattle.model.proofs.Laws.Accepted.{after_cases}

-- ---- what is written to each table: nothing, a row that was found, or the next row

module _ (P : List ℕ → ℕ → List ℕ → ℕ → Type 0)
    (same : (cells : List ℕ) (used : ℕ) → P cells used cells used)
    (anew : (cells : List ℕ) (used n row : ℕ) (fields : List ℕ) → length fields ≡ stride → lookup cells used n ≡ Some row
    → get_or fields 0 0 ≡ number_at cells row → P cells used (put_row stride cells row fields) used)
    (next : (cells : List ℕ) (used : ℕ) (fields : List ℕ) → length fields ≡ stride → P cells used (put_row stride cells used fields) (used + 1)) where
  module _ (l : Ledger) (date : ℕ) where
    mandate_anew : (n row : ℕ) (m : Mandate)
        → lookup l.mandates l.mandates_used n ≡ Some row
        → m.number ≡ (mandate_at l.mandates row).number
        → P l.mandates l.mandates_used (put_mandate l.mandates row m) l.mandates_used
    mandate_anew n row m f e =
        anew l.mandates l.mandates_used n row (mandate_cells m) refl f (e ∙ mandate_at_number l.mandates row)

    collection_anew : (n row : ℕ) (k : Collection)
        → lookup l.collections l.collections_used n ≡ Some row
        → k.number ≡ (collection_at l.collections row).number
        → P l.collections l.collections_used (put_collection l.collections row k) l.collections_used
    collection_anew n row k f e =
        anew l.collections l.collections_used n row (collection_cells k) refl f (e ∙ collection_at_number l.collections row)

    abbrev Mandates : Ledger → Type 0
    Mandates l' = P l.mandates l.mandates_used l'.mandates l'.mandates_used

    abbrev Collections : Ledger → Type 0
    Collections l' = P l.collections l.collections_used l'.collections l'.collections_used

    -- of the row that was found, or of none
    at_row_lem : (Q : Ledger → Type 0) (f : Option ℕ) (g : ℕ → Ledger) → Q (dated l date) → ((row : ℕ) → f ≡ Some row → Q (g row)) → Q (at_row f (dated l date) g)
    at_row_lem Q None g none found = none
    at_row_lem Q (Some row) g none found = found row refl

    treat_mandates : (row : ℕ) (k : Collection) (t : Treatment) (c : Collection) → Mandates (post_treated (keep_collection (dated l date) row k) t date c)
    treat_mandates row k Settle c = same l.mandates l.mandates_used
    treat_mandates row k Reject c = same l.mandates l.mandates_used
    treat_mandates row k (Undo way) c = same l.mandates l.mandates_used

    treat_collections : (row : ℕ) (k : Collection) (t : Treatment) (c : Collection)
        → P l.collections l.collections_used (put_collection l.collections row k) l.collections_used
        → Collections (post_treated (keep_collection (dated l date) row k) t date c)
    treat_collections row k Settle c g = g
    treat_collections row k Reject c g = g
    treat_collections row k (Undo way) c g = g

    effect_mandates : (a : Action) → Mandates (effect l date a)
    unfolding effect
    effect_mandates (AddCreditor a b) = same l.mandates l.mandates_used
    effect_mandates (AddMandate m) = next l.mandates l.mandates_used (mandate_cells m) refl
    effect_mandates (ChangeMandate n c) =
        at_row_lem Mandates (lookup l.mandates l.mandates_used n) _ (same l.mandates l.mandates_used)
        (λ row f. mandate_anew n row (changed c (mandate_at l.mandates row)) f (changed_number c (mandate_at l.mandates row)))
    effect_mandates (Collect p) =
        at_row_lem Mandates (lookup l.mandates l.mandates_used p.mandate) _ (same l.mandates l.mandates_used)
        (λ row f. mandate_anew p.mandate row (presented_on p (mandate_at l.mandates row)) f (presented_number p (mandate_at l.mandates row)))
    effect_mandates (Treat n t) =
        at_row_lem Mandates (lookup l.collections l.collections_used n) _ (same l.mandates l.mandates_used)
        (λ row f. treat_mandates row (treated t date (collection_at l.collections row)) t (collection_at l.collections row))

    effect_collections : (a : Action) → Collections (effect l date a)
    unfolding effect
    effect_collections (AddCreditor a b) = same l.collections l.collections_used
    effect_collections (AddMandate m) = same l.collections l.collections_used
    effect_collections (ChangeMandate n c) =
        at_row_lem Collections (lookup l.mandates l.mandates_used n) _ (same l.collections l.collections_used)
        (λ row f. same l.collections l.collections_used)
    effect_collections (Collect p) =
        at_row_lem Collections (lookup l.mandates l.mandates_used p.mandate) _ (same l.collections l.collections_used)
        (λ row f.
        next l.collections l.collections_used (collection_cells (new_collection l.creditors p (mandate_at l.mandates row))) refl)
    effect_collections (Treat n t) =
        at_row_lem Collections (lookup l.collections l.collections_used n) _ (same l.collections l.collections_used)
        (λ row f.
        let k = collection_at l.collections row in
        treat_collections row (treated t date k) t k (collection_anew n row (treated t date k) f (treated_number t date k)))

  -- after an event

  module _ (l : Ledger) (e : Event) where
    mandates_after : P l.mandates l.mandates_used (after l e).mandates (after l e).mandates_used
    mandates_after =
        after_cases (λ b x. Mandates l e.date x) l e (λ a. effect_mandates l e.date (action_of e))
        (same l.mandates l.mandates_used)

    collections_after : P l.collections l.collections_used (after l e).collections (after l e).collections_used
    collections_after =
        after_cases (λ b x. Collections l e.date x) l e (λ a. effect_collections l e.date (action_of e))
        (same l.collections l.collections_used)

-- ---- each used row stays where it is, with its number

grown_anew : (cells : List ℕ) (used n row : ℕ) (fields : List ℕ) → length fields ≡ stride → lookup cells used n ≡ Some row → get_or fields 0 0 ≡ number_at cells row → Grown cells used (put_row stride cells row fields) used
grown_anew cells used n row fields len f e = grown_put_kept cells row fields len (lookup_lent cells used n row f) e used

pub mandates_grown : (l : Ledger) (e : Event) → Grown l.mandates l.mandates_used (after l e).mandates (after l e).mandates_used
mandates_grown = mandates_after Grown grown_same grown_anew grown_put_next

pub collections_grown : (l : Ledger) (e : Event) → Grown l.collections l.collections_used (after l e).collections (after l e).collections_used
collections_grown = collections_after Grown grown_same grown_anew grown_put_next

-- ---- no cell of an unused row is written

unused_same : (cells : List ℕ) (used : ℕ) → UnusedKept cells used cells used
unused_same cells used = record { same_length = refl; none_lost = omega arith; one_more = omega arith; same_cells = λ i h. refl }

unused_anew : (cells : List ℕ) (used n row : ℕ) (fields : List ℕ) → length fields ≡ stride → lookup cells used n ≡ Some row → get_or fields 0 0 ≡ number_at cells row → UnusedKept cells used (put_row stride cells row fields) used
unused_anew cells used n row fields len f e =
    record {
      same_length = length_put stride cells row fields;
      none_lost = omega arith;
      one_more = omega arith;
      same_cells = λ i h. cell_put_unused stride cells row fields len used i (lookup_used cells used n row f) h;
    }

unused_next : (cells : List ℕ) (used : ℕ) (fields : List ℕ) → length fields ≡ stride → UnusedKept cells used (put_row stride cells used fields) (used + 1)
unused_next cells used fields len =
    record {
      same_length = length_put stride cells used fields;
      none_lost = omega arith;
      one_more = omega arith;
      same_cells = λ i h. cell_put_unused stride cells used fields len (used + 1) i (omega arith) h;
    }

pub unused_rows : UnusedRows
unused_rows l e =
    record {
      mandates = mandates_after UnusedKept unused_same unused_anew unused_next l e;
      collections = collections_after UnusedKept unused_same unused_anew unused_next l e;
    }
