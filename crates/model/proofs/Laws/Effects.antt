-- Laws of specs/Effects: what an effect is where the row of its number is known, the facts of that row, and what is known once it is written.
-- To cite: `of_known_lem`, `not_known`; `MandateThere` with `mandate_there_lem`, `CollectionThere` with `collection_there` and `creditor_entry` to `cbank_entry`;
-- `changed_number`, `presented_number`, `treated_number`; `effect_change`, `effect_collect`, `effect_treat`;
-- `mandates_kept`, `collections_kept`. Assumes nothing.
use Rattle.std.proofs.Common.{Some}
use mathlib.Core.Path.{◌≡◌, refl, sym, ap, ◌∙◌}
use mathlib.Core.Bool.{Bool, true, false, cond}
use Prim.Native.Nat.{ℕ, ◌<◌}
use lib.Dec.{eqb}
use Rattle.positions.specs.Positions.{HasEntry}
use Rattle.tables.specs.Ledger.{Ledger}
use Rattle.tables.specs.Lookup.{lookup}
use Rattle.tables.specs.Rows.{rows, mandate_at, collection_at}
use Rattle.fitness.specs.Fitness.{fit}
use Rattle.tables.specs.declared.Mandate.{Mandate}
use Rattle.tables.specs.declared.Collection.{Collection}
use Rattle.tables.proofs.Laws.Lookup.{lookup_at, mandate_at_number, collection_at_number}
use Rattle.fitness.proofs.Laws.Fitness.{Sizes, MandateFit, CollectionFit, fit_mandate, fit_collection}
use Rattle.model.specs.declared.Change.{Change}
use Rattle.model.specs.declared.Presentation.{Presentation}
use Rattle.model.specs.declared.Treatment.{Treatment}
use Rattle.model.specs.declared.Action.TheVariants.{ChangeMandate, Collect, Treat}
use Rattle.model.specs.declared.Change.TheVariants.{NewBank, NewCreditor, Cancel}
use Rattle.model.specs.Lookups.{Known, is_known, of_known, mandate_of, collection_of}
use Rattle.model.specs.Lookups.Known.{unknown, known}
use Rattle.model.specs.Effects.{dated, keep_mandate, keep_collection, add_collection, changed, presented_on, new_collection, treated, post_treated, effect}
use Rattle.model.proofs.Laws.Views.{mandate_row, collection_row, mandate_of_keep, collection_of_keep}

-- ---- what is known

pub record IsKnown {A : Type 0} (x : Known A) : Type 0 where
  pub value : A
  pub is : x ≡ known value

pub is_known_lem : {A : Type 0} (x : Known A) → is_known x ≡ true → IsKnown x
is_known_lem unknown e = absurd cc
is_known_lem (known a) e = record { value = a; is = refl }

pub not_known : {A : Type 0} (x : Known A) → is_known x ≡ false → x ≡ unknown
not_known unknown e = refl
not_known (known a) e = absurd cc

-- the test of what is known
pub of_known_lem : {A : Type 0} {x : Known A} {a : A} (f : A → Bool) → x ≡ known a → of_known x f ≡ true → f a ≡ true
of_known_lem {x = x} f e h = rw e at h

-- ---- the mandate and the collection under a number, with their row and their limits

pub record MandateThere (l : Ledger) (n : ℕ) : Type 0 where
  pub mandate : Mandate
  pub is : mandate_of l n ≡ known mandate
  pub row : ℕ
  pub found : lookup l.mandates l.mandates_used n ≡ Some row
  pub at_row_lem : mandate_at l.mandates row ≡ mandate
  pub used_row_lem : row < l.mandates_used
  pub lent_row : row < rows l.mandates
  pub number : mandate.number ≡ n
  pub fits : MandateFit l.creditors mandate

pub mandate_there_lem : (l : Ledger) (n : ℕ) → fit l ≡ true → is_known (mandate_of l n) ≡ true → MandateThere l n
mandate_there_lem l n f e =
    let k = is_known_lem (mandate_of l n) e in
    let h = mandate_row l n k.value k.is in
    record {
      mandate = k.value;
      is = k.is;
      row = h.row;
      found = h.found;
      at_row_lem = sym h.is;
      used_row_lem = h.used_row_lem;
      lent_row = h.lent_row;
      number =
          ap (λ (m : Mandate). m.number) h.is
          ∙ mandate_at_number l.mandates h.row
          ∙ (lookup_at l.mandates l.mandates_used n h.row h.found).number_row;
      fits = rw h.is (fit_mandate l f h.row h.used_row_lem);
    }

pub record CollectionThere (l : Ledger) (n : ℕ) : Type 0 where
  pub collection : Collection
  pub is : collection_of l n ≡ known collection
  pub row : ℕ
  pub found : lookup l.collections l.collections_used n ≡ Some row
  pub at_row_lem : collection_at l.collections row ≡ collection
  pub used_row_lem : row < l.collections_used
  pub lent_row : row < rows l.collections
  pub number : collection.number ≡ n
  pub fits : CollectionFit l.latest l.creditors collection

pub collection_there : (l : Ledger) (n : ℕ) → fit l ≡ true → is_known (collection_of l n) ≡ true → CollectionThere l n
collection_there l n f e =
    let k = is_known_lem (collection_of l n) e in
    let h = collection_row l n k.value k.is in
    record {
      collection = k.value;
      is = k.is;
      row = h.row;
      found = h.found;
      at_row_lem = sym h.is;
      used_row_lem = h.used_row_lem;
      lent_row = h.lent_row;
      number =
          ap (λ (c : Collection). c.number) h.is
          ∙ collection_at_number l.collections h.row
          ∙ (lookup_at l.collections l.collections_used n h.row h.found).number_row;
      fits = rw h.is (fit_collection l f h.row h.used_row_lem);
    }

-- the parties and banks that a collection keeps have their entries
module _ (l : Ledger) (z : Sizes l) (n : ℕ) (h : CollectionThere l n) where
  pub creditor_entry : HasEntry l.creditor_positions h.collection.creditor
  creditor_entry =
      let w = h.fits.creditor_fit_lem in
      record { low = w.from; high = rw z.creditor_positions_lem w.to }

  pub debtor_entry : HasEntry l.debtor_positions h.collection.debtor
  debtor_entry =
      let w = h.fits.debtor_fit in
      record { low = w.from; high = rw z.debtor_positions_lem w.to }

  pub dbank_entry : HasEntry l.bank_positions h.collection.dbank
  dbank_entry =
      let w = h.fits.dbank_fit in
      record { low = w.from; high = rw z.bank_positions_lem w.to }

  pub cbank_entry : HasEntry l.bank_positions h.collection.cbank
  cbank_entry =
      let w = h.fits.cbank_fit in
      record { low = w.from; high = rw z.bank_positions_lem w.to }

-- ---- a mandate and a collection keep their numbers

pub changed_number : (c : Change) (m : Mandate) → (changed c m).number ≡ m.number
unfolding changed
changed_number (NewBank b) m = refl
changed_number (NewCreditor a) m = refl
changed_number Cancel m = refl

pub presented_number : (p : Presentation) (m : Mandate) → (presented_on p m).number ≡ m.number
unfolding presented_on
presented_number p m = refl

pub treated_number : (t : Treatment) (date : ℕ) (k : Collection) → (treated t date k).number ≡ k.number
unfolding treated
treated_number t date k = refl

-- ---- the effect, with the row known

module _ (l : Ledger) (date : ℕ) where
  pub effect_change : (n : ℕ) (c : Change) (h : MandateThere l n) → effect l date (ChangeMandate n c) ≡ keep_mandate (dated l date) h.row (changed c h.mandate)
  unfolding effect
  effect_change n c h = rw (h.found, h.at_row_lem)

  pub effect_collect : (p : Presentation) (h : MandateThere l p.mandate) → effect l date (Collect p) ≡ add_collection (keep_mandate (dated l date) h.row (presented_on p h.mandate)) (new_collection l.creditors p h.mandate)
  unfolding effect
  effect_collect p h = rw (h.found, h.at_row_lem)

  pub effect_treat : (n : ℕ) (t : Treatment) (h : CollectionThere l n) → effect l date (Treat n t) ≡ post_treated (keep_collection (dated l date) h.row (treated t date h.collection)) t date h.collection
  unfolding effect
  effect_treat n t h = rw (h.found, h.at_row_lem)

-- ---- what is known under each number after a mandate or a collection is written to its row

module _ (l : Ledger) (date : ℕ) where
  pub mandates_kept : (n : ℕ) (h : MandateThere l n) (m : Mandate) → m.number ≡ n → (k : ℕ) → mandate_of (keep_mandate (dated l date) h.row m) k ≡ cond (eqb k n) (known m) (mandate_of l k)
  unfolding mandate_of
  mandates_kept n h m e k =
      let f = ap (λ (i : ℕ). lookup l.mandates l.mandates_used i) e ∙ h.found in
      mandate_of_keep (dated l date) h.row m h.lent_row f k
      ∙ ap (λ (i : ℕ). cond (eqb k i) (known m) (mandate_of l k)) e

  pub collections_kept : (n : ℕ) (h : CollectionThere l n) (c : Collection) → c.number ≡ n → (k : ℕ) → collection_of (keep_collection (dated l date) h.row c) k ≡ cond (eqb k n) (known c) (collection_of l k)
  unfolding collection_of
  collections_kept n h c e k =
      let f = ap (λ (i : ℕ). lookup l.collections l.collections_used i) e ∙ h.found in
      collection_of_keep (dated l date) h.row c h.lent_row f k
      ∙ ap (λ (i : ℕ). cond (eqb k i) (known c) (collection_of l k)) e
