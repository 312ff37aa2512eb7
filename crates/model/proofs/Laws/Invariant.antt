-- What every accepted event keeps of the tables: they are fit, the positions within what the collections have moved, and the sums zero.
-- To cite: `safe_kept`, `balanced_kept`. Assumes nothing.
use mathlib.Core.Path.{◌≡◌, refl, sym, ap, subst, ◌∙◌}
use mathlib.Core.Bool.{true}
use Prim.Native.Nat.{ℕ, ◌+◌, ◌≤◌, ◌<◌}
use native.Mathlib.Omega.{arith}
use borrow.Author.Tests.{leb-true, ltb-true}
use Rattle.common.proofs.Tests.{and_halves}
use Rattle.calendar.proofs.Laws.Gregorian.{range_facts}
use Rattle.calendar.specs.Gregorian.{in_range}
use Rattle.positions.specs.Compensation.{amount_limit}
use Rattle.positions.specs.Limits.{compensation_limit}
use Rattle.positions.specs.Postings.{settlement}
use Rattle.positions.specs.declared.Postings.{Postings}
use Rattle.tables.specs.Ledger.{Ledger}
use Rattle.tables.specs.Rows.{rows, put_collection}
use Rattle.fitness.specs.Fitness.{fit}
use Rattle.tables.specs.declared.Mandate.{Mandate}
use Rattle.tables.specs.declared.Collection.{Collection}
use Rattle.tables.specs.declared.State.TheVariants.{Presented, Settled}
use Rattle.fitness.proofs.Laws.Fitness.{fit_facts}
use Rattle.model.specs.declared.Action.{Action}
use Rattle.model.specs.declared.Change.{Change}
use Rattle.model.specs.declared.Presentation.{Presentation}
use Rattle.model.specs.declared.Treatment.{Treatment}
use Rattle.model.specs.declared.Way.{Way}
use Rattle.model.specs.declared.Action.TheVariants.{AddCreditor, AddMandate, ChangeMandate, Collect, Treat}
use Rattle.model.specs.declared.Treatment.TheVariants.{Settle, Reject, Undo}
use Rattle.model.specs.Lookups.{is_known, mandate_of}
use Rattle.model.specs.Checks.{settled_on}
use Rattle.model.specs.Bounds.{sum_rows, moved, moved_at, spent, Bounded, Safe}
use Rattle.model.specs.Effects.{dated, keep_mandate, keep_collection, add_collection, with_postings, changed, presented_on, new_collection, treated, undone, effect}
use Rattle.model.proofs.Laws.Sound.{Sound, SoundWay, Passed}
use Rattle.model.proofs.Laws.Effects.{MandateThere, mandate_there_lem, CollectionThere, collection_there, creditor_entry, debtor_entry, dbank_entry, cbank_entry, effect_change, effect_collect, effect_treat}
use Rattle.model.proofs.Laws.Accepted.{is_presented_lem, state_found, UndoFacts, undo_facts}
use Rattle.model.proofs.Laws.Spent.{sum_treated, sum_added}
use Rattle.model.proofs.Laws.Bounds.{Balanced, Posting, larger, settle_posting, undo_posting, days_in_time, bounded_posted, balanced_posted}
use Rattle.model.proofs.Laws.FitKept.{fit_creditor, fit_mandate_added, fit_change, fit_collect, fit_kept, fit_posted}

-- ---- what a treatment posts, by its size

module _ (l : Ledger) (n date : ℕ) (range : in_range date ≡ true) (h : CollectionThere l n) where
  settle_post : Posting amount_limit (settlement h.collection.amount)
  settle_post = larger h.fits.amount_fit.to (settle_posting h.collection.amount)

  undo_post : (way : Way) → SoundWay way → UndoFacts l n date h way → Posting (amount_limit + compensation_limit) (undone way h.collection.amount (settled_on h.collection.state) date)
  undo_post way o u =
      subst (λ (i : ℕ). Posting (amount_limit + compensation_limit) (undone way h.collection.amount i date)) (sym (ap settled_on u.state))
      (undo_posting way h.collection.amount u.day date o h.fits.amount_fit.to
      (omega (arith, days_in_time way u.day date u.real (range_facts date range).is_date_lem u.in_time_lem)))

-- ---- each event keeps the tables safe

module _ (l : Ledger) (date : ℕ) (s : Safe l) (range : in_range date ≡ true) where
  order : (a : Action) → Passed l date a → l.latest ≤ date
  order a p = leb-true l.latest date p.order

  -- where neither the collections nor the positions change
  same_bounded : (l' : Ledger) → spent l' ≡ spent l → l'.creditor_positions ≡ l.creditor_positions → l'.debtor_positions ≡ l.debtor_positions → l'.bank_positions ≡ l.bank_positions → l'.compensation ≡ l.compensation → Bounded l'
  same_bounded l' e c d b k =
      let h = s.bounded in
      record {
        creditors = λ n. rw (e, c) (h.creditors n);
        debtors = λ n. rw (e, d) (h.debtors n);
        banks = λ n. rw (e, b) (h.banks n);
        cents = h.cents;
        paid = k ∙ h.paid;
        cents_le = rw e h.cents_le;
      }

  safe_creditor : (a b : ℕ) → Sound (AddCreditor a b) → Passed l date (AddCreditor a b) → Safe (effect l date (AddCreditor a b))
  unfolding effect spent
  safe_creditor a b o p =
      record {
        fits = fit_creditor l s.fits date range (order _ p) a b o;
        bounded = same_bounded (effect l date (AddCreditor a b)) refl refl refl refl refl;
      }

  safe_mandate : (m : Mandate) → Sound (AddMandate m) → Passed l date (AddMandate m) → Safe (effect l date (AddMandate m))
  unfolding effect spent
  safe_mandate m o p =
      let r = ltb-true l.mandates_used (rows l.mandates) p.row in
      record {
        fits = fit_mandate_added l s.fits date range (order _ p) m o p.there r;
        bounded = same_bounded (effect l date (AddMandate m)) refl refl refl refl refl;
      }

  -- a mandate row anew
  kept_bounded : (row : ℕ) (m : Mandate) → Bounded (keep_mandate (dated l date) row m)
  unfolding spent
  kept_bounded row m = same_bounded (keep_mandate (dated l date) row m) refl refl refl refl refl

  safe_change : (n : ℕ) (x : Change) → Sound (ChangeMandate n x) → Passed l date (ChangeMandate n x) → Safe (effect l date (ChangeMandate n x))
  safe_change n x o p =
      let q = and_halves (is_known (mandate_of l n)) p.there in
      let h = mandate_there_lem l n s.fits q.0 in
      record {
        fits = fit_change l s.fits date range (order _ p) n x h o q.1;
        bounded = rw (effect_change l date n x h) (kept_bounded h.row (changed x h.mandate));
      }

  -- a presented row has moved nothing
  spent_collect : (p : Presentation) (h : MandateThere l p.mandate) → l.collections_used < rows l.collections → spent (add_collection (keep_mandate (dated l date) h.row (presented_on p h.mandate)) (new_collection l.creditors p h.mandate)) ≡ spent l
  unfolding spent new_collection
  spent_collect p h r = omega (arith, sum_added l.collections l.collections_used (new_collection l.creditors p h.mandate) r)

  safe_collect : (p : Presentation) → Sound (Collect p) → Passed l date (Collect p) → Safe (effect l date (Collect p))
  safe_collect p o q =
      let h = mandate_there_lem l p.mandate s.fits q.there in
      let r = ltb-true l.collections_used (rows l.collections) q.row in
      record {
        fits = fit_collect l s.fits date range (order _ q) p h o r;
        bounded = rw (effect_collect l date p h) (same_bounded _ (spent_collect p h r) refl refl refl refl);
      }

  -- ---- events 6 to 10

  module _ (n : ℕ) (h : CollectionThere l n) where
    -- what the collection's row has moved more, by its old and its new state
    spent_treated : (tr : Treatment) → spent (keep_collection (dated l date) h.row (treated tr date h.collection)) + moved h.collection.state ≡ spent l + moved (treated tr date h.collection).state
    unfolding spent
    spent_treated tr =
        ap (λ (c : Collection). sum_rows (moved_at (put_collection l.collections h.row (treated tr date h.collection))) l.collections_used + moved c.state) (sym h.at_row_lem)
        ∙ sum_treated l.collections l.collections_used h.row (treated tr date h.collection) h.used_row_lem h.lent_row

    -- a posting does not change the rows
    spent_posted : (tr : Treatment) (p : Postings) → spent (with_postings (keep_collection (dated l date) h.row (treated tr date h.collection)) h.collection p) ≡ spent (keep_collection (dated l date) h.row (treated tr date h.collection))
    unfolding spent
    spent_posted tr p = refl

    moved_settle : h.collection.state ≡ Presented → spent l + amount_limit ≤ spent (with_postings (keep_collection (dated l date) h.row (treated Settle date h.collection)) h.collection (settlement h.collection.amount))
    unfolding treated
    moved_settle st = omega (arith, spent_posted Settle (settlement h.collection.amount), spent_treated Settle, ap moved st)

    moved_undo : (way : Way) (day : ℕ) (p : Postings) → h.collection.state ≡ Settled day → spent l + (amount_limit + compensation_limit) ≤ spent (with_postings (keep_collection (dated l date) h.row (treated (Undo way) date h.collection)) h.collection p)
    unfolding treated
    moved_undo way day p st = omega (arith, spent_posted (Undo way) p, spent_treated (Undo way), ap moved st)

    safe_settle : Passed l date (Treat n Settle) → Safe (effect l date (Treat n Settle))
    safe_settle p =
        let b = bounded_posted l date h.row (treated Settle date h.collection) h.collection (settlement h.collection.amount) amount_limit (settle_post l n date range h) s.bounded (moved_settle (is_presented_lem h.collection.state (state_found l n date h Settle p))) in
        rw (effect_treat l date n Settle h)
        (record { fits = fit_posted l s.fits date range (order _ p) n h Settle (settlement h.collection.amount) b; bounded = b })

    safe_reject : Passed l date (Treat n Reject) → Safe (effect l date (Treat n Reject))
    unfolding treated
    safe_reject p =
        let e : spent (keep_collection (dated l date) h.row (treated Reject date h.collection)) ≡ spent l = omega (arith, spent_treated Reject, ap moved (is_presented_lem h.collection.state (state_found l n date h Reject p))) in
        rw (effect_treat l date n Reject h)
        (record {
          fits = fit_kept l s.fits date range (order _ p) n h Reject;
          bounded = same_bounded (keep_collection (dated l date) h.row (treated Reject date h.collection)) e refl refl refl refl;
        })

    safe_undo : (way : Way) → SoundWay way → Passed l date (Treat n (Undo way)) → Safe (effect l date (Treat n (Undo way)))
    safe_undo way o p =
        let u = undo_facts l n date h way p in
        let post = undone way h.collection.amount (settled_on h.collection.state) date in
        let b = bounded_posted l date h.row (treated (Undo way) date h.collection) h.collection post (amount_limit + compensation_limit) (undo_post l n date range h way o u) s.bounded (moved_undo way u.day post u.state) in
        rw (effect_treat l date n (Undo way) h)
        (record { fits = fit_posted l s.fits date range (order _ p) n h (Undo way) post b; bounded = b })

    safe_treat : (tr : Treatment) → Sound (Treat n tr) → Passed l date (Treat n tr) → Safe (effect l date (Treat n tr))
    safe_treat Settle o p = safe_settle p
    safe_treat Reject o p = safe_reject p
    safe_treat (Undo way) o p = safe_undo way o p

  pub safe_kept : (a : Action) → Sound a → Passed l date a → Safe (effect l date a)
  safe_kept (AddCreditor a b) o p = safe_creditor a b o p
  safe_kept (AddMandate m) o p = safe_mandate m o p
  safe_kept (ChangeMandate n x) o p = safe_change n x o p
  safe_kept (Collect p) o q = safe_collect p o q
  safe_kept (Treat n tr) o p = safe_treat n (collection_there l n s.fits p.there) tr o p

-- ---- each event keeps the sums at zero

module _ (l : Ledger) (date : ℕ) (f : fit l ≡ true) (range : in_range date ≡ true) (b : Balanced l) where
  -- where the positions do not change
  same_balanced : (l' : Ledger) → l'.creditor_positions ≡ l.creditor_positions → l'.debtor_positions ≡ l.debtor_positions → l'.bank_positions ≡ l.bank_positions → l'.compensation ≡ l.compensation → Balanced l'
  same_balanced l' c d k p = record { parties = rw (c, d, p) b.parties; banks = rw k b.banks }

  module _ (n : ℕ) (h : CollectionThere l n) where
    balanced_treated : (tr : Treatment) (p : Postings) (m : ℕ) → Posting m p → Balanced (with_postings (keep_collection (dated l date) h.row (treated tr date h.collection)) h.collection p)
    balanced_treated tr p m q =
        let z = (fit_facts l f).sizes in
        balanced_posted l date h.row (treated tr date h.collection) h.collection p m q b
        (creditor_entry l z n h) (debtor_entry l z n h) (dbank_entry l z n h) (cbank_entry l z n h)

    balanced_treat : (tr : Treatment) → Sound (Treat n tr) → Passed l date (Treat n tr) → Balanced (effect l date (Treat n tr))
    balanced_treat Settle o p = rw (effect_treat l date n Settle h) (balanced_treated Settle _ amount_limit (settle_post l n date range h))
    balanced_treat Reject o p = rw (effect_treat l date n Reject h) (same_balanced _ refl refl refl refl)
    balanced_treat (Undo way) o p =
        rw (effect_treat l date n (Undo way) h)
        (balanced_treated (Undo way) _ (amount_limit + compensation_limit) (undo_post l n date range h way o (undo_facts l n date h way p)))

  pub balanced_kept : (a : Action) → Sound a → Passed l date a → Balanced (effect l date a)
  unfolding effect
  balanced_kept (AddCreditor a k) o p = same_balanced (effect l date (AddCreditor a k)) refl refl refl refl
  balanced_kept (AddMandate m) o p = same_balanced (effect l date (AddMandate m)) refl refl refl refl
  balanced_kept (ChangeMandate n x) o p =
      rw (effect_change l date n x (mandate_there_lem l n f (and_halves (is_known (mandate_of l n)) p.there).0)) (same_balanced _ refl refl refl refl)
  balanced_kept (Collect p) o q =
      rw (effect_collect l date p (mandate_there_lem l p.mandate f q.there)) (same_balanced _ refl refl refl refl)
  balanced_kept (Treat n tr) o p = balanced_treat n (collection_there l n f p.there) tr o p
