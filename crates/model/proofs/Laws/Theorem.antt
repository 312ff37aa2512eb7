-- Demand 3, proved: `demand3`. Every list from an opening, so every part of one, leaves tables that are safe, sums of zero, a journal that
-- agrees (an instance of `agrees_run`) and as many accepted events as the states say (`opened_reaches`); the claims follow from these.
-- Assumes nothing.
use Rattle.std.proofs.Common.{None, Ok, Option, ℕ}
use mathlib.Core.Path.{◌≡◌, refl, sym, ap, subst, ◌∙◌}
use mathlib.Core.Bool.{true, not, ◌&&◌}
use mathlib.Core.List.{List}
use Prim.Native.Nat.{ℕ, ◌-◌, ◌≤◌}
use native.Mathlib.Omega.{arith}
use lib.Dec.{eqb, leb}
use lib.IntN.{ℤ, pos, ◌+ℤ◌, +ℤ_idl}
use lib.ListN.{length, get_or, replicate}
use borrow.Author.Tests.{le-leb, eqb-true}
use Rattle.std.proofs.lemmas.List.{get_or-replicate, get_or_past, length-replicate}
use Rattle.common.proofs.Tests.{either, same_arms, and_true}
use Rattle.calendar.specs.Gregorian.{in_range}
use Rattle.calendar.specs.Periods.{is_after}
use Rattle.calendar.proofs.Laws.Promises.{kept_due_lem}
use Rattle.events.specs.declared.Event.{Event}
use Rattle.common.specs.Tests.{among}
use Rattle.positions.specs.Positions.{position, total}
use Rattle.positions.proofs.Laws.Positions.{position_zeros}
use Rattle.tables.specs.Limits.{creditor_count, debtor_count, bank_count}
use Rattle.tables.specs.Ledger.{Ledger, bank_of}
use Rattle.tables.specs.Lookup.{lookup}
use Rattle.fitness.specs.Fitness.{sizes_fit, fit}
use Rattle.opening.specs.Opening.{fresh, opened}
use Rattle.tables.specs.declared.Mandate.{Mandate}
use Rattle.tables.specs.declared.Standing.{Standing}
use Rattle.tables.specs.declared.Standing.TheVariants.{Live, Closed, Cancelled}
use Rattle.tables.proofs.Laws.Lookup.{lookup_none, existing_used}
use Rattle.opening.proofs.Laws.Opening.{opened_done}
use Rattle.fitness.proofs.Laws.Fitness.{fit_facts}
use Rattle.model.specs.declared.Way.{Way}
use Rattle.model.specs.Actions.{presentation, authorisation, action_of}
use Rattle.model.specs.declared.Action.TheVariants.{Collect, Treat}
use Rattle.model.specs.declared.Treatment.TheVariants.{Undo}
use Rattle.model.specs.declared.Way.TheVariants.{ByReturn, ByRefund, ByReversal}
use Rattle.model.specs.Deadlines.{kept_due, last_day, lapse_end, lapsed_for}
use Rattle.model.specs.Lookups.{mandate_of, collection_of}
use Rattle.model.specs.Checks.{stands_live, ruled}
use Rattle.model.specs.Step.{is_accepted, answer, in_query, figure_of, query, answered, run, Entry, entry, history}
use Rattle.model.specs.Bounds.{Safe}
use Rattle.model.specs.Journal.{empty, journal, figure_in}
use Rattle.model.specs.Noted.{noted_of}
use Rattle.model.specs.Promises.{sum_to, sum_of, times, undoings, last_day_from, lapse_from, NotAfter, UndoneInTime, CollectedLive, Kept, Demand3, Agrees, MandatesNotAsked}
use Rattle.model.proofs.Laws.Actions.{action_collect, action_return, action_refund, action_reversal}
use Rattle.model.proofs.Laws.Sound.{Sound, Passed}
use Rattle.model.proofs.Laws.Effects.{of_known_lem, mandate_there_lem, collection_there}
use Rattle.model.proofs.Laws.Accepted.{was_accepted, undo_facts}
use Rattle.model.proofs.Laws.Wordings.{kinds_of}
use Rattle.model.proofs.Laws.Wordings.Sort.{Ends, Undos, Settles}
use Rattle.model.proofs.Laws.Agree.{unmoved, noted_mandate, noted_collection_lem}
use Rattle.model.proofs.Laws.AnyStart.{agrees_run}
use Rattle.model.proofs.Laws.Counts.{count_in, count_known, Counted, count_le, counted_run}
use Rattle.model.proofs.Laws.Bounds.{Balanced}
use Rattle.model.proofs.Laws.Batch.{run_safe, run_balanced, opened_safe, opened_balanced}
use Rattle.model.proofs.Laws.Limits.{passed_limit, last_day_found, last_day_return, last_day_refund, last_day_reversal, lapse_found, timing}
use Rattle.model.proofs.Laws.Lists.{each_entry}
use Rattle.model.proofs.Laws.Sums.{sum_to_same, sum_to_total}

-- ---- the ledger that a list from an opening has reached, by the history of the list

pub record Reached (base l : Ledger) (h : List Entry) : Type 0 where
  pub safe : Safe l
  pub balanced : Balanced l
  pub agrees : Agrees base l (journal h)
  pub counted : Counted l (λ sort c. times (kinds_of sort) c h)

-- ---- what is claimed of each accepted event by the journal before it

pub record InTurn (before : List Entry) (x : Entry) : Type 0 where
  pub undone : x.accepted ≡ true → among undoings x.event.kind ≡ true → UndoneInTime before x.event
  pub collected : x.accepted ≡ true → x.event.kind ≡ 5 → CollectedLive before x.event

stands_live_lem : (s : Standing) → stands_live s ≡ true → s ≡ Live
stands_live_lem Live e = refl
stands_live_lem Closed e = absurd cc
stands_live_lem Cancelled e = absurd cc

-- one of three numbers
one_of : (P : Type 0) (n : ℕ) → among undoings n ≡ true → (n ≡ 8 → P) → (n ≡ 9 → P) → (n ≡ 10 → P) → P
one_of P n h a b c =
    either (eqb 8 n) (λ p. a (sym (eqb-true 8 n p)))
    (λ p.
    either (eqb 9 n) (λ q. b (sym (eqb-true 9 n q)))
    (λ q.
    either (eqb 10 n) (λ r. c (sym (eqb-true 10 n r))) (λ r. absurd cc)))

module _ (base l : Ledger) (h : List Entry) (s : Reached base l h) (e : Event) where
  undone_by : (way : Way) → ((d : ℕ) → in_range d ≡ true → last_day way d ≡ last_day_from e.kind e.code d) → Passed l e.date (Treat e.a (Undo way)) → UndoneInTime h e
  undone_by way words p =
      let t = collection_there l e.a s.safe.fits p.there in
      let u = undo_facts l e.a e.date t way p in
      let d = last_day_found way u.day u.real in
      let w = words u.day u.real in
      let n = noted_collection_lem base l (journal h) s.agrees e.a t.collection t.is in
      record {
        settled_once = s.counted Settles e.a ∙ ap (count_known Settles) t.is ∙ ap (count_in Settles) u.state;
        collection = n.value;
        is_noted = n.is;
        in_time_lem =
            subst (λ (i : ℕ). NotAfter e.date (last_day_from e.kind e.code i)) (sym (n.same.settled u.day u.state))
            (passed_limit e.date d.date _ (sym w ∙ d.is) (subst (λ (a : Option ℕ). not (is_after e.date a) ≡ true) w u.in_time_lem));
      }

  undone_in_time : Passed l e.date (action_of e) → among undoings e.kind ≡ true → UndoneInTime h e
  undone_in_time p k =
      one_of (UndoneInTime h e) e.kind k
      (λ i.
      undone_by ByReturn (λ d r. last_day_return d e.code r ∙ ap (λ (n : ℕ). last_day_from n e.code d) (sym i))
      (subst (Passed l e.date) (action_return e i) p))
      (λ i.
      undone_by (ByRefund e.b (authorisation e.code)) (λ d r. last_day_refund d e.code r e.b ∙ ap (λ (n : ℕ). last_day_from n e.code d) (sym i))
      (subst (Passed l e.date) (action_refund e i) p))
      (λ i.
      undone_by ByReversal (λ d r. last_day_reversal d e.code r ∙ ap (λ (n : ℕ). last_day_from n e.code d) (sym i))
      (subst (Passed l e.date) (action_reversal e i) p))

  collected_live : in_range e.date ≡ true → in_range e.second ≡ true → Passed l e.date (Collect (presentation e)) → CollectedLive h e
  unfolding noted_of kept_due lapse_end
  collected_live d r q =
      let t = mandate_there_lem l e.mandate s.safe.fits q.there in
      let k = kept_due_lem e.second r in
      let f = lapse_found t.mandate.presented t.mandate.signed t.fits.presented_date t.fits.signed_date in
      let g = of_known_lem (λ (m : Mandate). not (lapsed_for (kept_due e.second) m.presented m.signed)) t.is q.lapse in
      record {
        mandate = noted_of t.mandate;
        is_noted = noted_mandate base l (journal h) s.agrees e.mandate t.mandate t.is;
        is_live = stands_live_lem t.mandate.standing (of_known_lem (λ (m : Mandate). stands_live m.standing) t.is q.live);
        due = k.date;
        is_due = k.is;
        not_lapsed_lem = passed_limit k.date f.date (lapse_from (noted_of t.mandate)) f.is (rw k.is at g);
        in_time_lem = (timing e.date e.second d r).then q.time;
      }

  in_turn : InTurn h (entry e (is_accepted (answer l e)))
  in_turn =
      record {
        undone = λ a i. undone_in_time (was_accepted l e a).passed i;
        collected =
            λ a i.
            let w = was_accepted l e a in
            collected_live w.range (subst Sound (action_collect e i) w.sound).requested (subst (Passed l e.date) (action_collect e i) w.passed);
      }

-- ---- the opening

no_bank : (n a : ℕ) → bank_of (replicate n 0) a ≡ 0
unfolding bank_of
no_bank n a =
    let z : ◌≡◌ {A = ℕ} (get_or (replicate n 0) (a - 1) 0) 0 = grind (arith, get_or-replicate, get_or_past, length-replicate) in
    rw z (same_arms (eqb a 0) 0)

no_row : (cells : List ℕ) (n : ℕ) → lookup cells 0 n ≡ None
no_row cells n = lookup_none cells 0 n (λ j l. absurd (omega (arith, existing_used cells 0)))

module _ (t : Ledger) (z : sizes_fit t ≡ true) where
  -- the journal begins empty
  opened_agrees : Agrees (opened t) (opened t) empty
  unfolding mandate_of collection_of fresh
  opened_agrees =
      rw (opened_done t z)
      (record {
        banks = no_bank creditor_count;
        mandates = λ n. rw (no_row t.mandates n);
        collections = λ n. rw (no_row t.collections n) tt;
        figures = unmoved (fresh t);
      })

  opened_counted : Counted (opened t) (λ sort c. 0)
  unfolding collection_of fresh
  opened_counted sort c = rw (opened_done t z, no_row t.collections c)

  -- every figure is 0
  opened_figures : (kind number : ℕ) → figure_of (opened t) kind number ≡ pos 0
  unfolding fresh
  opened_figures kind number =
      rw (opened_done t z, position_zeros creditor_count number, position_zeros debtor_count number, position_zeros bank_count number)
      (rw (same_arms (eqb kind 3) (pos 0), same_arms (eqb kind 2) (pos 0), same_arms (eqb kind 1) (pos 0)))

  opened_reaches : (es : List Event) → Reached (opened t) (run (opened t) es) (history (opened t) es)
  opened_reaches es =
      record {
        safe = run_safe es (opened t) (opened_safe t z);
        balanced = run_balanced es (opened t) (opened_balanced t z);
        agrees = agrees_run (opened t) (opened t) empty opened_agrees es;
        counted = λ sort c. omega (arith, counted_run (opened t) (λ s i. 0) opened_counted es sort c);
      }

-- ---- the claim, of the ledger at the end of the list

-- the answers of a fit ledger
module _ (l : Ledger) (f : fit l ≡ true) where
  query_figure : (kind number : ℕ) → in_query kind number ≡ true → query l kind number ≡ Ok (figure_of l kind number)
  unfolding query
  query_figure kind number q = rw (f, q)

  -- of the table that the queries of a kind ask
  sum_answers : (kind count : ℕ) (table : List ℤ) → length table ≡ count → ((n : ℕ) → 1 ≤ n → n ≤ count → in_query kind n ≡ true) → ((n : ℕ) → figure_of l kind n ≡ position table n) → sum_of l kind count ≡ total table
  sum_answers kind count table e q g =
      sum_to_same (λ n. answered (query l kind n)) (position table) count
      (λ n a b. ap answered (query_figure kind n (q n a b)) ∙ g n)
      ∙ ap (sum_to (position table)) (sym e)
      ∙ sum_to_total table

module _ (t : Ledger) (z : sizes_fit t ≡ true) (es : List Event) where
  figures_agree : (kind number : ℕ) → figure_of (run (opened t) es) kind number ≡ figure_in (journal (history (opened t) es)) kind number
  figures_agree kind number =
      let j = journal (history (opened t) es) in
      (opened_reaches t z es).agrees.figures kind number
      ∙ ap (λ (x : ℤ). x +ℤ figure_in j kind number) (opened_figures t z kind number)
      ∙ +ℤ_idl (figure_in j kind number)

  kept : Kept (opened t) es
  kept =
      let l = run (opened t) es in
      let r = opened_reaches t z es in
      let f = r.safe.fits in
      let s = (fit_facts l f).sizes in
      let lim : (n m : ℕ) → 1 ≤ n → n ≤ m → leb 1 n && leb n m ≡ true = λ n m a b. and_true (le-leb 1 n a) (le-leb n m b) in
      let creditors = sum_answers l f 1 creditor_count l.creditor_positions s.creditor_positions_lem (λ n a b. lim n creditor_count a b) (λ n. refl) in
      let debtors = sum_answers l f 2 debtor_count l.debtor_positions s.debtor_positions_lem (λ n a b. lim n debtor_count a b) (λ n. refl) in
      let banks = sum_answers l f 3 bank_count l.bank_positions s.bank_positions_lem (λ n a b. lim n bank_count a b) (λ n. refl) in
      let paid : answered (query l 4 0) ≡ l.compensation = ap answered (query_figure l f 4 0 refl) in
      let turns = each_entry InTurn (opened t) es (λ earlier. in_turn (opened t) (run (opened t) earlier) (history (opened t) earlier) (opened_reaches t z earlier)) in
      record {
        figures = λ kind number q. query_figure l f kind number q ∙ ap Ok (figures_agree kind number);
        parties = rw (creditors, debtors, paid) r.balanced.parties;
        banks = banks ∙ r.balanced.banks;
        ended_once = λ c. rw (r.counted Ends c) (count_le Ends (collection_of l c));
        undone_once = λ c. rw (r.counted Undos c) (count_le Undos (collection_of l c));
        undone_in_time = λ before later x e. (turns before later x e).undone;
        collected_live = λ before later x e. (turns before later x e).collected;
      }

-- ---- demand 3

pub demand3 : Demand3
demand3 = kept

-- ---- events 6 to 10 ask nothing of a mandate

pub mandates_not_asked : MandatesNotAsked
unfolding ruled collection_of
mandates_not_asked h m m' c k cp dp bp date n t = refl
