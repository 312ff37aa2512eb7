-- Laws of specs/Treatments: what is written for a verdict, and under which other tables. To cite: `sum_fits`, `amount_back`, `paid_within`,
-- `creditor_posted` and the like, `written`, `found_verdict`, `treated_beside`. Assumes nothing.
use Rattle.std.proofs.Common.{ℕ, Option, Some, None, is_some, unwrap_or, Result, Ok, Err}
use Rattle.std.proofs.lemmas.Int.{ints}
use Rattle.refusals.specs.declared.Refusal.{Refusal}
use Rattle.treatments.specs.declared.verdicts.Verdict.{Verdict}
use Rattle.treatments.specs.declared.verdicts.Verdict.TheVariants.{Mark, Post}
use mathlib.Core.Path.{◌≡◌, refl}
use mathlib.Core.Bool.{Bool, true, false, cond}
use mathlib.Core.List.{List, [], ◌∷◌}
use Prim.Native.Nat.{ℕ, ◌*◌, ◌≤◌}
use native.Mathlib.Omega.{arith}
use lib.IntN.{ℤ, nat_abs, ◌+ℤ◌}
use mir.Syntax.{w64}
use mir.Val.{SFits, to_z, of_z}
use Rattle.common.proofs.Tests.{all_of_at}
use Rattle.positions.specs.Positions.{HasEntry, position_limit, has_entry, position, posted, in_limit}
use Rattle.positions.specs.Answers.{post_answer, after_post}
use Rattle.positions.specs.declared.Postings.{Postings}
use Rattle.positions.proofs.Laws.Integers.{within_size}
use Rattle.positions.proofs.Laws.Positions.{has_entry_entry, entry_posted, size_posted}
use Rattle.positions.proofs.Laws.Answers.{post_fits}
use Rattle.tables.specs.declared.Collection.{Collection}
use Rattle.tables.specs.declared.Header.{Header}
use Rattle.tables.specs.declared.BookMut.{BookMut}
use Rattle.tables.specs.Ledger.{Ledger, ledger, ledger_in}
use Rattle.tables.specs.Rows.{put_collection}
use Rattle.model.specs.declared.Treatment.{Treatment}
use Rattle.checking.specs.Calls.{found_row}
use Rattle.model.specs.declared.HandedOn.{HandedOn}
use Rattle.model.specs.declared.HandedOn.TheVariants.{Nothing}
use Rattle.checking.proofs.Laws.Calls.{done_same, done_beside}
use Rattle.treatments.specs.Treatments.{held, postable, header_after, pay_effect, answer_for, effect_for, verdict_on, verdict_at, Treated}

-- ---- two signed numbers, as 64 bits hold them

module _ (a b : ℤ) (p : in_limit position_limit a ≡ true) (q : in_limit position_limit b ≡ true) where
  pub sum_fits : SFits w64 (to_z w64 (of_z w64 a) +ℤ to_z w64 (of_z w64 b))
  sum_fits = grind (arith, ints)

pub amount_back : (a : ℤ) → in_limit position_limit a ≡ true → to_z w64 (of_z w64 a) ≡ a
amount_back a p = grind (arith, ints)

-- ---- amounts that can be posted

pub record Held (l : List ℤ) (k : ℕ) (x : ℤ) : Type 0 where
  pub entry : HasEntry l k
  pub small : nat_abs (position l k) ≤ position_limit
  pub amount_within : in_limit position_limit x ≡ true
  pub amount : nat_abs x ≤ position_limit

held_facts : (l : List ℤ) (k : ℕ) (x : ℤ) → held l k x ≡ true → Held l k x
held_facts l k x h =
    let tests = has_entry l k ∷ in_limit position_limit (position l k) ∷ in_limit position_limit x ∷ [] in
    record {
      entry = has_entry_entry l k (all_of_at tests 0 h);
      small = within_size position_limit (position l k) (all_of_at tests 1 h);
      amount_within = all_of_at tests 2 h;
      amount = within_size position_limit x (all_of_at tests 2 h);
    }

module _ (k : Collection) (p : Postings) (total : ℤ) (cp dp bp : List ℤ) (h : postable k p total cp dp bp ≡ true) where
  tests : List Bool
  tests =
      held cp k.creditor p.creditor
      ∷ held dp k.debtor p.debtor
      ∷ held bp k.dbank p.dbank
      ∷ held bp k.cbank p.cbank
      ∷ in_limit position_limit total
      ∷ in_limit position_limit p.compensation
      ∷ []

  pub record Payable : Type 0 where
    pub creditor : Held cp k.creditor p.creditor
    pub debtor : Held dp k.debtor p.debtor
    pub dbank : Held bp k.dbank p.dbank
    pub cbank : Held bp k.cbank p.cbank
    pub sum : in_limit position_limit total ≡ true
    pub cents : in_limit position_limit p.compensation ≡ true

  pub paid_within : Payable
  unfolding postable tests
  paid_within = record {
    creditor = held_facts cp k.creditor p.creditor (all_of_at tests 0 h);
    debtor = held_facts dp k.debtor p.debtor (all_of_at tests 1 h);
    dbank = held_facts bp k.dbank p.dbank (all_of_at tests 2 h);
    cbank = held_facts bp k.cbank p.cbank (all_of_at tests 3 h);
    sum = all_of_at tests 4 h;
    cents = all_of_at tests 5 h;
  }

-- ---- what is written

-- a posting within the limit, to a table not far beyond it, is made
posting_is :
    (l : List ℤ) (k : ℕ) (x : ℤ) → HasEntry l k → nat_abs (position l k) ≤ 2 * position_limit → nat_abs x ≤ position_limit
    → (post_answer l k x ≡ Ok tt) × (after_post l k x ≡ posted l k x)
posting_is l k x e h g = post_fits l k x e (omega arith) (omega arith)

module _ (k : Collection) (p : Postings) (total : ℤ) (cp dp bp : List ℤ) (h : postable k p total cp dp bp ≡ true) where
  pub creditor_posted : (post_answer cp k.creditor p.creditor ≡ Ok tt) × (after_post cp k.creditor p.creditor ≡ posted cp k.creditor p.creditor)
  creditor_posted =
      let f = (paid_within k p total cp dp bp h).creditor in
      posting_is cp k.creditor p.creditor f.entry (omega (arith, f.small)) f.amount

  pub debtor_posted : (post_answer dp k.debtor p.debtor ≡ Ok tt) × (after_post dp k.debtor p.debtor ≡ posted dp k.debtor p.debtor)
  debtor_posted =
      let f = (paid_within k p total cp dp bp h).debtor in
      posting_is dp k.debtor p.debtor f.entry (omega (arith, f.small)) f.amount

  pub dbank_posted : (post_answer bp k.dbank p.dbank ≡ Ok tt) × (after_post bp k.dbank p.dbank ≡ posted bp k.dbank p.dbank)
  dbank_posted =
      let f = (paid_within k p total cp dp bp h).dbank in
      posting_is bp k.dbank p.dbank f.entry (omega (arith, f.small)) f.amount

  -- the debtor's bank may be the creditor's
  pub cbank_posted : (mid : List ℤ) → mid ≡ after_post bp k.dbank p.dbank
      → (post_answer mid k.cbank p.cbank ≡ Ok tt) × (after_post mid k.cbank p.cbank ≡ posted (posted bp k.dbank p.dbank) k.cbank p.cbank)
  cbank_posted mid e =
      let f = paid_within k p total cp dp bp h in
      let room = size_posted bp k.dbank k.cbank p.dbank in
      rw (e, dbank_posted.1)
      (posting_is (posted bp k.dbank p.dbank) k.cbank p.cbank
      (entry_posted bp k.dbank k.cbank p.dbank f.cbank.entry)
      (omega (arith, room, f.cbank.small, f.dbank.amount))
      f.cbank.amount)

pub written :
    (h : Header) (date row : ℕ) (k : Collection) (p : Postings) (cs : List ℕ) (cp dp bp : List ℤ)
    → postable k p h.compensation cp dp bp ≡ true
    → (r : Header) (cs' : List ℕ) (cp' dp' mid bp' : List ℤ) (x y u v w : ℤ)
    → x ≡ p.creditor → y ≡ p.debtor → u ≡ p.dbank → v ≡ p.cbank → w ≡ p.compensation
    → cs' ≡ put_collection cs row k → cp' ≡ after_post cp k.creditor x → dp' ≡ after_post dp k.debtor y
    → mid ≡ after_post bp k.dbank u → bp' ≡ after_post mid k.cbank v → r ≡ header_after h date w
    → (m c : List ℕ) → ledger r m cs' c cp' dp' bp' ≡ pay_effect row date k p (ledger h m cs c cp dp bp)
written h date row k p cs cp dp bp s r cs' cp' dp' mid bp' x y u v w ex ey eu ev ew ec ecp edp emid ebp er m c =
    let total = h.compensation in
    rw (
      er,
      ec,
      ecp,
      edp,
      ebp,
      ex,
      ey,
      ev,
      ew,
      (creditor_posted k p total cp dp bp s).1,
      (debtor_posted k p total cp dp bp s).1,
      (cbank_posted k p total cp dp bp s mid (rw eu at emid)).1,
    )

-- ---- the verdict on a collection that is found or not

pub found_verdict :
    (latest date : ℕ) (t : Treatment) (there : Bool) (k : Collection) (found : Option Collection) → found ≡ cond there (Some k) None
    → verdict_on latest date t (is_some found) (unwrap_or found k) ≡ verdict_on latest date t there k
found_verdict latest date t true k found e = rw e
found_verdict latest date t false k found e = rw e

-- ---- whatever mandates and creditors there are besides

with_records : List ℕ → List ℕ → Ledger → Ledger
with_records m c l = record l { mandates = m; creditors = c }

module _ (m c : List ℕ) (l : Ledger) where
  answer_beside : (v : Result Verdict Refusal) → answer_for v l ≡ answer_for v (with_records m c l)
  unfolding with_records
  answer_beside (Err r) = refl
  answer_beside (Ok (Mark k)) = refl
  answer_beside (Ok (Post k p)) = refl

  effect_beside : (v : Result Verdict Refusal) (row date : ℕ) → with_records m c (effect_for v row date l) ≡ effect_for v row date (with_records m c l)
  unfolding with_records
  effect_beside (Err r) row date = refl
  effect_beside (Ok (Mark k)) row date = refl
  effect_beside (Ok (Post k p)) row date = refl

pub treated_beside :
    (a b : BookMut) (found : Option ℕ) (date : ℕ) (t : Treatment) (r : Result HandedOn Refusal) → Treated found (ledger_in a) date t r (ledger_in b)
    → (m c : List ℕ)
    → Treated found (ledger a.header m a.collections.now c a.creditor_positions.now a.debtor_positions.now a.bank_positions.now) date t r
    (ledger b.header m b.collections.now c b.creditor_positions.now b.debtor_positions.now b.bank_positions.now)
unfolding with_records
treated_beside a b found date t r d m c =
    let l = ledger_in a in
    let v = verdict_at found l date t in
    done_same Nothing _ _ _ _ _ r _ (answer_beside m c l v) (λ _. effect_beside m c l v (found_row found) date)
    (done_beside (with_records m c) _ l _ r (ledger_in b) d)
