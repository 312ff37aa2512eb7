-- Laws of specs/Limits. To cite: `checked_facts` (what an event within its limits has: `Limited`), `row_facts` (`Fits`), the
-- facts of each kind (`creditor_facts` to `reversal_facts`), `kind_cases` (an event of known kind is of one of them), and of every row
-- `row_of_every`, `row_of_codes`, `second_le`. Nothing but `unfolding table` looks at the rows. Assumes nothing.
use Rattle.std.proofs.Common.{Err, None, Ok, Option, Some, find}
use mathlib.Core.Path.{◌≡◌, refl, sym, ◌∙◌, ap, subst}
use mathlib.Core.Bool.{Bool, true, false, cond, ◌&&◌}
use mathlib.Core.List.{List, [], ◌∷◌}
use mathlib.Core.Logic.{◌⊎◌, inl, inr, ⊎_elim}
use Prim.Native.Nat.{ℕ, zero, suc, ◌+◌, ◌≤◌, ◌<◌}
use native.Mathlib.Omega.{arith}
use lib.Dec.{leb, eqb}
use native.Mathlib.Nat.{le_antisymm, eq-or-lt_of_le}
use borrow.Author.Tests.{leb-true, le-leb, eqb-true}
use Rattle.std.proofs.lemmas.Option.{cond_some}
use Rattle.std.proofs.lemmas.Option.{same_Some}
use Rattle.common.proofs.Tests.{either, and_halves, and_true}
use Rattle.common.proofs.Checks.{check_passes}
use Rattle.calendar.specs.Gregorian.{in_range, last_date}
use Rattle.calendar.proofs.Laws.Gregorian.{range_facts}
use Rattle.refusals.specs.declared.Refusal.TheVariants.{UnknownKind, BadDate, BadField}
use Rattle.events.specs.declared.Event.{Event}
use Rattle.events.specs.declared.limits.Range.{Range}
use Rattle.events.specs.declared.limits.SecondDate.{SecondDate}
use Rattle.events.specs.declared.limits.SecondDate.TheVariants.{NoSecond, Dated, NotAfter}
use Rattle.events.specs.declared.limits.Row.{Row}
use Rattle.events.specs.Limits.{within, table, row, row_in, row_of, second_fits, row_fits, row_answer_fits, fields_fit, checked, kinds, unnamed, creditor, debtor, bank, number, cents, rate, mandate_codes, sequence_codes, refund_codes, last_kind, only}

-- ---- ranges

-- x lies in the range
pub record Between (r : Range) (x : ℕ) : Type 0 where
  pub from : r.low ≤ x
  pub to : x ≤ r.high

pub within_between : (r : Range) (x : ℕ) → within r x ≡ true → Between r x
within_between r x e =
    let p = and_halves (leb r.low x) e in
    record { from = leb-true _ _ p.0; to = leb-true _ _ p.1 }

pub between_within : (r : Range) (x : ℕ) → Between r x → within r x ≡ true
between_within r x b = and_true (le-leb _ _ b.from) (le-leb _ _ b.to)

-- ---- cases on a number

-- what each of n numbers from i on gives where k is it
abbrev pub Each : Type 0 → ℕ → ℕ → ℕ → Type 0
Each P k i zero = Unit {0}
Each P k i (suc n) = (k ≡ i → P) × Each P k (suc i) n

each_case : (P : Type 0) (k i n : ℕ) → i ≤ k → k < i + n → Each P k i n → P
each_case P k i zero l h f = absurd (omega arith)
each_case P k i (suc n) l h f =
    ⊎_elim (λ e. f.0 (sym e)) (λ g. each_case P k (suc i) n g (omega arith) f.1) (eq-or-lt_of_le l)

-- ---- the table

-- whether a row is of a kind and a code
abbrev pub is_of : ℕ → ℕ → Row → Bool
is_of kind code r = eqb r.kind kind && within r.codes code

-- a row that was found is of the kind and the code, and passes every test that all rows pass
abbrev pub every_row : (Row → Bool) → List Row → Bool
every_row f [] = true
every_row f (r ∷ rs) = f r && every_row f rs

pub row_in_every : (f : Row → Bool) (rs : List Row) (kind code : ℕ) (s : Row)
    → every_row f rs ≡ true
    → row_in rs kind code ≡ Some s
    → f s ≡ true
row_in_every f [] kind code s t e = absurd cc
row_in_every f (r ∷ rs) kind code s t e =
    let p = and_halves (f r) t in
    either (is_of kind code r)
    (λ q. let i : r ≡ s = cc (rw q at e) in rw (← i) p.0)
    (λ q. row_in_every f rs kind code s p.1 (rw q at e))

pub row_in_is_of : (rs : List Row) (kind code : ℕ) (s : Row) → row_in rs kind code ≡ Some s → is_of kind code s ≡ true
row_in_is_of [] kind code s e = absurd cc
row_in_is_of (r ∷ rs) kind code s e =
    either (is_of kind code r)
    (λ q. let i : r ≡ s = cc (rw q at e) in rw (← i) q)
    (λ q. row_in_is_of rs kind code s (rw q at e))

-- the same of the whole table
pub row_of_every : (f : Row → Bool) (kind code : ℕ) (s : Row)
    → every_row f table ≡ true
    → row_of kind code ≡ Some s
    → f s ≡ true
unfolding row_of
row_of_every f kind code s t e = row_in_every f table kind code s t e

pub row_of_codes : (kind code : ℕ) (s : Row) → row_of kind code ≡ Some s → Between s.codes code
unfolding row_of
row_of_codes kind code s e = within_between _ _ (and_halves (eqb s.kind kind) (row_in_is_of table kind code s e)).1

-- the first row that passes the test of the code
pub row_in_find : (rs : List Row) (kind code : ℕ) → find (is_of kind code) rs ≡ row_in rs kind code
row_in_find [] kind code = refl
row_in_find (r ∷ rs) kind code = ap (cond (is_of kind code r) (Some r)) (row_in_find rs kind code)

-- ---- refusals 3, 4 and 5

-- the answer of `checked`, by the first check that fails
module _ (e : Event) where
  pub checked_kind : within kinds e.kind ≡ false → checked e ≡ Err UnknownKind
  unfolding checked
  checked_kind p = rw p

  pub checked_date : within kinds e.kind ≡ true → in_range e.date ≡ false → checked e ≡ Err BadDate
  unfolding checked
  checked_date p q = rw (p, q)

  pub checked_field : within kinds e.kind ≡ true
      → in_range e.date ≡ true
      → fields_fit e ≡ false
      → checked e ≡ Err BadField
  unfolding checked
  checked_field p q r = rw (p, q, r)

  pub checked_within : within kinds e.kind ≡ true
      → in_range e.date ≡ true
      → fields_fit e ≡ true
      → checked e ≡ (Ok tt)
  unfolding checked
  checked_within p q r = rw (p, q, r)

-- the fields of e, kind, date and code apart, are within the limits of a row
pub record Fits (r : Row) (e : Event) : Type 0 where
  pub mandate : Between r.mandate e.mandate
  pub a : Between r.a e.a
  pub b : Between r.b e.b
  pub c : Between r.c e.c
  pub amount : Between r.amount e.amount
  pub second : second_fits r.second e.date e.second ≡ true

pub row_facts : (r : Row) (e : Event) → row_fits r e ≡ true → Fits r e
unfolding row_fits
row_facts r e t =
    let p5 = and_halves _ t in
    let p4 = and_halves _ p5.0 in
    let p3 = and_halves _ p4.0 in
    let p2 = and_halves _ p3.0 in
    let p1 = and_halves (within r.mandate e.mandate) p2.0 in
    record {
      mandate = within_between _ _ p1.0;
      a = within_between _ _ p1.1;
      b = within_between _ _ p2.1;
      c = within_between _ _ p3.1;
      amount = within_between _ _ p4.1;
      second = p5.1;
    }

-- a second date is 0 or a date in range
pub second_le : (s : SecondDate) (d x : ℕ) → second_fits s d x ≡ true → x ≤ last_date
second_le NoSecond d x t = let e = eqb-true x 0 t in omega arith
second_le Dated d x t = (range_facts x t).to
second_le NotAfter d x t = (range_facts x (and_halves (in_range x) t).0).to

-- what an event within its limits has
pub record Limited (e : Event) : Type 0 where
  pub kind : Between kinds e.kind
  pub date : in_range e.date ≡ true
  pub limits : Row
  pub found : row_of e.kind e.code ≡ Some limits
  pub fits : Fits limits e

-- a row that was looked up, and that e fits
record Looked (x : Option Row) (e : Event) : Type 0 where
  limits : Row
  found : x ≡ Some limits
  fits : Fits limits e

answer_looked : (x : Option Row) (e : Event) → row_answer_fits x e ≡ true → Looked x e
answer_looked None e t = absurd cc
answer_looked (Some r) e t = record { limits = r; found = refl; fits = row_facts r e t }

fields_looked : (e : Event) → fields_fit e ≡ true → Looked (row_of e.kind e.code) e
unfolding fields_fit
fields_looked e t = answer_looked (row_of e.kind e.code) e t

pub checked_facts : (e : Event) → checked e ≡ (Ok tt) → Limited e
unfolding checked
checked_facts e t =
    let p = check_passes (within kinds e.kind) _ _ refl t in
    let q = check_passes (in_range e.date) _ _ refl p.1 in
    let f = fields_looked e (check_passes (fields_fit e) _ _ refl q.1).0 in
    record {
      kind = within_between _ _ p.0;
      date = q.0;
      limits = f.limits;
      found = f.found;
      fits = f.fits;
    }

-- ---- the facts of each kind

-- e fits the row r and has one of its codes
pub record Of (r : Row) (e : Event) : Type 0 where
  pub code : Between r.codes e.code
  pub fits : Fits r e

-- where the kind of e has but the row r, e is of r
of_one : (e : Event) (r : Row)
    → (m : Limited e)
    → cond (within r.codes e.code) (Some r) None ≡ Some m.limits
    → Of r e
of_one e r m t =
    let p = cond_some (within r.codes e.code) r m.limits t in
    record { code = within_between _ _ p.0; fits = subst (λ (s : Row). Fits s e) (sym p.1) m.fits }

pub record CreditorFields (e : Event) : Type 0 where
  pub creditor : Between creditor e.a
  pub bank : Between bank e.b

pub creditor_facts : (e : Event) → Limited e → e.kind ≡ 1 → CreditorFields e
unfolding row_of table
creditor_facts e m h =
    let o = of_one e _ m (rw h at m.found) in
    record { creditor = o.fits.a; bank = o.fits.b }

pub record MandateFields (e : Event) : Type 0 where
  pub mandate : Between number e.mandate
  pub creditor : Between creditor e.a
  pub debtor : Between debtor e.b
  pub bank : Between bank e.c
  pub signing : in_range e.second ≡ true
  pub signed : e.second ≤ e.date
  pub code : Between mandate_codes e.code

pub mandate_facts : (e : Event) → Limited e → e.kind ≡ 2 → MandateFields e
unfolding row_of table
mandate_facts e m h =
    let o = of_one e _ m (rw h at m.found) in
    let s = and_halves (in_range e.second) o.fits.second in
    record {
      mandate = o.fits.mandate;
      creditor = o.fits.a;
      debtor = o.fits.b;
      bank = o.fits.c;
      signing = s.0;
      signed = leb-true _ _ s.1;
      code = o.code;
    }

-- an amend: code 0 names a debtor bank, code 1 a creditor
pub record AmendBankFields (e : Event) : Type 0 where
  pub mandate : Between number e.mandate
  pub bank : Between bank e.c

pub record AmendCreditorFields (e : Event) : Type 0 where
  pub mandate : Between number e.mandate
  pub creditor : Between creditor e.a

pub amend_facts : (e : Event)
    → Limited e
    → e.kind ≡ 3
    → ((e.code ≡ 0) × AmendBankFields e) ⊎ ((e.code ≡ 1) × AmendCreditorFields e)
unfolding row_of table
amend_facts e m h =
    either (within (only 0) e.code)
    (λ p.
    let b = within_between _ _ p in
    let f = subst (λ (s : Row). Fits s e) (sym (same_Some _ _ (rw p at (rw h at m.found)))) m.fits in
    inl (le_antisymm b.to b.from, record { mandate = f.mandate; bank = f.c }))
    (λ p.
    let o = of_one e _ m (rw p at (rw h at m.found)) in
    inr (le_antisymm o.code.to o.code.from, record { mandate = o.fits.mandate; creditor = o.fits.a }))

pub record CancelFields (e : Event) : Type 0 where
  pub mandate : Between number e.mandate

pub cancel_facts : (e : Event) → Limited e → e.kind ≡ 4 → CancelFields e
unfolding row_of table
cancel_facts e m h =
    let o = of_one e _ m (rw h at m.found) in
    record { mandate = o.fits.mandate }

pub record CollectFields (e : Event) : Type 0 where
  pub mandate : Between number e.mandate
  pub collection : Between number e.a
  pub amount : Between cents e.amount
  pub requested : in_range e.second ≡ true
  pub code : Between sequence_codes e.code

pub collect_facts : (e : Event) → Limited e → e.kind ≡ 5 → CollectFields e
unfolding row_of table
collect_facts e m h =
    let o = of_one e _ m (rw h at m.found) in
    record {
      mandate = o.fits.mandate;
      collection = o.fits.a;
      amount = o.fits.amount;
      requested = o.fits.second;
      code = o.code;
    }

-- settle, reject, return and reversal name a collection
pub record CollectionField (e : Event) : Type 0 where
  pub collection : Between number e.a

collection_of_lem : (e : Event) (k : ℕ)
    → (row_of k e.code ≡ cond (within unnamed e.code) (Some (row k unnamed unnamed number unnamed unnamed unnamed NoSecond)) None)
    → Limited e
    → e.kind ≡ k
    → CollectionField e
collection_of_lem e k t m h =
    let o = of_one e _ m (sym t ∙ (rw h at m.found)) in
    record { collection = o.fits.a }

pub settle_facts : (e : Event) → Limited e → e.kind ≡ 6 → CollectionField e
unfolding row_of table
settle_facts e = collection_of_lem e 6 refl

pub reject_facts : (e : Event) → Limited e → e.kind ≡ 7 → CollectionField e
unfolding row_of table
reject_facts e = collection_of_lem e 7 refl

pub return_facts : (e : Event) → Limited e → e.kind ≡ 8 → CollectionField e
unfolding row_of table
return_facts e = collection_of_lem e 8 refl

pub record RefundFields (e : Event) : Type 0 where
  pub collection : Between number e.a
  pub rate : Between rate e.b
  pub code : Between refund_codes e.code

pub refund_facts : (e : Event) → Limited e → e.kind ≡ 9 → RefundFields e
unfolding row_of table
refund_facts e m h =
    let o = of_one e _ m (rw h at m.found) in
    record { collection = o.fits.a; rate = o.fits.b; code = o.code }

pub reversal_facts : (e : Event) → Limited e → e.kind ≡ 10 → CollectionField e
unfolding row_of table
reversal_facts e = collection_of_lem e 10 refl

-- ---- the cases on a known kind

-- a known kind is 1, or 2, and so on to the last: `kind_cases P k h (λ is1. .., (λ is2. .., .. tt))`
pub kind_cases : (P : Type 0) (k : ℕ) → Between kinds k → Each P k 1 last_kind → P
kind_cases P k h f = each_case P k 1 last_kind h.from (omega (arith, h.to)) f
