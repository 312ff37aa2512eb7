-- Laws of specs/Target: the first business day on or after a day, the n-th after it, the last one before it.
-- To cite: `first_open_first`, `first_open_lt`, `first_open_near`, `first_open_mono`; `open_after_more`, `open_after_from`,
-- `open_after_near`, `open_after_mono`, `open_after_mono_count`; `last_open_is`, `last_open_exists`, `first_before`, and `yields_back` with
-- `last_open_found`. Assumes nothing.
use Rattle.std.proofs.Common.{None, Option, Some, List, [], ◌∷◌}
use Rattle.std.specs.Option.{option_map}
use Rattle.std.specs.List.{find}
use Rattle.std.specs.Iterator.{AlwaysYields}
use Rattle.std.proofs.iter.runs.Sources.{nat_range_steps_back}
use Rattle.std.proofs.lemmas.Bool.{cond_both}
use Rattle.std.proofs.lemmas.Iterator.{YieldsList}
use Rattle.std.specs.declared.ops.Range.{Range}
use mathlib.Core.Path.{◌≡◌, refl, sym, ap, ◌∙◌}
use mathlib.Core.Bool.{Bool, true, false, not}
use mathlib.Core.Logic.{⊎_elim}
use Prim.Native.Nat.{ℕ, zero, suc, ◌+◌, ◌-◌, ◌*◌, ◌≤◌, ◌<◌}
use native.Mathlib.Nat.{eq-or-lt_of_le}
use native.Mathlib.Numerals.{add-one}
use native.Mathlib.Decide.{le_ind, dec_le}
use native.Mathlib.Omega.{arith}
use lib.Dec.{ltb}
use borrow.Author.Tests.{lt-ltb, le-ltb}
use Rattle.common.proofs.Tests.{either}
use Rattle.calendar.specs.DayNumber.{calendar_days}
use Rattle.calendar.specs.Target.{is_open, First, seek, first_open, open_after, Last, last_open_before}
use Rattle.calendar.specs.Promises.{LastFound}
use Rattle.calendar.proofs.Laws.Target.{open_lt, closed_not_last, first_unique, first_here, first_later, first_rest, first_mono}
use Rattle.calendar.proofs.Laws.Holidays.{first_near}

-- ---- first_open

seek_is : (f n r : ℕ) → First n r → r ≤ n + f → seek f n ≡ r
unfolding seek
seek_is zero n r p h = omega (arith, p.from)
seek_is (suc f) n r p h =
    cond_both (is_open n) n (seek f (n + 1)) (λ s. s ≡ r) (λ e. first_unique n n r (first_here n e) p)
    (λ e. seek_is f (n + 1) r (first_rest n r e p) (omega arith))

-- what is first is what `first_open` finds
pub first_open_is : (n r : ℕ) → First n r → first_open n ≡ r
unfolding first_open
first_open_is n r p = seek_is 4 n r p (first_near n r p (open_lt r p.is_open_lem))

-- there is one
record Found (n : ℕ) : Type 0 where
  day : ℕ
  first : First n day

found_case : (b : Bool) (n : ℕ) → is_open n ≡ b → (is_open n ≡ false → Found (n + 1)) → Found n
found_case true n e ih = record { day = n; first = first_here n e }
found_case false n e ih = let i = ih e in record { day = i.day; first = first_later n i.day e i.first }

found : (d n : ℕ) → n + d ≡ 73048 → Found n
found zero n e = found_case (is_open n) n refl (λ s. absurd (omega (arith, closed_not_last n (omega arith) s)))
found (suc d) n e = found_case (is_open n) n refl (λ s. found d (n + 1) (omega arith))

pub first_open_first : (n : ℕ) → n < calendar_days → First n (first_open n)
first_open_first n h =
    let i = found (73048 - n) n (omega arith) in
    rw (first_open_is n i.day i.first) i.first

pub first_open_lt : (n : ℕ) → n < calendar_days → first_open n < calendar_days
first_open_lt n h = open_lt (first_open n) (first_open_first n h).is_open_lem

-- how far a due date slides
pub first_open_near : (n : ℕ) → n < calendar_days → first_open n ≤ n + 4
first_open_near n h = first_near n (first_open n) (first_open_first n h) (first_open_lt n h)

pub first_open_mono : (n m : ℕ) → n ≤ m → m < calendar_days → first_open n ≤ first_open m
first_open_mono n m l h =
    first_mono n m (first_open n) (first_open m) l (first_open_first n (omega arith)) (first_open_first m h)

pub first_open_open : (n : ℕ) → is_open n ≡ true → first_open n ≡ n
first_open_open n e = first_open_is n n (first_here n e)

pub first_open_closed : (n : ℕ) → n < calendar_days → is_open n ≡ false → first_open n ≡ first_open (n + 1)
first_open_closed n h e = first_open_is n (first_open (n + 1)) (first_later n _ e (first_open_first (n + 1) (closed_not_last n h e)))

seek_from : (f n : ℕ) → n ≤ seek f n
unfolding seek
seek_from zero n = omega arith
seek_from (suc f) n = grind (arith, seek_from f (n + 1))

-- beyond the calendar too
pub first_open_from : (n : ℕ) → n ≤ first_open n
unfolding first_open
first_open_from n = seek_from 4 n

-- ---- open_after

pub open_after_zero : (d : ℕ) → open_after 0 d ≡ d
unfolding open_after
open_after_zero d = refl

pub open_after_more : (n d : ℕ) → open_after (n + 1) d ≡ first_open (open_after n d + 1)
unfolding open_after
open_after_more n d = ap (λ (k : ℕ). open_after k d) (add-one n)

pub open_after_from : (n d : ℕ) → d + n ≤ open_after n d
unfolding open_after
open_after_from zero d = omega arith
open_after_from (suc n) d = omega (arith, open_after_from n d, first_open_from (open_after n d + 1))

pub open_after_mono_count : (n m d : ℕ) → n ≤ m → open_after n d ≤ open_after m d
unfolding open_after
open_after_mono_count n m d l =
    le_ind (λ (k : ℕ). open_after n d ≤ open_after k d) (omega arith)
    (λ k a ih. omega (arith, ih, first_open_from (open_after k d + 1))) m l

-- at most five days for each business day
pub open_after_near : (n d : ℕ) → d + 5 * n < calendar_days → open_after n d ≤ d + 5 * n
unfolding open_after
open_after_near zero d h = omega arith
open_after_near (suc n) d h =
    let i = open_after_near n d (omega arith) in
    omega (arith, first_open_near (open_after n d + 1) (omega arith))

pub open_after_mono : (n d d' : ℕ) → d ≤ d' → open_after n d' < calendar_days → open_after n d ≤ open_after n d'
unfolding open_after
open_after_mono zero d d' l h = l
open_after_mono (suc n) d d' l h =
    let f = first_open_from (open_after n d' + 1) in
    first_open_mono (open_after n d + 1) (open_after n d' + 1) (omega (arith, open_after_mono n d d' l (omega arith))) (omega arith)

pub open_after_first : (n d : ℕ) → open_after (n + 1) d < calendar_days → First (open_after n d + 1) (open_after (n + 1) d)
open_after_first n d h =
    let e = open_after_more n d in
    let f = first_open_from (open_after n d + 1) in
    rw e (first_open_first (open_after n d + 1) (omega arith))

-- ---- last_open_before

pub last_unique : (n r s : ℕ) → Last n r → Last n s → r ≡ s
last_unique n r s a b =
    let p : ¬ (r < s) = λ l. cc (a.shut s l b.before) in
    let q : ¬ (s < r) = λ l. cc (b.shut r l a.before) in
    omega arith

last_here : (n : ℕ) → is_open n ≡ true → Last (suc n) n
last_here n e = record { before = omega arith; is_open_lem = e; shut = λ j a b. absurd (omega arith) }

last_earlier : (n r : ℕ) → is_open n ≡ false → Last n r → Last (suc n) r
last_earlier n r e l =
    record {
      before = omega (arith, l.before);
      is_open_lem = l.is_open_lem;
      shut = λ j a b. ⊎_elim (λ (p : j ≡ n). rw p e) (λ (k : j < n). l.shut j a k) (eq-or-lt_of_le (omega arith));
    }

last_rest : (n r : ℕ) → is_open n ≡ false → Last (suc n) r → Last n r
last_rest n r e l =
    let q : ¬ (r ≡ n) = λ i. cc in
    record { before = omega (arith, l.before); is_open_lem = l.is_open_lem; shut = λ j a b. l.shut j a (omega arith) }

-- what is last is what `last_open_before` finds
pub last_open_is : (n r : ℕ) → Last n r → last_open_before n ≡ Some r
unfolding last_open_before
last_open_is zero r l = absurd (omega (arith, l.before))
last_open_is (suc n) r l =
    cond_both (is_open n) (Some n) (last_open_before n) (λ s. s ≡ Some r) (λ e. ap Some (last_unique (suc n) n r (last_here n e) l))
    (λ e. last_open_is n r (last_rest n r e l))

-- the days before the day n, the last one first: an iterator over them from the back gives them so
pub days_back : ℕ → List ℕ
days_back zero = []
days_back (suc n) = n ∷ days_back n

gives_back : (n : ℕ) (s : Range ℕ) → s.start ≡ 0 → s.end ≡ n → AlwaysYields nat_range_steps_back (λ x. x) s (days_back n)
unfolding days_back
gives_back zero s e f = λ x j p. omega (arith, p.1)
gives_back (suc n) s e f = ((λ j p. omega (arith, p.1)), λ x j p. (omega (arith, p.1), gives_back n j (p.0 ∙ e) (omega (arith, p.1))))

pub yields_back : (n : ℕ) → YieldsList nat_range_steps_back (λ x. x) (record { start = 0; end = n }) (days_back n)
yields_back n = record { runs = gives_back n (record { start = 0; end = n }) refl refl }

find_back : (n : ℕ) → find is_open (days_back n) ≡ last_open_before n
unfolding days_back last_open_before
find_back zero = refl
find_back (suc n) = rw (find_back n)

pub last_open_found : (n : ℕ) (r : Option ℕ) → option_map (λ x. x) r ≡ find is_open (days_back n) → r ≡ last_open_before n
last_open_found n None e = e ∙ find_back n
last_open_found n (Some d) e = e ∙ find_back n

-- where an open day is known, the last one is not before it
record LastFrom (n r : ℕ) : Type 0 where
  day : ℕ
  last : Last n day
  from : r ≤ day

last_from_lem : (n r : ℕ) → r < n → is_open r ≡ true → LastFrom n r
last_from_lem zero r h o = absurd (omega arith)
last_from_lem (suc n) r h o =
    either (is_open n) (λ e. record { day = n; last = last_here n e; from = omega arith })
    (λ e.
    let q : ¬ (r ≡ n) = λ i. cc in
    let i = last_from_lem n r (omega arith) o in
    record { day = i.day; last = last_earlier n i.day e i.last; from = i.from })

-- among the five days before a day there is one
pub last_open_exists : (n : ℕ) → 5 ≤ n → n < calendar_days → LastFound n
last_open_exists n l h =
    let m = first_open_near (n - 5) (omega arith) in
    let f = first_open_first (n - 5) (omega arith) in
    let i = last_from_lem n (first_open (n - 5)) (omega arith) f.is_open_lem in
    record {
      day = i.day;
      is = last_open_is n i.day i.last;
      last = i.last;
      near = omega (arith, i.from, f.from);
    }

-- a day is not after the last business day before n exactly if its own first one is before n
pub first_before : (d n r : ℕ) → d < calendar_days → Last n r → not (ltb r d) ≡ ltb (first_open d) n
first_before d n r h l =
    let f = first_open_first d h in
    elim (dec_le d r) [
      | yes a ↦
          let p : ¬ (r < first_open d) = λ s. cc (f.shut r a s) in
          ap not (le-ltb r d a) ∙ sym (lt-ltb (first_open d) n (omega (arith, l.before)))
      | no a ↦
          let p : ¬ (first_open d < n) = λ s. cc (l.shut (first_open d) (omega (arith, f.from)) s) in
          ap not (lt-ltb r d (omega arith)) ∙ sym (le-ltb (first_open d) n (omega arith))
    ]

pub last_mono : (n m r s : ℕ) → n ≤ m → Last n r → Last m s → r ≤ s
last_mono n m r s h a b =
    let p : ¬ (s < r) = λ l. cc (b.shut r l (omega (arith, a.before))) in
    omega arith
