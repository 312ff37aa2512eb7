-- Laws of specs/Easter: the table of the code, and where Easter lies.
-- To cite: `table_easter` (the table is the computus), `EasterFacts` with `easter_facts`. Assumes nothing.
use Rattle.std.proofs.Common.{None, Some}
use Rattle.std.proofs.lemmas.Option.{cond_some}
use mathlib.Core.Path.{◌≡◌, refl, sym, ap}
use mathlib.Core.List.{List, [], ◌∷◌}
use mathlib.Core.Bool.{Bool, true, cond}
use Prim.Native.Nat.{ℕ, ◌+◌, ◌-◌, ◌*◌, ◌%◌, ◌≤◌, ◌<◌}
use native.Mathlib.Omega.{arith}
use lib.Dec.{ltb, leb, eqb}
use lib.ListN.{get_or}
use borrow.Author.Tests.{leb-true, eqb-true}
use Rattle.std.proofs.lemmas.Bool.{agree_below_at}
use Rattle.common.proofs.Tests.{and_halves, all_of_at}
use Rattle.common.specs.Tests.{all_of}
use Rattle.calendar.specs.Gregorian.{year, month_day, leap, leap_day, month_length, is_date, first_year, last_year}
use Rattle.calendar.specs.DayNumber.{year_start, days_before, day_number, day_of}
use Rattle.calendar.specs.Easter.{computus, easter_sunday, in_table, easter_of, easter_day_of}
use Rattle.calendar.proofs.Laws.Answers.{cond_none, day_of_is}

-- ---- the table

-- the code's table, MMDD
abbrev pub table : List ℕ
table =
    423 ∷ 415 ∷ 331 ∷ 420 ∷ 411 ∷ 327 ∷ 416 ∷ 408 ∷ 323 ∷ 412  -- 2000 to 2009
    ∷ 404 ∷ 424 ∷ 408 ∷ 331 ∷ 420 ∷ 405 ∷ 327 ∷ 416 ∷ 401 ∷ 421  -- 2010 to 2019
    ∷ 412 ∷ 404 ∷ 417 ∷ 409 ∷ 331 ∷ 420 ∷ 405 ∷ 328 ∷ 416 ∷ 401  -- 2020 to 2029
    ∷ 421 ∷ 413 ∷ 328 ∷ 417 ∷ 409 ∷ 325 ∷ 413 ∷ 405 ∷ 425 ∷ 410  -- 2030 to 2039
    ∷ 401 ∷ 421 ∷ 406 ∷ 329 ∷ 417 ∷ 409 ∷ 325 ∷ 414 ∷ 405 ∷ 418  -- 2040 to 2049
    ∷ 410 ∷ 402 ∷ 421 ∷ 406 ∷ 329 ∷ 418 ∷ 402 ∷ 422 ∷ 414 ∷ 330  -- 2050 to 2059
    ∷ 418 ∷ 410 ∷ 326 ∷ 415 ∷ 406 ∷ 329 ∷ 411 ∷ 403 ∷ 422 ∷ 414  -- 2060 to 2069
    ∷ 330 ∷ 419 ∷ 410 ∷ 326 ∷ 415 ∷ 407 ∷ 419 ∷ 411 ∷ 403 ∷ 423  -- 2070 to 2079
    ∷ 407 ∷ 330 ∷ 419 ∷ 404 ∷ 326 ∷ 415 ∷ 331 ∷ 420 ∷ 411 ∷ 403  -- 2080 to 2089
    ∷ 416 ∷ 408 ∷ 330 ∷ 412 ∷ 404 ∷ 424 ∷ 415 ∷ 331 ∷ 420 ∷ 412  -- 2090 to 2099
    ∷ 328 ∷ 417 ∷ 409 ∷ 325 ∷ 413 ∷ 405 ∷ 418 ∷ 410 ∷ 401 ∷ 421  -- 2100 to 2109
    ∷ 406 ∷ 329 ∷ 417 ∷ 402 ∷ 422 ∷ 414 ∷ 329 ∷ 418 ∷ 410 ∷ 326  -- 2110 to 2119
    ∷ 414 ∷ 406 ∷ 329 ∷ 411 ∷ 402 ∷ 422 ∷ 414 ∷ 330 ∷ 418 ∷ 410  -- 2120 to 2129
    ∷ 326 ∷ 415 ∷ 406 ∷ 419 ∷ 411 ∷ 403 ∷ 422 ∷ 407 ∷ 330 ∷ 419  -- 2130 to 2139
    ∷ 403 ∷ 326 ∷ 415 ∷ 331 ∷ 419 ∷ 411 ∷ 403 ∷ 416 ∷ 407 ∷ 330  -- 2140 to 2149
    ∷ 412 ∷ 404 ∷ 423 ∷ 415 ∷ 331 ∷ 420 ∷ 411 ∷ 327 ∷ 416 ∷ 408  -- 2150 to 2159
    ∷ 323 ∷ 412 ∷ 404 ∷ 424 ∷ 408 ∷ 331 ∷ 420 ∷ 405 ∷ 327 ∷ 416  -- 2160 to 2169
    ∷ 401 ∷ 421 ∷ 412 ∷ 404 ∷ 417 ∷ 409 ∷ 331 ∷ 420 ∷ 405 ∷ 328  -- 2170 to 2179
    ∷ 416 ∷ 401 ∷ 421 ∷ 413 ∷ 328 ∷ 417 ∷ 409 ∷ 325 ∷ 413 ∷ 405  -- 2180 to 2189
    ∷ 425 ∷ 410 ∷ 401 ∷ 421 ∷ 406 ∷ 329 ∷ 417 ∷ 409 ∷ 325 ∷ 414  -- 2190 to 2199
    ∷ []

right? : ℕ → ℕ → Bool
right? k md = eqb md (month_day (easter_sunday (first_year + k)))

-- one test over all 200 entries, carried to every year
pub table_easter : (k : ℕ) → k < 200 → get_or table k 0 ≡ month_day (easter_sunday (first_year + k))
unfolding right? easter_sunday computus
table_easter k h = eqb-true _ _ (agree_below_at (λ k. right? k (get_or table k 0)) (λ k. true) 200 k refl h)

pub table_of_year : (y : ℕ) → first_year ≤ y → y ≤ last_year → get_or table (y - first_year) 0 ≡ month_day (easter_sunday y)
table_of_year y a b =
    let e : first_year + (y - first_year) ≡ y = omega arith in
    rw e at (table_easter (y - first_year) (omega arith))

-- ---- where Easter lies

-- the day, from 0, of MMDD in March or April of a year with l leap days
abbrev pub spring_day : ℕ → ℕ → ℕ
spring_day l md = cond (ltb md 400) (59 + l + md - 301) (90 + l + md - 401)

abbrev facts : ℕ → List Bool
facts k =
    is_date (easter_sunday (first_year + k))
    ∷ eqb (year (easter_sunday (first_year + k))) (first_year + k)
    ∷ eqb (day_number (easter_sunday (first_year + k)) % 7) 1
    ∷ leb 322 (month_day (easter_sunday (first_year + k)))
    ∷ leb (month_day (easter_sunday (first_year + k))) 425
    ∷ leb (year_start k + 80) (day_number (easter_sunday (first_year + k)))
    ∷ leb (day_number (easter_sunday (first_year + k))) (year_start k + 115)
    ∷ eqb (year_start k + spring_day (leap_day (first_year + k)) (month_day (easter_sunday (first_year + k)))) (day_number (easter_sunday (first_year + k)))
    ∷ []

facts? : ℕ → Bool
facts? k = all_of (facts k)

-- Easter Sunday of the year y is a date of that year, a Sunday, from 22 March to 25 April
pub record EasterFacts (y : ℕ) : Type 0 where
  pub is_date_lem : is_date (easter_sunday y) ≡ true
  pub of_year : year (easter_sunday y) ≡ y
  pub sunday : day_number (easter_sunday y) % 7 ≡ 1
  pub march : 322 ≤ month_day (easter_sunday y)
  pub april : month_day (easter_sunday y) ≤ 425
  pub from : year_start (y - first_year) + 80 ≤ day_number (easter_sunday y)
  pub to : day_number (easter_sunday y) ≤ year_start (y - first_year) + 115
  pub place : year_start (y - first_year) + spring_day (leap_day y) (month_day (easter_sunday y)) ≡ day_number (easter_sunday y)

-- one test over all years
facts_at : (k : ℕ) → k < 200 → EasterFacts (first_year + k)
unfolding facts? easter_sunday computus day_number year_start days_before is_date month_length leap_day leap
facts_at k h =
    let e : first_year + k - first_year ≡ k = omega arith in
    let t = agree_below_at facts? (λ k. true) 200 k refl h in
    record {
      is_date_lem = all_of_at (facts k) 0 t;
      of_year = eqb-true _ _ (all_of_at (facts k) 1 t);
      sunday = eqb-true _ _ (all_of_at (facts k) 2 t);
      march = leb-true _ _ (all_of_at (facts k) 3 t);
      april = leb-true _ _ (all_of_at (facts k) 4 t);
      from = rw e (leb-true _ _ (all_of_at (facts k) 5 t));
      to = rw e (leb-true _ _ (all_of_at (facts k) 6 t));
      place = rw e (eqb-true _ _ (all_of_at (facts k) 7 t));
    }

pub easter_facts : (y : ℕ) → first_year ≤ y → y ≤ last_year → EasterFacts y
easter_facts y h1 h2 =
    let e : first_year + (y - first_year) ≡ y = omega arith in
    rw e at (facts_at (y - first_year) (omega arith))

-- ---- the answers

pub table_years : (y : ℕ) → in_table y ≡ true → (first_year ≤ y) × (y ≤ last_year)
table_years y e =
    let p = and_halves (leb first_year y) e in
    (leb-true _ _ p.0, leb-true _ _ p.1)

pub easter_of_is : (y : ℕ) → in_table y ≡ true → easter_of y ≡ Some (y * 10000 + month_day (easter_sunday y))
unfolding easter_of
easter_of_is y e =
    let h = table_years y e in
    let d : easter_sunday y ≡ y * 10000 + month_day (easter_sunday y) = omega (arith, (easter_facts y h.0 h.1).of_year) in
    rw e (ap Some d)

-- the day of the date that was answered
pub easter_day_of_date : (y x : ℕ) → easter_of y ≡ Some x → easter_day_of y ≡ day_of x
unfolding easter_of easter_day_of
easter_day_of_date y x e =
    let p = cond_some (in_table y) (easter_sunday y) x e in
    let h = table_years y p.0 in
    rw (p.0, ← p.1) (sym (day_of_is _ (easter_facts y h.0 h.1).is_date_lem))

pub easter_day_of_none : (y : ℕ) → easter_of y ≡ None → easter_day_of y ≡ None
unfolding easter_of easter_day_of
easter_day_of_none y e = rw (cond_none (in_table y) (easter_sunday y) e)
