use Rattle.calendar.proofs.Laws.Easter.{spring_day, easter_facts}
use Rattle.calendar.specs.Gregorian.{month_day, leap_day, first_year, last_year}
use Rattle.calendar.specs.DayNumber.{year_start, day_number}
use Rattle.calendar.specs.Easter.{easter_sunday}
use mathlib.Core.Path.{◌≡◌}
use native.Mathlib.Omega.{arith}
use Prim.Native.Nat.{ℕ, ◌+◌, ◌-◌, ◌≤◌}
use borrow.Author.Tests.{lt-ltb, le-ltb}
use Rattle.calendar.proofs.easter.easter_place.Goals as goal

-- the place that the code reckons with
place : (y l md : ℕ) → (first_year ≤ y) × (y ≤ last_year) → l ≡ leap_day y → md ≡ month_day (easter_sunday y) → year_start (y - first_year) + spring_day l md ≡ day_number (easter_sunday y)
place y l md h e f = rw (f, e) (easter_facts y h.0 h.1).place

pub overflow_sub-result : goal.overflow_sub-result
overflow_sub-result c =
    let i = c.easter_in-md.ensures.inside in
    omega (arith, c.easter_in-md.ensures.date, (easter_facts c.args.year i.0 i.1).march)

pub returns-then-md-lt400 : goal.returns-then-md-lt400
returns-then-md-lt400 c =
    rw (lt-ltb _ _ c.if-md-lt400.true) at (place _ _ _ c.easter_in-md.ensures.inside c.leap_day-l.ensures c.easter_in-md.ensures.date)

pub returns-else-md-lt400 : goal.returns-else-md-lt400
returns-else-md-lt400 c =
    rw (le-ltb _ _ c.if-md-lt400.false) at (place _ _ _ c.easter_in-md.ensures.inside c.leap_day-l.ensures c.easter_in-md.ensures.date)
