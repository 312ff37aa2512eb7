use Rattle.calendar.proofs.Laws.Open.{fixed, leap_in, day_in, sunday_in, near_sunday, fixed_shut, far_open, near_open}
use Rattle.calendar.specs.Gregorian.{leap_day, first_year}
use Rattle.calendar.specs.DayNumber.{year_start, day_number, year_at}
use Rattle.calendar.specs.Easter.{easter_sunday}
use Rattle.common.specs.Tests.{any_of}
use Rattle.std.proofs.lemmas.Grind.{common_steps}
use mathlib.Core.Bool.{Bool}
use mathlib.Core.Logic.{◌⊎◌}
use mathlib.Core.Path.{◌≡◌, sym}
use native.Mathlib.Omega.{arith}
use Prim.Native.Nat.{ℕ, ◌+◌, ◌-◌, ◌<◌}
use Rattle.calendar.proofs.target.is_open_day.Goals as goal

-- what the code knows of the day's year, said of the day
fixed_in : (n y r l : ℕ) (b : Bool) → y ≡ first_year + year_at n → r ≡ day_in n → l ≡ leap_day y → any_of (fixed l r) ≡ b → any_of (fixed (leap_in n) (day_in n)) ≡ b
fixed_in n y r l b e f g h = rw (f, g, e) at h

sunday_is : (n y s : ℕ) → y ≡ first_year + year_at n → year_start (y - first_year) + s ≡ day_number (easter_sunday y) → s ≡ sunday_in n
sunday_is n y s e f =
    let k : first_year + year_at n - first_year ≡ year_at n = omega arith in
    let g = rw (e, k) at f in
    omega (arith, g)

pub returns-then-r-l : goal.returns-then-r-l
returns-then-r-l c =
    let p = c.place-place.ensures in
    sym (fixed_shut c.args.day (omega arith) (fixed_in _ _ _ _ _ p.0 p.1 c.leap_day-l.ensures c.if-r-l.true))

pub returns-then-r : goal.returns-then-r
returns-then-r c =
    let p = c.place-place.ensures in
    let far : (day_in c.args.day < 78) ⊎ (116 < day_in c.args.day) = grind (arith, common_steps) in
    sym
    (far_open c.args.day (omega arith) (omega arith)
    (fixed_in _ _ _ _ _ p.0 p.1 c.leap_day-l.ensures c.if-r-l.false)
    far)

pub overflow_add-result-2 : goal.overflow_add-result-2
overflow_add-result-2 c =
    let s = sunday_is c.args.day _ c.easter_place-sunday.result c.place-place.ensures.0 c.easter_place-sunday.ensures in
    omega (arith, s, near_sunday c.args.day (omega arith))

pub returns : goal.returns
returns c =
    let p = c.place-place.ensures in
    rw (p.1, sunday_is _ _ _ p.0 c.easter_place-sunday.ensures)
    (near_open c.args.day (omega arith) (omega arith)
    (fixed_in _ _ _ _ _ p.0 p.1 c.leap_day-l.ensures c.if-r-l.false))
