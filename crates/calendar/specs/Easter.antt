-- Easter Sunday. Document 01, "Calendar": the Gregorian computus, letter by letter.
-- Assumes nothing.
use Rattle.std.specs.Prelude.{ℕ, ◌+◌, ◌-◌, ◌*◌, ◌/◌, ◌%◌, Bool, cond, ◌&&◌, leb, Option, Some, None}
use Rattle.calendar.specs.Gregorian.{date_of_parts, first_year, last_year}
use Rattle.calendar.specs.DayNumber.{day_number}

-- s of the year Y
unfoldable pub computus : ℕ → ℕ
computus Y =
    let a : ℕ = Y % 19 in
    let b : ℕ = Y / 100 in
    let c : ℕ = Y % 100 in
    let d : ℕ = b / 4 in
    let e : ℕ = b % 4 in
    let f : ℕ = (b + 8) / 25 in
    let g : ℕ = (b - f + 1) / 3 in
    let h : ℕ = (19 * a + b - d - g + 15) % 30 in
    let i : ℕ = c / 4 in
    let k : ℕ = c % 4 in
    let l : ℕ = (32 + 2 * e + 2 * i - h - k) % 7 in
    let m : ℕ = (a + 11 * h + 22 * l) / 451 in
    h + l - 7 * m + 114

-- the date: month s / 31, day s mod 31 + 1
unfoldable pub easter_sunday : ℕ → ℕ
easter_sunday y = date_of_parts y (computus y / 31) (computus y % 31 + 1)

-- the years of the table
abbrev pub in_table : ℕ → Bool
in_table y = leb first_year y && leb y last_year

unfoldable pub easter_of : ℕ → Option ℕ
easter_of y = cond (in_table y) (Some (easter_sunday y)) None

unfoldable pub easter_day_of : ℕ → Option ℕ
easter_day_of y = cond (in_table y) (Some (day_number (easter_sunday y))) None
