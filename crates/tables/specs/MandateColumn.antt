-- The columns of a mandate, one a field. The number stands first, as in the other table: specs/Lookup reads it there.
-- Assumes nothing.
use Rattle.std.specs.Prelude.{ℕ}

abbrev pub number : ℕ
number = 0

abbrev pub creditor : ℕ
creditor = 1

abbrev pub debtor : ℕ
debtor = 2

abbrev pub bank : ℕ
bank = 3

abbrev pub signed : ℕ
signed = 4

abbrev pub code : ℕ
code = 5

abbrev pub standing : ℕ
standing = 6

abbrev pub first : ℕ
first = 7

abbrev pub presented : ℕ
presented = 8
