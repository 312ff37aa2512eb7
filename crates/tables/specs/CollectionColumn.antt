-- The columns of a collection, one a field; its state has two, the tag and the day. The number stands first, as in the other
-- table: specs/Lookup reads it there. Assumes nothing.
use Rattle.std.specs.Prelude.{ℕ}

abbrev pub number : ℕ
number = 0

abbrev pub creditor : ℕ
creditor = 1

abbrev pub debtor : ℕ
debtor = 2

abbrev pub cbank : ℕ
cbank = 3

abbrev pub dbank : ℕ
dbank = 4

abbrev pub amount : ℕ
amount = 5

abbrev pub due : ℕ
due = 6

-- the tag
abbrev pub state : ℕ
state = 7

abbrev pub day : ℕ
day = 8
