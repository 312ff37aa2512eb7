-- Numbers of document 01 that several crates use. Assumes nothing.
use Rattle.std.specs.Prelude.{ℕ}

-- ---- "Records"

abbrev pub creditor_count : ℕ
creditor_count = 256

abbrev pub debtor_count : ℕ
debtor_count = 4096

abbrev pub bank_count : ℕ
bank_count = 64

-- the largest number of a mandate or a collection
abbrev pub number_limit : ℕ
number_limit = 999999999

-- the rows that may be lent
abbrev pub mandate_row_limit : ℕ
mandate_row_limit = 4096

abbrev pub collection_row_limit : ℕ
collection_row_limit = 16384

-- ---- "Ten events"

-- the largest amount of a collection, in cents; source 003
abbrev pub amount_limit : ℕ
amount_limit = 99999999999

-- the largest rate of a refund, in hundredths of a percent a year
abbrev pub rate_limit : ℕ
rate_limit = 9999

-- ---- refusal 2

-- how far a position or the total compensation may lie on either side of 0, in cents
abbrev pub position_limit : ℕ
position_limit = 10000000000000000
