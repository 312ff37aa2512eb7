-- The numbers of document 01, "Records" and refusal 2, and the width of a row. Assumes nothing.
use Rattle.std.specs.Prelude.{ℕ}
pub use Rattle.common.specs.Limits.{creditor_count, debtor_count, bank_count, number_limit, amount_limit, mandate_row_limit, collection_row_limit, position_limit}

-- the cells of a row, in either table; a record with fewer fields has 0 in the cells behind them
abbrev pub stride : ℕ
stride = 9
