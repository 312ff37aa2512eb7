-- Document 01, "Records": "Opening makes a ledger with no rows and all positions 0." Row counts and table
-- sizes are all that it judges: unfit ones get 2, fit ones never. It writes no cell of a row.
-- To cite: proofs/Laws/Opening. Assumes nothing.
use Rattle.std.specs.Prelude.{cond, ℕ, pos, replicate}
use Rattle.refusals.specs.Refusals.{number_of}
use Rattle.refusals.specs.declared.Refusal.TheVariants.{UnfitMemory}
use Rattle.tables.specs.Limits.{creditor_count, debtor_count, bank_count}
use Rattle.tables.specs.Ledger.{Ledger}
use Rattle.fitness.specs.Fitness.{sizes_fit}

-- no rows used, no creditor, all positions, the compensation and the latest date 0; the rows' cells as they were
unfoldable pub fresh : Ledger → Ledger
fresh l = record {
  latest = 0;
  mandates_used = 0;
  collections_used = 0;
  compensation = pos 0;
  mandates = l.mandates;
  collections = l.collections;
  creditors = replicate creditor_count 0;
  creditor_positions = replicate creditor_count (pos 0);
  debtor_positions = replicate debtor_count (pos 0);
  bank_positions = replicate bank_count (pos 0);
}

-- ---- the answer's number and the ledger after it

pub record OpenResult : Type 0 where
  pub number : ℕ
  pub after : Ledger

abbrev pub open_result : ℕ → Ledger → OpenResult
open_result n l = record { number = n; after = l }

-- the ledger after an opening
unfoldable pub opened : Ledger → Ledger
opened l = cond (sizes_fit l) (fresh l) l

unfoldable pub opening : Ledger → OpenResult
opening l = open_result (cond (sizes_fit l) 0 (number_of UnfitMemory)) (opened l)
