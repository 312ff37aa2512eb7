-- What the calls answer, and what they leave in a table of positions: a refusal leaves every one as it was.
-- Assumes nothing.
use Rattle.std.specs.Prelude.{Bool, cond, ◌&&◌, List, ℕ, ◌-◌, leb, ℤ, Option, Some, None, Result, Ok, Err, codes}
use Rattle.positions.specs.Compensation.{amount_limit}
use Rattle.positions.specs.Limits.{compensation_limit}
use Rattle.positions.specs.Postings.{settlement, reversed, refunded}
use Rattle.positions.specs.Positions.{has_entry, position, posted, transferred, in_limit}
use Rattle.positions.specs.declared.PostError.{PostError}
use Rattle.positions.specs.declared.PostError.TheVariants.{NoEntry, TooLarge}
use Rattle.positions.specs.declared.Postings.{Postings}

-- the numbers that a posting adds lie within this on either side, so that 64 bits hold their sum
abbrev pub capacity : ℕ
capacity = 4000000000000000000

-- the words of why nothing was posted
abbrev pub error_words : PostError → List ℕ
error_words NoEntry = codes "no entry"
error_words TooLarge = codes "too large"

-- the index of the entry of a number: the party numbered 1 is at index 0
abbrev pub entry_index : List ℤ → ℕ → Result ℕ PostError
entry_index l k = cond (has_entry l k) (Ok (k - 1)) (Err NoEntry)

-- a position and an amount, each within the capacity
abbrev pub sizes_answer : ℤ → ℤ → Result Unit PostError
sizes_answer z x = cond (in_limit capacity z && in_limit capacity x) (Ok tt) (Err TooLarge)

-- ---- the order of the tests: the entries first, then the sizes

abbrev pub posting_answer : Bool → Bool → Result Unit PostError
posting_answer entries sizes = cond entries (cond sizes (Ok tt) (Err TooLarge)) (Err NoEntry)

abbrev pub post_sizes : List ℤ → ℕ → ℤ → Bool
post_sizes l k x = in_limit capacity (position l k) && in_limit capacity x

unfoldable pub post_answer : List ℤ → ℕ → ℤ → Result Unit PostError
post_answer l k x = posting_answer (has_entry l k) (post_sizes l k x)

abbrev pub transfer_sizes : List ℤ → ℕ → ℕ → ℤ → Bool
transfer_sizes l from to x =
    in_limit capacity (position l from) && in_limit capacity (position l to) && in_limit capacity x

unfoldable pub transfer_answer : List ℤ → ℕ → ℕ → ℤ → Result Unit PostError
transfer_answer l from to x = posting_answer (has_entry l from && has_entry l to) (transfer_sizes l from to x)

-- ---- the table after the call

-- the new table where the posting was made, else the old one
abbrev pub table_after : Result Unit PostError → List ℤ → List ℤ → List ℤ
table_after (Ok tt) new old = new
table_after (Err e) new old = old

unfoldable pub after_post : List ℤ → ℕ → ℤ → List ℤ
after_post l k x = table_after (post_answer l k x) (posted l k x) l

unfoldable pub after_transfer : List ℤ → ℕ → ℕ → ℤ → List ℤ
after_transfer l from to x = table_after (transfer_answer l from to x) (transferred l from to x) l

-- ---- what an event posts, for a row's amounts and their compensation

unfoldable pub settlement_of : ℕ → Option Postings
settlement_of A = cond (leb A amount_limit) (Some (settlement A)) None

unfoldable pub reversed_of : ℕ → Option Postings
reversed_of A = cond (leb A amount_limit) (Some (reversed A)) None

unfoldable pub refunded_of : ℕ → ℕ → Option Postings
refunded_of A K = cond (leb A amount_limit && leb K compensation_limit) (Some (refunded A K)) None
