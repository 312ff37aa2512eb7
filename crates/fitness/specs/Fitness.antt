-- Document 01, refusal 2: when lent memory is fit. Each part quotes its words; what refusal 2 does not name is fit.
-- (Its last words, on bytes to write to, are the line writer's alone.)
-- To cite: proofs/Laws/Fitness, `Fit` with `fit_facts` and `fit_made`. Assumes nothing.
use Rattle.std.specs.Prelude.{Bool, ◌&&◌, ◌||◌, List, [], ◌∷◌, ◌++◌, ℕ, ◌%◌, eqb, leb, ℤ, pos, neg_ℤ, length, get_or}
use Rattle.std.specs.Int.Signed.{le_z}
use Rattle.common.specs.Tests.{all_of}
use Rattle.common.specs.Walk.{all_from}
use Rattle.calendar.specs.Gregorian.{in_range}
use Rattle.tables.specs.Limits.{creditor_count, debtor_count, bank_count, number_limit, amount_limit, mandate_row_limit, collection_row_limit, stride, position_limit}
use Rattle.tables.specs.MandateColumn
use Rattle.tables.specs.CollectionColumn
use Rattle.tables.specs.Rows.{rows, row_at}
use Rattle.tables.specs.Ledger.{Ledger, added}

-- ---- limits of one value

abbrev pub is_from_to : ℕ → ℕ → ℕ → Bool
is_from_to low high x = leb low x && leb x high

-- a date in range, or 0 for none
abbrev pub none_or_date : ℕ → Bool
none_or_date x = eqb x 0 || in_range x

-- "beyond 10,000,000,000,000,000 on either side"
abbrev pub position_fit : ℤ → Bool
position_fit z = le_z (neg_ℤ (pos position_limit)) z && le_z z (pos position_limit)

-- "total compensation beyond" it, "compensation below 0 also"
abbrev pub compensation_fit : ℤ → Bool
compensation_fit z = le_z (pos 0) z && le_z z (pos position_limit)

abbrev pub is_zero : ℤ → Bool
is_zero z = le_z (pos 0) z && le_z z (pos 0)

-- ---- sizes

-- "row counts outside the limits": whole rows, from 1 to the most that may be lent
abbrev pub row_count_fit : ℕ → List ℕ → Bool
row_count_fit most cells = all_of (eqb (length cells % stride) 0 ∷ leb 1 (rows cells) ∷ leb (rows cells) most ∷ [])

-- "a position or creditor table of another size than its parties"
abbrev pub size_tests : List ℕ → List ℕ → List ℕ → List ℤ → List ℤ → List ℤ → List Bool
size_tests mandates collections creditors creditor_positions debtor_positions bank_positions =
    row_count_fit mandate_row_limit mandates
    ∷ row_count_fit collection_row_limit collections
    ∷ eqb (length creditors) creditor_count
    ∷ eqb (length creditor_positions) creditor_count
    ∷ eqb (length debtor_positions) debtor_count
    ∷ eqb (length bank_positions) bank_count
    ∷ []

unfoldable pub sizes_of : List ℕ → List ℕ → List ℕ → List ℤ → List ℤ → List ℤ → Bool
sizes_of mandates collections creditors creditor_positions debtor_positions bank_positions =
    all_of (size_tests mandates collections creditors creditor_positions debtor_positions bank_positions)

abbrev pub sizes_fit : Ledger → Bool
sizes_fit l =
    sizes_of
    l.mandates
    l.collections
    l.creditors
    l.creditor_positions
    l.debtor_positions
    l.bank_positions

-- ---- the header

abbrev pub header_tests : ℕ → ℕ → ℕ → ℤ → List ℕ → List ℕ → List Bool
header_tests latest mandates_used collections_used compensation mandates collections =
    leb mandates_used (rows mandates)  -- "more rows used than lent"
    ∷ leb collections_used (rows collections)
    ∷ none_or_date latest  -- "a latest date neither 0 nor in range"
    ∷ compensation_fit compensation
    ∷ []

unfoldable pub header_of : ℕ → ℕ → ℕ → ℤ → List ℕ → List ℕ → Bool
header_of latest mandates_used collections_used compensation mandates collections =
    all_of (header_tests latest mandates_used collections_used compensation mandates collections)

abbrev pub header_fit : Ledger → Bool
header_fit l =
    header_of
    l.latest
    l.mandates_used
    l.collections_used
    l.compensation
    l.mandates
    l.collections

-- ---- "any used field outside its limits", "a mandate or collection row whose creditor doesn't exist"

abbrev pub row_fit : (List ℕ → Bool) → List ℕ → ℕ → Bool
row_fit test cells row = test (row_at stride cells row)

-- each used row passes a test of its cells
unfoldable pub rows_fit : (List ℕ → Bool) → List ℕ → ℕ → Bool
rows_fit test cells used = all_from (row_fit test cells) 0 used

-- the number and the parties, in either table
abbrev pub named_tests : List ℕ → ℕ → ℕ → ℕ → List Bool
named_tests creditors number creditor debtor =
    is_from_to 1 number_limit number
    ∷ is_from_to 1 creditor_count creditor
    ∷ added creditors creditor  -- who exists
    ∷ is_from_to 1 debtor_count debtor
    ∷ []

abbrev pub mandate_tests : List ℕ → List ℕ → List Bool
mandate_tests creditors fields =
    named_tests creditors (get_or fields MandateColumn.number 0) (get_or fields MandateColumn.creditor 0) (get_or fields MandateColumn.debtor 0)
    ++ (is_from_to 1 bank_count (get_or fields MandateColumn.bank 0)  -- the debtor's
    ∷ in_range (get_or fields MandateColumn.signed 0)
    ∷ leb (get_or fields MandateColumn.code 0) 1  -- recurrent or one-off
    ∷ leb (get_or fields MandateColumn.standing 0) 2  -- live, closed or cancelled
    ∷ leb (get_or fields MandateColumn.first 0) 1  -- whether FRST is due
    ∷ none_or_date (get_or fields MandateColumn.presented 0)  -- kept due last presented
    ∷ [])

unfoldable pub mandate_fit : List ℕ → List ℕ → Bool
mandate_fit creditors fields = all_of (mandate_tests creditors fields)

-- a presented or rejected row has no day; "a settled or undone day after the latest date"
abbrev pub day_fit : ℕ → ℕ → ℕ → Bool
day_fit latest tag day = leb tag 1 || (in_range day && leb day latest)

abbrev pub collection_tests : ℕ → List ℕ → List ℕ → List Bool
collection_tests latest creditors fields =
    named_tests creditors (get_or fields CollectionColumn.number 0) (get_or fields CollectionColumn.creditor 0) (get_or fields CollectionColumn.debtor 0)
    ++ (is_from_to 1 bank_count (get_or fields CollectionColumn.cbank 0)
    ∷ is_from_to 1 bank_count (get_or fields CollectionColumn.dbank 0)
    ∷ is_from_to 1 amount_limit (get_or fields CollectionColumn.amount 0)  -- cents
    ∷ in_range (get_or fields CollectionColumn.due 0)  -- the kept one
    ∷ leb (get_or fields CollectionColumn.state 0) 5  -- the six states
    ∷ day_fit latest (get_or fields CollectionColumn.state 0) (get_or fields CollectionColumn.day 0)
    ∷ [])

unfoldable pub collection_fit : ℕ → List ℕ → List ℕ → Bool
collection_fit latest creditors fields = all_of (collection_tests latest creditors fields)

-- ---- creditors and their positions

-- its bank is none or one of the banks; "a position other than 0 for a creditor not added"
abbrev pub creditor_tests : ℕ → ℤ → List Bool
creditor_tests bank position = leb bank bank_count ∷ position_fit position ∷ (leb 1 bank || is_zero position) ∷ []

unfoldable pub creditor_fit : ℕ → ℤ → Bool
creditor_fit bank position = all_of (creditor_tests bank position)

abbrev pub creditor_fit_at : List ℕ → List ℤ → ℕ → Bool
creditor_fit_at creditors positions i = creditor_fit (get_or creditors i 0) (get_or positions i (pos 0))

unfoldable pub creditors_fit : List ℕ → List ℤ → Bool
creditors_fit creditors positions = all_from (creditor_fit_at creditors positions) 0 (length creditors)

-- ---- positions of debtors and banks

abbrev pub position_fit_at : List ℤ → ℕ → Bool
position_fit_at positions i = position_fit (get_or positions i (pos 0))

unfoldable pub positions_fit : List ℤ → Bool
positions_fit positions = all_from (position_fit_at positions) 0 (length positions)

-- ---- all of it

-- all that is used: each mandate row, each collection row, each creditor, the positions of debtors and banks
abbrev pub content_tests : Ledger → List Bool
content_tests l =
    rows_fit (mandate_fit l.creditors) l.mandates l.mandates_used
    ∷ rows_fit (collection_fit l.latest l.creditors) l.collections l.collections_used
    ∷ creditors_fit l.creditors l.creditor_positions
    ∷ positions_fit l.debtor_positions
    ∷ positions_fit l.bank_positions
    ∷ []

-- lent memory is fit: its sizes, its header, and all that is used
unfoldable pub fit : Ledger → Bool
fit l = sizes_fit l && (header_fit l && all_of (content_tests l))
