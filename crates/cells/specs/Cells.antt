-- What a program in another language lends beside the tables: seven cells of a state, two of cents, nine of an event. Numbered from 0:
--   state 0 the latest date, 1 and 2 the rows used of mandates and of collections, 3 the lines answered, 4 the bytes of the text (after a
--   call those of the partial line), 5 the bytes written, 6 the lines of the last text, or of its end, that were not taken;
--   cents 0 the total compensation, 1 the figure of the last position query; event 0 to 8 the fields in their order.
-- `ReadsBack` at the end holds what reads a cell to what writes it. Assumes nothing.
use Rattle.std.specs.Prelude.{◌≡◌, Bool, ◌&&◌, List, [], ◌∷◌, ℕ, eqb, ℤ, pos, length, get_or, set, Result, Ok, Err}
use Rattle.events.specs.declared.Event.{Event}
use Rattle.events.specs.Fields.{fields_of, event_of}
use Rattle.tables.specs.declared.Header.{Header}
use Rattle.tables.specs.Ledger.{Ledger}
use Rattle.cells.specs.declared.Counts.{Counts}
use Rattle.refusals.specs.declared.Refusal.{Refusal}

-- ---- how many cells there are

abbrev pub state_cells_fit : List ℕ → Bool
state_cells_fit state = eqb (length state) 7

abbrev pub cells_fit : List ℕ → List ℤ → Bool
cells_fit state cents = state_cells_fit state && eqb (length cents) 2

abbrev pub event_cells_fit : List ℕ → Bool
event_cells_fit event = eqb (length event) 9

-- ---- what stands in them

abbrev pub header_in : List ℕ → List ℤ → Header
header_in state cents = record {
  latest = get_or state 0 0;
  mandates = get_or state 1 0;
  collections = get_or state 2 0;
  compensation = get_or cents 0 (pos 0);
}

abbrev pub lines_in : List ℕ → ℕ
lines_in state = get_or state 3 0

abbrev pub filled_in : List ℕ → ℕ
filled_in state = get_or state 4 0

abbrev pub cells_event : List ℕ → Event
cells_event event = event_of event

-- ---- cells anew; the others stay as they were

abbrev pub header_state : Header → List ℕ → List ℕ
header_state h state = set (set (set state 0 h.latest) 1 h.mandates) 2 h.collections

abbrev pub header_cents : Header → List ℤ → List ℤ
header_cents h cents = set cents 0 h.compensation

abbrev pub counts_state : Counts → List ℕ → List ℕ
counts_state c state = set (set (set (set state 3 c.lines) 4 c.partial) 5 c.written) 6 c.past

abbrev pub written_state : ℕ → List ℕ → List ℕ
written_state n state = set state 5 n

-- the figure of a query that was answered
abbrev pub figure_cents : Result ℤ Refusal → List ℤ → List ℤ
figure_cents (Ok z) cents = set cents 1 z
figure_cents (Err r) cents = cents

-- ---- all cells

-- those of a state by a header and the counts of a text
abbrev pub state_cells : Header → Counts → List ℕ
state_cells h c = h.latest ∷ h.mandates ∷ h.collections ∷ c.lines ∷ c.partial ∷ c.written ∷ c.past ∷ []

-- as an opening leaves them
abbrev pub fresh_header : Header
fresh_header = record { latest = 0; mandates = 0; collections = 0; compensation = pos 0 }

abbrev pub fresh_counts : Counts
fresh_counts = record { lines = 0; partial = 0; written = 0; past = 0 }

abbrev pub fresh_state : List ℕ → List ℕ
fresh_state state = counts_state fresh_counts (header_state fresh_header state)

abbrev pub fresh_cents : List ℤ → List ℤ
fresh_cents cents = set (header_cents fresh_header cents) 1 (pos 0)

-- ---- the header of a ledger

abbrev pub head_of : Ledger → Header
head_of l = record {
  latest = l.latest;
  mandates = l.mandates_used;
  collections = l.collections_used;
  compensation = l.compensation;
}

-- ---- what was written is read: the cells as they stand one after the other, and what is read of them

-- the fields of an event in their order
abbrev pub field_cells : Event → List ℕ
field_cells e = fields_of e

abbrev pub with_written : ℕ → Counts → Counts
with_written n c = record { lines = c.lines; partial = c.partial; written = n; past = c.past }

pub record ReadsBack : Type 0 where
  pub header : (h : Header) (c : Counts) (figure : ℤ) → header_in (state_cells h c) (h.compensation ∷ figure ∷ []) ≡ h
  pub lines : (h : Header) (c : Counts) → lines_in (state_cells h c) ≡ c.lines
  pub filled : (h : Header) (c : Counts) → filled_in (state_cells h c) ≡ c.partial
  pub written : (h : Header) (c : Counts) (n : ℕ) → written_state n (state_cells h c) ≡ state_cells h (with_written n c)
  pub figure : (total old z : ℤ) → figure_cents (Ok z) (total ∷ old ∷ []) ≡ total ∷ z ∷ []
  pub event : (e : Event) → cells_event (field_cells e) ≡ e
