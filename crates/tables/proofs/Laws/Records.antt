-- Laws of specs/Records: what is read from a record's cells is the record, whatever its fields hold.
-- To cite: `mandate_from_cells`, `collection_from_cells`. Assumes nothing.
use mathlib.Core.Path.{◌≡◌, refl}
use mathlib.Core.Bool.{Bool, true, false}
use Rattle.tables.specs.declared.Mandate.{Mandate}
use Rattle.tables.specs.declared.Standing.{Standing}
use Rattle.tables.specs.declared.Standing.TheVariants.{Live, Closed, Cancelled}
use Rattle.tables.specs.declared.Collection.{Collection}
use Rattle.tables.specs.declared.State.{State}
use Rattle.tables.specs.declared.State.TheVariants.{Presented, Rejected, Settled, Undone}
use Rattle.tables.specs.declared.Undoing.TheVariants.{Return, Refund, Reversal}
use Rattle.tables.specs.Records.{standing_tag, standing_of, flag_cell, flag_of, mandate_cells, mandate_from, state_tag, state_day, state_of, collection_cells, collection_from}

-- ---- a mandate

standing_of_tag : (s : Standing) → standing_of (standing_tag s) ≡ s
standing_of_tag Live = refl
standing_of_tag Closed = refl
standing_of_tag Cancelled = refl

flag_of_cell : (b : Bool) → flag_of (flag_cell b) ≡ b
flag_of_cell true = refl
flag_of_cell false = refl

pub mandate_from_cells : (m : Mandate) → mandate_from (mandate_cells m) ≡ m
unfolding mandate_from
mandate_from_cells m = rw (standing_of_tag m.standing, flag_of_cell m.first)

-- ---- a collection

state_of_cells : (s : State) → state_of (state_tag s) (state_day s) ≡ s
state_of_cells Presented = refl
state_of_cells Rejected = refl
state_of_cells (Settled day) = refl
state_of_cells (Undone day Return) = refl
state_of_cells (Undone day Refund) = refl
state_of_cells (Undone day Reversal) = refl

pub collection_from_cells : (c : Collection) → collection_from (collection_cells c) ≡ c
unfolding collection_from
collection_from_cells c = rw (state_of_cells c.state)
