-- `list_positions` tests the memory and the buffer, and then writes kind by kind: what stands in the buffer grows by one
-- table at a time. Assumes nothing.
use Rattle.std.proofs.Common.{refl}
use Rattle.tables.specs.Ledger.{ledger_of}
use Rattle.listing.proofs.Laws.Listing.{listed_when, creditors_ready, debtors_ready, banks_ready, listing_done}
use Rattle.listing.proofs.listing.list_positions.Goals as goal

pub list_kind-debtors-requires : goal.list_kind-debtors-requires
list_kind-debtors-requires c = creditors_ready _ _ (listed_when _ _ _ _ c.is_fit.ensures c.if-not-is_fit-out.false)

pub list_kind-banks-requires : goal.list_kind-banks-requires
list_kind-banks-requires c =
    let book = ledger_of c.args.book.now in
    let e = c.list_kind-debtors.ensures in
    debtors_ready book c.args.out.now (listed_when _ _ _ _ c.is_fit.ensures c.if-not-is_fit-out.false) _ _ e.place e.bytes

pub list_kind-total-requires : goal.list_kind-total-requires
list_kind-total-requires c =
    let book = ledger_of c.args.book.now in
    let e = c.list_kind-debtors.ensures in
    let f = c.list_kind-banks.ensures in
    banks_ready book c.args.out.now (listed_when _ _ _ _ c.is_fit.ensures c.if-not-is_fit-out.false) _ _ e.place e.bytes _ _ f.place f.bytes

pub returns : goal.returns
returns c =
    let book = ledger_of c.args.book.now in
    let e = c.list_kind-debtors.ensures in
    let f = c.list_kind-banks.ensures in
    let g = c.list_kind-total.ensures in
    listing_done book c.args.out.now (listed_when _ _ _ _ c.is_fit.ensures c.if-not-is_fit-out.false) _ _ e.place e.bytes _ _ f.place f.bytes _ _ g.place g.bytes
    _ _ refl (rw c.from.ensures at c.position_line.ensures.bytes)
