use Rattle.std.proofs.Common.{ap, ◌∙◌}
use Rattle.tables.specs.Ledger.{Ledger}
use Rattle.book.specs.Acting.{mandate_found, collection_found}
use Rattle.book.proofs.Laws.Events.{acted_from}
use Rattle.book.proofs.acting.act_from.Goals as goal

pub returns-clause-acted : goal.returns-clause-acted
returns-clause-acted c =
    let a = c.args in
    acted_from _ _ _ _ _ _ _ _
    (c.find_mandate-mandate.ensures ∙ ap (λ (l : Ledger). mandate_found a.e l a.mandates_since) c.view-view.ensures)
    (c.find_collection-collection.ensures ∙ ap (λ (l : Ledger). collection_found a.e l a.collections_since) c.view-view.ensures)
    c.act.ensures.acted
