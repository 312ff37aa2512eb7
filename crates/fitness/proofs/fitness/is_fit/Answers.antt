-- `fitness::is_fit` meets its contract: sizes first, then the header, then each table. Assumes nothing.
use Rattle.fitness.proofs.Laws.Fitness.{sizes_facts, header_facts, fit_no_sizes, fit_no_header, fit_contents, rows_fit_all}
use Rattle.fitness.specs.Fitness.{sizes_fit, header_fit, mandate_fit, collection_fit}
use Rattle.tables.specs.Ledger.{ledger_of}
use native.Mathlib.Omega.{arith}
use mathlib.Core.Bool.{true}
use mathlib.Core.Path.{◌≡◌, sym, ◌∙◌}
use Rattle.fitness.proofs.fitness.is_fit.Goals as goal

pub returns-then-not-sizes_fit : goal.returns-then-not-sizes_fit
returns-then-not-sizes_fit c =
    let book = ledger_of c.args.book.now in
    sym (fit_no_sizes book (sym c.sizes_fit.ensures ∙ c.if-not-sizes_fit.true))

pub returns-then-not-header_fit : goal.returns-then-not-header_fit
returns-then-not-header_fit c =
    let book = ledger_of c.args.book.now in
    let sizes : sizes_fit book ≡ true = sym c.sizes_fit.ensures ∙ c.if-not-sizes_fit.false in
    sym (fit_no_header book sizes (sym c.header_fit.ensures ∙ c.if-not-header_fit.true))

pub creditors_fit-requires : goal.creditors_fit-requires
creditors_fit-requires c =
    let book = ledger_of c.args.book.now in
    let sizes : sizes_fit book ≡ true = sym c.sizes_fit.ensures ∙ c.if-not-sizes_fit.false in
    let s = sizes_facts book sizes in
    omega (arith, s.creditor_table, s.creditor_positions_lem)

pub returns : goal.returns
returns c =
    let book = ledger_of c.args.book.now in
    let sizes : sizes_fit book ≡ true = sym c.sizes_fit.ensures ∙ c.if-not-sizes_fit.false in
    let header : header_fit book ≡ true = sym c.header_fit.ensures ∙ c.if-not-header_fit.false in
    let lent = header_facts book header in
    rw (
      fit_contents book sizes header,
      c.mandates_fit.ensures,
      c.used_rows-mandates.ensures,
      rows_fit_all (mandate_fit book.creditors) book.mandates book.mandates_used lent.mandates_lent,
      c.collections_fit.ensures,
      c.used_rows-collections.ensures,
      rows_fit_all (collection_fit book.latest book.creditors) book.collections book.collections_used lent.collections_lent,
      c.creditors_fit.ensures,
      c.positions_fit.ensures,
      c.positions_fit-2.ensures,
    )
