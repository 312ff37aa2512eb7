-- `safety::is_safe` meets its contract: fitness first, then the sum of the rows, then each table. Assumes nothing.
use Rattle.std.proofs.Common.{rules, arith}
use Rattle.std.proofs.lemmas.Int.{ints}
use mir.Syntax.{w64}
use mir.Val.{to_z, of_z}
use mathlib.Core.Bool.{true}
use mathlib.Core.Path.{◌≡◌, sym, ap, ◌∙◌}
use Prim.Native.Nat.{◌^◌, ◌<◌}
use lib.IntN.{pos, neg_ℤ, ◌-ℤ◌}
use Rattle.fitness.specs.Fitness.{fit}
use Rattle.tables.specs.Ledger.{ledger_of}
use Rattle.model.specs.Bounds.{spent}
use Rattle.safety.specs.Safety.{between}
use Rattle.safety.proofs.Laws.Safety.{unfit_unsafe, fit_bounded, bounded_tested, rows_few, spent_small, rows_spent}
use Rattle.safety.proofs.is_safe.Goals as goal

pub returns-then-not-is_fit : goal.returns-then-not-is_fit
returns-then-not-is_fit c =
    let book = ledger_of c.args.book.now in
    sym (unfit_unsafe book (sym c.is_fit.ensures ∙ c.if-not-is_fit.true))

pub sum_moved-high-requires : goal.sum_moved-high-requires
sum_moved-high-requires c =
    let book = ledger_of c.args.book.now in
    let fitted : fit book ≡ true = sym c.is_fit.ensures ∙ c.if-not-is_fit.false in
    rows_few book fitted _ c.used_rows.ensures

pub overflow_cast-high : goal.overflow_cast-high
overflow_cast-high c =
    let book = ledger_of c.args.book.now in
    let fitted : fit book ≡ true = sym c.is_fit.ensures ∙ c.if-not-is_fit.false in
    let summed : c.sum_moved-high.result ≡ spent book = c.sum_moved-high.ensures ∙ rows_spent book fitted _ c.used_rows.ensures in
    let small : c.sum_moved-high.result < 2 ^ 63 = rw summed (spent_small book fitted) in
    omega (arith, ints)

pub overflow_sub-low : goal.overflow_sub-low
overflow_sub-low c =
    let book = ledger_of c.args.book.now in
    let fitted : fit book ≡ true = sym c.is_fit.ensures ∙ c.if-not-is_fit.false in
    let summed : c.sum_moved-high.result ≡ spent book = c.sum_moved-high.ensures ∙ rows_spent book fitted _ c.used_rows.ensures in
    let small : c.sum_moved-high.result < 2 ^ 63 = rw summed (spent_small book fitted) in
    omega (arith, ints)

pub returns : goal.returns
returns c =
    let book = ledger_of c.args.book.now in
    let fitted : fit book ≡ true = sym c.is_fit.ensures ∙ c.if-not-is_fit.false in
    let summed : c.sum_moved-high.result ≡ spent book = c.sum_moved-high.ensures ∙ rows_spent book fitted _ c.used_rows.ensures in
    let small : c.sum_moved-high.result < 2 ^ 63 = rw summed (spent_small book fitted) in
    let lows : to_z w64 (of_z w64 (pos 0 -ℤ to_z w64 c.sum_moved-high.result)) ≡ neg_ℤ (pos (spent book)) = omega (arith, ints) in
    let highs : to_z w64 c.sum_moved-high.result ≡ pos (spent book) = omega (arith, ints) in
    let d = c in
    let l = book in
    let high = to_z w64 d.sum_moved-high.result in
    let low = to_z w64 (of_z w64 (pos 0 -ℤ high)) in
    let paid : to_z w64 (of_z w64 l.compensation) ≡ l.compensation = search rules in
    let comp : c.is_between.result ≡ between low high l.compensation = c.is_between.ensures ∙ ap (between low high) paid in
    rw (
      c.all_between.ensures,
      c.all_between-2.ensures,
      c.all_between-3.ensures,
      comp,
    )
    (bounded_tested l low high lows highs ∙ sym (fit_bounded l fitted))
