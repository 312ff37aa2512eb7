use Rattle.std.proofs.Common.{◌+◌, ◌-◌, Some, None}
use Rattle.digits.proofs.Laws.Words.{columns_read, column, word_columns}
use native.Mathlib.Omega.{arith}
use lib.Dec.{lit<}
use mathlib.Core.Path.{sym, ◌∙◌}
use Rattle.digits.proofs.reading.number.Goals as goal

pub returns-in_err-head : goal.returns-in_err-head
returns-in_err-head c =
    let a = c.args in
    c.from_residual.ensures
    ∙ columns_read a.line.now a.at (a.at + a.width - 1) 1 a.width None c.in_err-head.ensures.read (omega (arith, c.requires.1)) (omega (arith, c.requires.1)) (lit< tt) c.requires.0

pub returns-then-width-lt8 : goal.returns-then-width-lt8
returns-then-width-lt8 c =
    let a = c.args in
    rw (sym (column a.line.now (a.at + a.width - 1) (omega (arith, c.requires.0, c.requires.1)))) at c.last.ensures.is
    ∙ columns_read a.line.now a.at (a.at + a.width - 1) 1 a.width (Some c.in_ok-head.field-0) c.in_ok-head.ensures.read (omega (arith, c.requires.1)) (omega (arith, c.requires.1)) (lit< tt) c.requires.0

pub returns-in_err-head-2 : goal.returns-in_err-head-2
returns-in_err-head-2 c =
    let a = c.args in
    c.from_residual-in_err-head-2.ensures
    ∙ columns_read a.line.now a.at (a.at + 1) 8 a.width None c.in_err-head-2.ensures.read (omega arith) (omega (arith, c.if-width-eq9.true)) (lit< tt) c.requires.0

pub returns-then-width-eq9 : goal.returns-then-width-eq9
returns-then-width-eq9 c =
    let a = c.args in
    rw (c.word.ensures, word_columns a.line.now (a.at + 1) (omega (arith, c.requires.0, c.if-width-eq9.true))) at c.tail.ensures
    ∙ columns_read a.line.now a.at (a.at + 1) 8 a.width (Some c.in_ok-head-2.field-0) c.in_ok-head-2.ensures.read (omega arith) (omega (arith, c.if-width-eq9.true)) (lit< tt) c.requires.0

pub returns-in_err-head-3 : goal.returns-in_err-head-3
returns-in_err-head-3 c =
    let a = c.args in
    c.from_residual-in_err-head-3.ensures
    ∙ columns_read a.line.now a.at (a.at + a.width - 8) 8 a.width None c.in_err-head-3.ensures.read (omega arith) (omega arith) (lit< tt) c.requires.0

pub returns : goal.returns
returns c =
    let a = c.args in
    rw (c.word-2.ensures, word_columns a.line.now (a.at + a.width - 8) (omega (arith, c.requires.0))) at c.tail-2.ensures
    ∙ columns_read a.line.now a.at (a.at + a.width - 8) 8 a.width (Some c.in_ok-head-3.field-0) c.in_ok-head-3.ensures.read (omega arith) (omega arith) (lit< tt) c.requires.0
