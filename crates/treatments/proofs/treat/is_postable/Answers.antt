use Rattle.std.proofs.Common.{◌≡◌, rules}
use mir.Syntax.{w64}
use mir.Val.{to_z, of_z}
use Rattle.treatments.specs.Treatments.{postable}
use Rattle.treatments.proofs.treat.is_postable.Goals as goal

pub returns : goal.returns
unfolding postable
returns c =
    let p = c.args.p in
    let total = c.args.book.now.header.compensation in
    let creditor : to_z w64 (of_z w64 p.creditor) ≡ p.creditor = search rules in
    let debtor : to_z w64 (of_z w64 p.debtor) ≡ p.debtor = search rules in
    let dbank : to_z w64 (of_z w64 p.dbank) ≡ p.dbank = search rules in
    let cbank : to_z w64 (of_z w64 p.cbank) ≡ p.cbank = search rules in
    let cents : to_z w64 (of_z w64 p.compensation) ≡ p.compensation = search rules in
    let sum : to_z w64 (of_z w64 total) ≡ total = search rules in
    rw (c.in_limit-2.ensures, c.in_limit.ensures, c.is_held-4.ensures, c.is_held-3.ensures, c.is_held-2.ensures, c.is_held.ensures, creditor, debtor, dbank, cbank, cents, sum)
