use Rattle.std.proofs.Common.{refl, ap, ◌∙◌}
use Rattle.positions.specs.Answers.{after_post}
use Rattle.treatments.proofs.Laws.Treatments.{amount_back, paid_within, creditor_posted, debtor_posted, dbank_posted, cbank_posted, written}
use Rattle.treatments.proofs.treat.write.Goals as goal

pub header_after-book-requires : goal.header_after-book-requires
header_after-book-requires c =
    let a = c.args in
    let b = a.book.now in
    let f = paid_within a.k a.p b.header.compensation b.creditor_positions.now b.debtor_positions.now b.bank_positions.now c.requires in
    (f.sum, rw (amount_back a.p.compensation f.cents) f.cents)

-- each amount can be posted
pub unwrap-requires : goal.unwrap-requires
unwrap-requires c =
    let a = c.args in
    let b = a.book.now in
    let f = paid_within a.k a.p b.header.compensation b.creditor_positions.now b.debtor_positions.now b.bank_positions.now c.requires in
    rw (c.post.ensures.answer, amount_back a.p.creditor f.creditor.amount_within, (creditor_posted _ _ _ _ _ _ c.requires).0) refl

pub unwrap-requires-2 : goal.unwrap-requires-2
unwrap-requires-2 c =
    let a = c.args in
    let b = a.book.now in
    let f = paid_within a.k a.p b.header.compensation b.creditor_positions.now b.debtor_positions.now b.bank_positions.now c.requires in
    rw (c.post-2.ensures.answer, amount_back a.p.debtor f.debtor.amount_within, (debtor_posted _ _ _ _ _ _ c.requires).0) refl

pub unwrap-requires-3 : goal.unwrap-requires-3
unwrap-requires-3 c =
    let a = c.args in
    let b = a.book.now in
    let f = paid_within a.k a.p b.header.compensation b.creditor_positions.now b.debtor_positions.now b.bank_positions.now c.requires in
    rw (c.post-3.ensures.answer, amount_back a.p.dbank f.dbank.amount_within, (dbank_posted _ _ _ _ _ _ c.requires).0) refl

pub unwrap-requires-4 : goal.unwrap-requires-4
unwrap-requires-4 c =
    let a = c.args in
    let b = a.book.now in
    let f = paid_within a.k a.p b.header.compensation b.creditor_positions.now b.debtor_positions.now b.bank_positions.now c.requires in
    let mid = c.post-3.ensures.table ∙ ap (after_post b.bank_positions.now a.k.dbank) (amount_back a.p.dbank f.dbank.amount_within) in
    rw (c.post-4.ensures.answer, amount_back a.p.cbank f.cbank.amount_within, (cbank_posted _ _ _ _ _ _ c.requires _ mid).0) refl

pub returns-clause-paid : goal.returns-clause-paid
returns-clause-paid c =
    let a = c.args in
    let b = a.book.now in
    let p = a.p in
    let f = paid_within a.k p b.header.compensation b.creditor_positions.now b.debtor_positions.now b.bank_positions.now c.requires in
    written b.header a.date a.row a.k p b.collections.now
    b.creditor_positions.now
    b.debtor_positions.now
    b.bank_positions.now
    c.requires
    _ _ _ _ _ _ _ _ _ _ _
    (amount_back p.creditor f.creditor.amount_within)
    (amount_back p.debtor f.debtor.amount_within)
    (amount_back p.dbank f.dbank.amount_within)
    (amount_back p.cbank f.cbank.amount_within)
    (amount_back p.compensation f.cents)
    c.put_record.ensures
    c.post.ensures.table
    c.post-2.ensures.table
    c.post-3.ensures.table
    c.post-4.ensures.table
    c.header_after-book.ensures
    b.mandates.now b.creditors.now
