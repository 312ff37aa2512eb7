-- What a refund posts before 2026 and from then on. To cite: `refunds_dated`. Assumes nothing.
use mathlib.Core.Path.{ap}
use Rattle.positions.specs.Postings.{refunded}
use Rattle.positions.proofs.Laws.Compensation.{roundings}
use Rattle.model.specs.Deadlines.{days_since}
use Rattle.model.specs.Promises.{RefundsDated}

pub refunds_dated : RefundsDated
refunds_dated = record {
  before_2026 = λ rate amount settled date code l.
      ap (refunded amount) (roundings.before_2026 date amount rate (days_since settled date) l);
  from_2026 = λ rate amount settled date code l.
      ap (refunded amount) (roundings.from_2026 date amount rate (days_since settled date) l);
}
