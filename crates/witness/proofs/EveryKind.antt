-- Every kind of event is accepted with each of its codes: the answers are computed; so is, for each kind up to 10 and each code
-- up to 3, that it is listed if the limits know it. To cite: `every_kind`. Assumes nothing.
use Rattle.std.proofs.Common.{Ok}
use Rattle.std.specs.Option.{is_some}
use mathlib.Core.Path.{◌≡◌, refl, ap}
use mathlib.Core.Bool.{Bool, true, not, ◌||◌}
use Prim.Native.Nat.{ℕ, ◌≤◌}
use native.Mathlib.Omega.{arith}
use lib.Dec.{leb}
use borrow.Author.Tests.{leb-true}
use Rattle.std.proofs.lemmas.Bool.{agree_below, agree_below_at}
use Rattle.events.specs.declared.Event.{Event}
use Rattle.events.specs.Limits.{table, row_of, checked}
use Rattle.events.proofs.Laws.Limits.{Limited, checked_facts, row_of_every, row_of_codes}
use Rattle.witness.specs.Opening.{lent}
use Rattle.witness.specs.EveryKind.{sort, sorts, sort_of, is_in, events, EveryKind}
use Rattle.witness.proofs.Ruled.{ruled_answers, lent_sizes, opened_answers}

-- ---- no other kind and code is within limits

-- what has a row is listed
listed? : ℕ → ℕ → Bool
listed? kind code = not (is_some (row_of kind code)) || is_in sorts (sort kind code)

all_listed : agree_below (λ kind. agree_below (listed? kind) (λ code. true) 4) (λ kind. true) 11 ≡ true
unfolding listed? row_of table sorts
all_listed = refl

-- no row has a code above 3
low_code : (e : Event) (m : Limited e) → e.code ≤ 3
unfolding table
low_code e m =
    let low = leb-true _ 3 (row_of_every (λ r. leb r.codes.high 3) e.kind e.code m.limits refl m.found) in
    omega (arith, (row_of_codes e.kind e.code m.limits m.found).to)

complete : (e : Event) → checked e ≡ (Ok tt) → is_in sorts (sort_of e) ≡ true
unfolding listed? row_of
complete e w =
    let m = checked_facts e w in
    let code = low_code e m in
    let kind = m.kind.to in
    let codes = agree_below_at (λ kind. agree_below (listed? kind) (λ code. true) 4) (λ kind. true) 11 e.kind all_listed (omega arith) in
    rw (ap is_some m.found) at (agree_below_at (listed? e.kind) (λ code. true) 4 e.code codes (omega arith))

-- ---- the statement

pub every_kind : EveryKind
unfolding sorts events ruled_answers
every_kind = record { covers = refl; complete = complete; accepted = opened_answers lent lent_sizes events }
