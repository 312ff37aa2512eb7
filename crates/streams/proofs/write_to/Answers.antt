-- What was written in a turn comes behind what was written before.
use Rattle.std.proofs.Common.{rules, arith, ◌≡◌, ◌≤◌, ℕ, ◌+◌, ◌-◌, List, sym, ap, ◌∙◌, subst, length, take, drop, Bor}
use Rattle.std.proofs.KnownBytes.{Appends-trans}
use Rattle.std.proofs.lemmas.List.{drop-drop, length-drop}
use Rattle.std.proofs.Math.Seq.{take-add}
use Rattle.std.specs.Io.KnownBytes.{Appends}
use Rattle.std.specs.declared.option.Option.{Option}
use borrow.Author.Rules.{part_to_end}
use Rattle.streams.proofs.write_to.Goals as goal
use Rattle.streams.proofs.write_to.Goals.{in-Ok, in-Err+in_ok-try_again-in-Err}

-- the bytes behind the first n of the rest, n of which were written now
behind_more : (bytes rest left : List ℕ) (n : ℕ) (a b c : Option (List ℕ))
    → left ≡ drop n rest
    → n ≤ length rest
    → length rest ≤ length bytes
    → rest ≡ drop (length bytes - length rest) bytes
    → Appends a b (take (length bytes - length rest) bytes)
    → Appends b c (take n rest)
    → (length left ≤ length bytes) × (left ≡ drop (length bytes - length left) bytes) × Appends a c (take (length bytes - length left) bytes)
behind_more bytes rest left n a b c l inside fits r grown more =
    let d = length bytes - length rest in
    let s : length bytes - length left ≡ d + n = omega (arith, ap length l, length-drop n rest) in (
      omega (arith, ap length l, length-drop n rest),
      l ∙ ap (drop n) r ∙ drop-drop n d bytes ∙ ap (λ (k : ℕ). drop k bytes) (sym s),
      rw (s, take-add d n bytes) (Appends-trans a b c (take d bytes) (take n (drop d bytes)) grown (subst (λ (x : List ℕ). Appends b c (take n x)) r more)),
    )

pub loop-preserved : goal.loop-preserved
loop-preserved g c =
    let at = c.loop.invariant in
    elim c.match-write.branch [
      | in-Ok w ↦ (
          let e = ap (λ (b : Bor (List ℕ)). b.now) w.rest-is ∙ part_to_end c.loop.rest.now w.in-Ok.put in
          let on = behind_more _ _ _ _ _ _ _ e w.in-Ok.ensures.bound at.0 at.1 at.2 w.in-Ok.ensures.bytes in
          (on.0, on.1, on.2, search rules))
      | in-Err+in_ok-try_again-in-Err w ↦ (search rules)
    ]
