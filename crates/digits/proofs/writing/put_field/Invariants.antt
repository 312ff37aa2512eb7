use Rattle.std.proofs.Common.{◌≡◌, ◌≤◌, ◌-◌}
use Rattle.digits.specs.Field.{signed_padded, signed_field, pasted}
use Rattle.digits.proofs.Laws.Buffer.{still}
use Rattle.digits.proofs.writing.put_field.Given as goal

-- what stands in the buffer and what is still to come make up the whole
abbrev pub invariant-loop-i : goal.invariant-loop-i
invariant-loop-i l =
    (l.at ≤ l.i)
    × (still l.at l.i (signed_padded (l.i - l.at) l.fill l.rest) l.out ≡ pasted l.at (signed_field l.width l.sign l.v) l.fn.out)
