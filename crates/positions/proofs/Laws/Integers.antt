-- Signed numbers. `nat_abs z` is the size of z, its distance from 0; `to_z` and `of_z` go between a number and its 64 bits.
-- To cite: `within_size`, `size_within`, `bits_back`; the kit's `ints` proves what is linear. Assumes nothing.
use Rattle.std.proofs.lemmas.Int.{ints}
use mathlib.Core.Path.{◌≡◌}
use mathlib.Core.Bool.{true}
use Prim.Native.Nat.{ℕ, ◌<◌, ◌≤◌, ◌^◌}
use native.Mathlib.Omega.{arith}
use lib.IntN.{ℤ, nat_abs}
use mir.Syntax.{w64}
use mir.Val.{to_z, of_z}
use Rattle.positions.specs.Positions.{in_limit}

-- ---- within

pub within_size : (m : ℕ) (z : ℤ) → in_limit m z ≡ true → nat_abs z ≤ m
within_size m z e = grind (arith, ints)

pub size_within : (m : ℕ) (z : ℤ) → nat_abs z ≤ m → in_limit m z ≡ true
size_within m z h = grind (arith, ints)

-- ---- 64 bits

pub bits_back : (z : ℤ) → nat_abs z < 2 ^ 63 → to_z w64 (of_z w64 z) ≡ z
bits_back z h = omega (arith, ints)
