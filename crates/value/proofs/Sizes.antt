-- How large a result is: a sum is no larger than both sizes together, a product has the product of the sizes, and a quotient is no larger
-- than the dividend.
use mathlib.Core.Path.{◌≡◌}
use Prim.Native.Nat.{suc, ◌+◌, ◌*◌, ◌≤◌}
use native.Mathlib.Omega.{arith}
use lib.IntN.{ℤ, pos, negsuc, neg_ℤ, nat_abs, ◌+ℤ◌, ◌*ℤ◌}
use Rattle.std.proofs.lemmas.Int.{ints}
use Rattle.value.specs.Values.{quot}
use Rattle.value.proofs.Dividing.{size_floor}

pub size_negated : (x : ℤ) → nat_abs (neg_ℤ x) ≡ nat_abs x
size_negated x = omega (arith, ints)

pub size_sum : (x y : ℤ) → nat_abs (x +ℤ y) ≤ nat_abs x + nat_abs y
size_sum x y = omega (arith, ints)

pub size_product : (x y : ℤ) → nat_abs (x *ℤ y) ≡ nat_abs x * nat_abs y
size_product x y = grind (arith, ints)

pub size_quot : (x y : ℤ) → nat_abs (quot x y) ≤ nat_abs x
size_quot x (pos b) = size_floor x b
size_quot x (negsuc b) = omega (arith, size_floor (neg_ℤ x) (suc b), size_negated x)
