-- What division means. The quotient is the greatest whole number not above the exact quotient; the dividend is the quotient times the
-- divisor plus the remainder; the remainder is smaller than the divisor, and it is 0 or has the divisor's sign. No other theorem says how
-- `quot` and `rest` round: who changes them restates these.
use mathlib.Core.Path.{◌≡◌, refl}
use mathlib.Core.Bool.{true, ◌&&◌}
use mathlib.Core.Logic.{◌↔◌, ◌⊎◌}
use Prim.Native.Nat.{ℕ, suc, ◌*◌, ◌/◌, ◌≤◌, ◌<◌, suc-le-suc}
use native.Mathlib.Nat.{le-div_iff_mul-le, div-lt_iff_lt-mul, div-le_self}
use native.Mathlib.Omega.{arith}
use lib.IntN.{ℤ, pos, negsuc, neg_ℤ, nat_abs, ◌+ℤ◌, ◌*ℤ◌}
use lib.Signed.{non_neg, le_z}
use mir.Syntax.{w32, w64}
use mir.Val.{SFits}
use Rattle.std.proofs.lemmas.Int.{ints}
use Rattle.value.specs.Values.{least, greatest, exactly, floor, quot, rest, not_above}
use Rattle.std.specs.Prelude.{Ok, Err}
use Rattle.value.specs.declared.ArithmeticError.TheVariants.{OutOfRange}

-- ---- the quotient
floor-greatest : (q x : ℤ) {b : ℕ} → 0 < b → le_z (q *ℤ pos b) x ≡ le_z q (floor x b)
floor-greatest (pos m) (pos a) {b} h = let same : (m ≤ a / b) ↔ (m * b ≤ a) = le-div_iff_mul-le h in grind (arith, ints, same.0, same.1)
floor-greatest (pos m) (negsuc a) h = refl
floor-greatest (negsuc m) (pos a) h = grind (arith, ints)
floor-greatest (negsuc m) (negsuc a) {b} h = let same : (a / b < suc m) ↔ (a < suc m * b) = div-lt_iff_lt-mul h in grind (arith, ints, same.0, same.1)

pub not_above_lem : (q x y : ℤ) → 0 < nat_abs y → not_above q x y ≡ le_z q (quot x y)
not_above_lem q x (pos b) h = floor-greatest q x h
not_above_lem q x (negsuc b) h = grind (arith, ints, floor-greatest q (neg_ℤ x) {b = suc b} (omega arith))

pub quot-greatest : (x y : ℤ) → 0 < nat_abs y → (not_above (quot x y) x y ≡ true) × ((q : ℤ) → not_above q x y ≡ true → le_z q (quot x y) ≡ true)
quot-greatest x y h = grind (arith, ints, not_above_lem)

-- ---- the remainder
pub dividend : (x y : ℤ) → x ≡ quot x y *ℤ y +ℤ rest x y
dividend x y = omega (arith, ints)

pub rest_smaller : (x y : ℤ) → 0 < nat_abs y → nat_abs (rest x y) < nat_abs y
rest_smaller x y h = grind (arith, ints)

pub rest_sign : (x y : ℤ) → 0 < nat_abs y → (rest x y ≡ pos 0) ⊎ (non_neg (rest x y) ≡ non_neg y)
rest_sign x y h = grind (arith, ints)

-- 64 bits hold the quotient of two values, what it takes away and what it leaves
module _ (x y : ℤ) (fx : SFits w32 x) (fy : SFits w32 y) where
  pub quot_fits : SFits w64 (quot x y)
  quot_fits = grind (arith, ints)

  pub taken-fits : SFits w64 (quot x y *ℤ y)
  taken-fits = grind (arith, ints)

  pub rest-fits : SFits w64 (rest x y)
  rest-fits = grind (arith, ints)

-- -2,147,483,648 / -1 is out of range, and its remainder is 0
pub least_by_minus_one : (exactly (quot least (negsuc 0)) ≡ Err (OutOfRange (pos 2147483648))) × (exactly (rest least (negsuc 0)) ≡ Ok (record { n = pos 0 }))
unfolding exactly
least_by_minus_one = (refl, refl)

-- ---- sizes
pub size_floor : (x : ℤ) (b : ℕ) → nat_abs (floor x b) ≤ nat_abs x
size_floor (pos a) b = div-le_self a b
size_floor (negsuc a) b = suc-le-suc (div-le_self a b)

-- a number from the least to the greatest is a value
pub inside-fits : (z : ℤ) → (le_z least z && le_z z greatest) ≡ true → SFits w32 z
inside-fits z e = grind (arith, ints)
