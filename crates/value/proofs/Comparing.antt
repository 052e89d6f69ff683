-- The test in the words of values is equality.
use mathlib.Core.Path.{◌≡◌, refl, ap}
use mathlib.Core.Bool.{true, false≢true}
use borrow.Author.Tests.{eqb-true, eq-eqb}
use lib.IntN.{ℤ, pos, negsuc}
use Rattle.value.specs.Values.{eq_z}

pub eq_z-same : (x : ℤ) → eq_z x x ≡ true
eq_z-same (pos a) = eq-eqb a a refl
eq_z-same (negsuc a) = eq-eqb a a refl

pub eq_z_equal : (x y : ℤ) → eq_z x y ≡ true → x ≡ y
eq_z_equal (pos a) (pos b) e = ap pos (eqb-true a b e)
eq_z_equal (pos a) (negsuc b) e = absurd (false≢true e)
eq_z_equal (negsuc a) (pos b) e = absurd (false≢true e)
eq_z_equal (negsuc a) (negsuc b) e = ap negsuc (eqb-true a b e)
