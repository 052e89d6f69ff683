-- A row is a set of levels as a number: bit j says whether j is in it. What is in an intersection; sets with the same members are one; the set of
-- all numbers below n.
use Prim.Native.Nat.{ℕ, zero, suc, ◌-◌, ◌^◌, ◌<◌, min}
use native.Mathlib.Omega.{arith}
use borrow.Author.Tests.{eqb-true, eqb-false, eq-eqb}
use mathlib.Core.Path.{◌≡◌, refl, ap, sym, ◌∙◌}
use mathlib.Core.Bool.{◌&&◌, true}
use lib.Dec.{eqb}
use lib.Bits.{bit_and}
use Rattle.std.specs.Int.{bit_at}
use Rattle.std.proofs.lemmas.Nat.Bits.{bit_at_and, bit_at-lt, bit_at_ones, same_from_bits_below}
use Rattle.basis.proofs.Tests.{split}
use Rattle.levels.specs.Levels.{bit}

-- equal sets have the same members
pub same_bits : {a b : ℕ} → a ≡ b → (j : ℕ) → bit a j ≡ bit b j
same_bits e j = rw e

-- what is in an intersection is in both
min_digit : (x y : ℕ) → x < 2 → y < 2 → eqb (min x y) 1 ≡ (eqb x 1 && eqb y 1)
min_digit zero zero h k = refl
min_digit zero (suc zero) h k = refl
min_digit (suc zero) zero h k = refl
min_digit (suc zero) (suc zero) h k = refl
min_digit x (suc (suc y)) h k = absurd (omega arith)
min_digit (suc (suc x)) y h k = absurd (omega arith)

pub bit_and_lem : (a b j : ℕ) → bit (bit_and a b) j ≡ (bit a j && bit b j)
bit_and_lem a b j = ap (λ x. eqb x 1) (bit_at_and a b j) ∙ min_digit (bit_at a j) (bit_at b j) (bit_at-lt a j) (bit_at-lt b j)

-- sets with the same members are one
pub bit_ext : (n a b : ℕ) → a < 2 ^ n → b < 2 ^ n → ((j : ℕ) → j < n → bit a j ≡ bit b j) → a ≡ b
bit_ext n a b h k f =
    same_from_bits_below n a b h k (λ j l. let e = f j l in let x = bit_at-lt a j in let y = bit_at-lt b j in
    split (bit a j)
    (λ t. eqb-true _ 1 t ∙ sym (eqb-true _ 1 (sym e ∙ t)))
    (λ t. omega (arith, eqb-false (bit_at a j) 1 t, eqb-false (bit_at b j) 1 (sym e ∙ t))))

-- the set of all numbers below n
pub bit_full : (n j : ℕ) → j < n → bit (2 ^ n - 1) j ≡ true
bit_full n j h = eq-eqb _ 1 (bit_at_ones n j h)
