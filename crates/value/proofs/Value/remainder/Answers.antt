-- Past the `?` the divisor is not 0, and 64 bits hold the quotient, what it takes away and what it leaves.
use Rattle.std.proofs.Common.{rules, arith, Result, Ok, Err, cond, false, ◌∙◌, ap}
use Rattle.std.proofs.lemmas.Int.{ints, to_z-of_z}
use Rattle.std.specs.Prelude.{◌≡◌, ◌-ℤ◌, ◌*ℤ◌, ℤ, pos}
use mir.Syntax.{w32, w64}
use mir.Val.{to_z, of_z, SFits}
use Rattle.value.specs.Values.{exactly, eq_z, quot, rest, remainder_of}
use Rattle.value.specs.declared.ArithmeticError.{ArithmeticError}
use Rattle.value.specs.declared.ArithmeticError.TheVariants.{DivisorZero}
use Rattle.value.proofs.Dividing.{quot_fits, taken-fits, rest-fits}
use Rattle.value.proofs.Value.remainder.Goals as goal

abbrev read : ℤ → ℤ
read z = to_z w64 (of_z w64 z)

left : (x y q r s : ℤ) → SFits w32 x → SFits w32 y → r ≡ to_z w32 (of_z w32 x) → s ≡ to_z w32 (of_z w32 y)
    → ◌≡◌ {A = Result ℤ ArithmeticError} (Ok q) (cond (eq_z y (pos 0)) (Err DivisorZero) (Ok (quot x y)))
    → (eq_z y (pos 0) ≡ false) × (read r -ℤ read (read q *ℤ read s) ≡ rest x y) × SFits w64 (rest x y)
left x y q r s fx fy er es e = grind (arith, ints, to_z-of_z, quot_fits, taken-fits, rest-fits)

pub overflow_sub-from : goal.overflow_sub-from
overflow_sub-from c =
    let l = left c.args.self.n c.args.divisor.n _ _ _ (search rules) (search rules) c.from.ensures c.from-2.ensures c.in_ok-quotient.ensures in
    rw l.1 l.2

pub returns : goal.returns
unfolding remainder_of
returns c =
    let l = left c.args.self.n c.args.divisor.n _ _ _ (search rules) (search rules) c.from.ensures c.from-2.ensures c.in_ok-quotient.ensures in
    rw l.0 (c.try_from.ensures ∙ rw l.1 (ap exactly (to_z-of_z w64 _ l.2)))
