-- Document 01, "Values": what each operator gives. Numbers are exact integers here, and a result that is no value is refused.
-- Division is document 02's, "Two". `operator_of` is the whole of it.
use Rattle.std.specs.Prelude.{ℕ, suc, ◌/◌, Bool, false, not, cond, ◌&&◌, ◌||◌, [], ◌∷◌, eqb, ℤ, pos, negsuc, neg_ℤ, ◌+ℤ◌, ◌-ℤ◌, ◌*ℤ◌, get_or, Result, Ok, Err}
use Rattle.std.specs.Int.Signed.{lt_z, le_z}
use Rattle.value.specs.declared.Value.{Value}
use Rattle.value.specs.declared.ArithmeticError.{ArithmeticError}
use Rattle.value.specs.declared.ArithmeticError.TheVariants.{OutOfRange, DivisorZero}
use Rattle.value.specs.declared.Operator.{Operator}
use Rattle.value.specs.declared.Operator.TheVariants.{Sum, Difference, Product, Quotient, Remainder, Equal, Less, AtMost, And, Or}

-- what an operator gives: a value, or why there is none
abbrev pub Computed : Type 0
Computed = Result Value ArithmeticError

-- The least number is -2,147,483,648 and the greatest 2,147,483,647;
abbrev pub least : ℤ
least = neg_ℤ (pos 2147483648)

abbrev pub greatest : ℤ
greatest = pos 2147483647

-- an exact result outside stops the run.
unfoldable pub exactly : ℤ → Computed
exactly z = cond (le_z least z && le_z z greatest) (Ok (record { n = z })) (Err (OutOfRange z))

abbrev pub sum_of : Value → Value → Computed
sum_of x y = exactly (x.n +ℤ y.n)

abbrev pub difference_of : Value → Value → Computed
difference_of x y = exactly (x.n -ℤ y.n)

abbrev pub product_of : Value → Value → Computed
product_of x y = exactly (x.n *ℤ y.n)

-- Division gives the greatest whole number not above the exact quotient: for -(a + 1) and b that is -(a / b + 1),
abbrev pub floor : ℤ → ℕ → ℤ
floor (pos a) b = pos (a / b)
floor (negsuc a) b = negsuc (a / b)

-- and x / y is -x / -y.
abbrev pub quot : ℤ → ℤ → ℤ
quot x (pos b) = floor x b
quot x (negsuc b) = floor (neg_ℤ x) (suc b)

-- The remainder, with the divisor's sign, is what the quotient leaves of the dividend.
abbrev pub rest : ℤ → ℤ → ℤ
rest x y = x -ℤ quot x y *ℤ y

-- That the quotient is the greatest, and the remainder's sign, are theorems (`Dividing`). They say that q is not above the exact quotient of
-- x and y if q times y is not above x, or not below x where y is below zero.
abbrev pub not_above : ℤ → ℤ → ℤ → Bool
not_above q x (pos b) = le_z (q *ℤ pos b) x
not_above q x (negsuc b) = le_z x (q *ℤ negsuc b)

-- whether two numbers are equal, beside the library's `lt_z` (less) and `le_z` (at most)
abbrev pub eq_z : ℤ → ℤ → Bool
eq_z (pos a) (pos b) = eqb a b
eq_z (pos a) (negsuc b) = false
eq_z (negsuc a) (pos b) = false
eq_z (negsuc a) (negsuc b) = eqb a b

-- 14: divisor 0
unfoldable pub quotient_of : Value → Value → Computed
quotient_of x y = cond (eq_z y.n (pos 0)) (Err DivisorZero) (exactly (quot x.n y.n))

unfoldable pub remainder_of : Value → Value → Computed
remainder_of x y = cond (eq_z y.n (pos 0)) (Err DivisorZero) (exactly (rest x.n y.n))

-- Equal, less, at most, and, or, not give 1 or 0;
unfoldable pub truth : Bool → Value
truth b = record { n = cond b (pos 1) (pos 0) }

abbrev pub equal_of : Value → Value → Value
equal_of x y = truth (eq_z x.n y.n)

abbrev pub less_of : Value → Value → Value
less_of x y = truth (lt_z x.n y.n)

abbrev pub at_most_of : Value → Value → Value
at_most_of x y = truth (le_z x.n y.n)

-- any number but 0 is true.
unfoldable pub is_true : Value → Bool
is_true x = not (eq_z x.n (pos 0))

abbrev pub and_of : Value → Value → Value
and_of x y = truth (is_true x && is_true y)

abbrev pub or_of : Value → Value → Value
or_of x y = truth (is_true x || is_true y)

abbrev pub not_of : Value → Value
not_of x = truth (not (is_true x))

-- Operators: 0 +, 1 -, 2 *, 3 /, 4 %, 5 equal, 6 less, 7 at most, 8 and, 9 or.
unfoldable pub operator_numbered : ℕ → Operator
operator_numbered op = get_or (Sum ∷ Difference ∷ Product ∷ Quotient ∷ Remainder ∷ Equal ∷ Less ∷ AtMost ∷ And ∷ []) op Or

unfoldable pub applied : Operator → Value → Value → Computed
applied Sum x y = sum_of x y
applied Difference x y = difference_of x y
applied Product x y = product_of x y
applied Quotient x y = quotient_of x y
applied Remainder x y = remainder_of x y
applied Equal x y = Ok (equal_of x y)
applied Less x y = Ok (less_of x y)
applied AtMost x y = Ok (at_most_of x y)
applied And x y = Ok (and_of x y)
applied Or x y = Ok (or_of x y)

unfoldable pub operator_of : ℕ → Value → Value → Computed
operator_of op = applied (operator_numbered op)

-- `unfolding operating` opens all of the above, so that an operator on two numbers computes
unfoldable pub operating : Unit {0}
unfolding operator_of operator_numbered applied quotient_of remainder_of exactly truth is_true
operating = tt
