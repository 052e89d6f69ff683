-- Tests that compute, over the numbers below n.
use Rattle.std.specs.Prelude.{ℕ, zero, suc, Bool, true, false}

infixr 25 ◌⇒◌
abbrev pub ◌⇒◌ : Bool → Bool → Bool
true ⇒ b = b
false ⇒ b = true

-- every number below n passes
unfoldable pub all : ℕ → (ℕ → Bool) → Bool
all zero P = true
all (suc n) P = elim (P n) [ true ↦ all n P | false ↦ false ]

-- some number below n passes
unfoldable pub some : ℕ → (ℕ → Bool) → Bool
some zero P = false
some (suc n) P = elim (P n) [ true ↦ true | false ↦ some n P ]

-- the greatest number below n that passes, if one does
unfoldable pub which : ℕ → (ℕ → Bool) → ℕ
which zero P = zero
which (suc n) P = elim (P n) [ true ↦ n | false ↦ which n P ]

-- the least number below n that passes, or n if none does
unfoldable pub first : ℕ → (ℕ → Bool) → ℕ
first zero P = zero
first (suc n) P = elim (P zero) [ true ↦ zero | false ↦ suc (first n (λ i. P (suc i))) ]
