-- The digits of a number: one below 10, those of n / 10 and one more from 10 on; a value's text by its 32 bits; and how long they are.
use Prim.Native.Nat.{ℕ, zero, suc, ◌+◌, ◌-◌, ◌/◌, ◌%◌, ◌^◌, ◌≤◌, ◌<◌}
use native.Mathlib.Omega.{arith}
use native.Mathlib.Decide.{dec_le}
use mathlib.Core.Path.{◌≡◌, sym, ap}
use mathlib.Core.List.{[], ◌∷◌, ◌++◌}
use borrow.Author.Tests.{lt-ltb, le-ltb}
use lib.IntN.{ℤ, pos, negsuc}
use lib.ListN.{length, length-append}
use mir.Syntax.{w32}
use mir.Val.{SFits}
use Rattle.value.specs.Bytes.{of_bits, bits_of}
use Rattle.report.specs.Text.{digits_within, decimal, part, signed}

-- enough is enough
within_same : (j k n : ℕ) → n < j → n < k → digits_within j n ≡ digits_within k n
unfolding digits_within
within_same zero k n f g = absurd (omega arith)
within_same (suc j) zero n f g = absurd (omega arith)
within_same (suc j) (suc k) n f g = go (dec_le 10 n) (λ h. within_same j k (n / 10) (omega arith) (omega arith))
  where
    go : Dec (10 ≤ n) → (10 ≤ n → digits_within j (n / 10) ≡ digits_within k (n / 10)) → digits_within (suc j) n ≡ digits_within (suc k) n
    go (yes h) same = rw (le-ltb n 10 h, same h)
    go (no h) same = rw (lt-ltb n 10 (omega arith))

pub decimal_one : (n : ℕ) → n < 10 → decimal n ≡ (48 + n) ∷ []
unfolding decimal digits_within
decimal_one n h = rw (lt-ltb n 10 h)

pub decimal_more : (n : ℕ) → 10 ≤ n → decimal n ≡ decimal (n / 10) ++ ((48 + n % 10) ∷ [])
unfolding decimal digits_within
decimal_more n h = rw (le-ltb n 10 h, within_same n (suc (n / 10)) (n / 10) (omega arith) (omega arith))

-- a value's text, from its 32 bits
pub signed-whole : (z : ℤ) {u : ℕ} → SFits w32 z → u ≡ bits_of z → u < 2147483648 → signed z ≡ decimal u
unfolding signed bits_of
signed-whole (pos n) fits is h = ap decimal (sym is)
signed-whole (negsuc n) fits is h = absurd (omega (arith, fits.sfits))

pub signed_minus : (z : ℤ) {u : ℕ} → SFits w32 z → u ≡ bits_of z → 2147483648 ≤ u → signed z ≡ (45 ∷ []) ++ decimal (4294967295 - u + 1)
unfolding signed bits_of
signed_minus (pos n) fits is h = absurd (omega (arith, fits.sfits))
signed_minus (negsuc n) {u} fits is h =
    let same : suc n ≡ 4294967295 - u + 1 = omega (arith, fits.sfits) in
    ap (λ (k : ℕ). 45 ∷ decimal k) same

-- ── how long they are ───────────────────────────────────────────────────────────────────────

pub decimal-length : (k n : ℕ) → n < 10 ^ suc k → length (decimal n) ≤ suc k
decimal-length zero n h = rw (decimal_one n h) (omega arith)
decimal-length (suc k) n h = go (dec_le 10 n) (λ ten. decimal-length k (n / 10) (omega arith))
  where
    go : Dec (10 ≤ n) → (10 ≤ n → length (decimal (n / 10)) ≤ suc k) → length (decimal n) ≤ suc (suc k)
    go (yes ten) fewer = rw (decimal_more n ten) (omega (arith, length-append (decimal (n / 10)) ((48 + n % 10) ∷ []), fewer ten))
    go (no few) fewer = rw (decimal_one n (omega arith)) (omega arith)

pub part_length : (k n : ℕ) → n < 10 ^ suc k → length (part n) ≤ suc (suc k)
unfolding part
part_length k n h = omega (arith, decimal-length k n h)

pub signed-length : (u : ℕ) → length (signed (of_bits u)) ≤ 11
unfolding signed of_bits
signed-length u = go (dec_le 2147483648 u)
  where
    go : Dec (2147483648 ≤ u) → length (signed (of_bits u)) ≤ 11
    go (yes below) = rw (le-ltb u 2147483648 below) (omega (arith, decimal-length 9 (suc (4294967296 - suc u)) (omega arith)))
    go (no above) = rw (lt-ltb u 2147483648 (omega arith)) (omega (arith, decimal-length 9 u (omega arith)))
