-- A value's four bytes make the value again, and four bytes come back from the value that they make:
-- to read a value and write it again changes nothing.
use Rattle.std.specs.Prelude.{◌≡◌, ℕ, ◌<◌, [], ◌∷◌, ℤ, get_or, refl}
use Rattle.std.proofs.Common.{◌∙◌, ap, arith}
use Rattle.std.specs.Int.{w32}
use Rattle.std.proofs.lemmas.Int.{ints, to_z-of_z, of_z-to_z}
use Rattle.std.proofs.lemmas.Nat.{from_le_bytes-to_le_bytes_4, le_bytes_4}
use mir.Val.{SFits, of_z}
use Rattle.value.specs.Bytes.{of_bits, bits_of, of_bytes, bytes_of}

pub value_of_bytes : (z : ℤ) → SFits w32 z → of_bytes (get_or (bytes_of z) 0 0) (get_or (bytes_of z) 1 0) (get_or (bytes_of z) 2 0) (get_or (bytes_of z) 3 0) ≡ z
unfolding of_bits bits_of bytes_of
value_of_bytes z f = ap of_bits (from_le_bytes-to_le_bytes_4 (of_z w32 z) (omega (arith, ints))) ∙ to_z-of_z w32 z f

pub bytes_of_value : (b0 b1 b2 b3 : ℕ) → b0 < 256 → b1 < 256 → b2 < 256 → b3 < 256 → bytes_of (of_bytes b0 b1 b2 b3) ≡ b0 ∷ b1 ∷ b2 ∷ b3 ∷ []
unfolding of_bits bits_of bytes_of
bytes_of_value b0 b1 b2 b3 h0 h1 h2 h3 = le_bytes_4 _ _ refl (λ i. grind arith) (of_z-to_z w32 _ (omega arith))
