-- Document 01, "The sheet": how a value stands in a sheet and in a store, as four bytes.
-- `to_z w32` is the number that 32 bits are in two's complement, and `of_z w32` is the 32 bits of a number.
use Rattle.std.specs.Prelude.{ℕ, ◌+◌, ◌*◌, ◌/◌, ◌%◌, List, [], ◌∷◌, ℤ, get_or}
use Rattle.std.specs.Int.{w32}
use Rattle.std.proofs.Common.{to_z, of_z}
use Rattle.value.specs.declared.Value.{Value}

-- a signed 4-byte value
unfoldable pub of_bits : ℕ → ℤ
of_bits u = to_z w32 u

unfoldable pub bits_of : ℤ → ℕ
bits_of z = of_z w32 z

-- all numbers little-endian
abbrev pub of_bytes : ℕ → ℕ → ℕ → ℕ → ℤ
of_bytes b0 b1 b2 b3 = of_bits (b0 + b1 * 256 + b2 * 65536 + b3 * 16777216)

unfoldable pub bytes_of : ℤ → List ℕ
bytes_of z =
    bits_of z % 256
    ∷ bits_of z / 256 % 256
    ∷ bits_of z / 65536 % 256
    ∷ bits_of z / 16777216 % 256
    ∷ []

-- the value whose bytes stand at an offset
abbrev pub value_at : List ℕ → ℕ → Value
value_at s at = record { n = of_bytes (get_or s at 0) (get_or s (at + 1) 0) (get_or s (at + 2) 0) (get_or s (at + 3) 0) }
