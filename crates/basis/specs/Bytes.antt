-- Numbers of two bytes.
use Rattle.std.specs.Prelude.{ℕ, ◌+◌, ◌*◌, List, get_or}

-- all numbers little-endian
abbrev pub word_at : List ℕ → ℕ → ℕ
word_at s at = get_or s at 0 + get_or s (at + 1) 0 * 256
