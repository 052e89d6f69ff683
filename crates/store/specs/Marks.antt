-- The marks of document 01: a level, whole or partial, and the byte that a store has for it.
use Rattle.std.specs.Prelude.{ℕ, ◌+◌, ◌-◌, ◌%◌, Bool, true, false, cond, ◌&&◌, eqb, ltb, leb}
use Rattle.store.specs.declared.Mode.{Mode}
use Rattle.store.specs.declared.Mode.TheVariants.{Strict, Permissive}

pub data Mark : Type 0 where
  whole partial : ℕ → Mark

abbrev pub level_of : Mark → ℕ
level_of (whole a) = a
level_of (partial a) = a

abbrev pub is_partial : Mark → Bool
is_partial (whole a) = false
is_partial (partial a) = true

-- The mark is the level, plus 16 when partial. A store entry without 16 is whole.
unfoldable pub mark_of : ℕ → Mark
mark_of byte = cond (ltb byte 16) (whole byte) (partial (byte - 16))

abbrev pub byte_of : Mark → ℕ
byte_of (whole a) = a
byte_of (partial a) = a + 16

-- mode 0 (strict) or 1 (permissive)
unfoldable pub mode_of : ℕ → Mode
mode_of number = cond (eqb number 0) Strict Permissive

-- 9: a mark above 31 or its level unknown; in a strict run also a partial mark
unfoldable pub mark_known : ℕ → ℕ → Bool
mark_known levels byte = leb byte 31 && ltb (byte % 16) levels

abbrev pub mark_taken : Mode → ℕ → ℕ → Bool
mark_taken Strict levels byte = mark_known levels byte && ltb byte 16
mark_taken Permissive levels byte = mark_known levels byte
