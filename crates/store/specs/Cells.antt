-- Fields with their marks, whatever marks are.
use Rattle.std.specs.Prelude.{ℕ}
use Rattle.value.specs.declared.Value.{Value}

-- a value with its mark: a field, or an expression's result
pub data Cell (A : Type 0) : Type 0 where
  cell : Value → A → Cell A

-- a store has a cell for each field number
abbrev pub Store : Type 0 → Type 0
Store Mark = ℕ → Cell Mark
