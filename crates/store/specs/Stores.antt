-- Stores as bytes: document 01, "A store is a count, then per field one mark byte and a signed 4-byte value".
use Rattle.std.specs.Prelude.{ℕ, zero, suc, ◌+◌, ◌*◌, ◌%◌, ◌≤◌, Bool, ◌&&◌, List, [], ◌∷◌, ◌++◌, length, get_or, drop, eqb}
use Rattle.basis.specs.Bytes.{word_at}
use Rattle.basis.specs.Tests.{all}
use Rattle.value.specs.Bytes.{bytes_of, value_at}
use Rattle.value.specs.declared.Value.{Value}
use Rattle.store.specs.declared.Mode.{Mode}
use Rattle.store.specs.Marks.{Mark, mark_of, byte_of, mark_taken}
use Rattle.store.specs.Cells.{Cell, cell, Store}

-- how long an entry is, where field i's begins, and how long a store of so many fields is
abbrev pub entry_length : ℕ
entry_length = 5

abbrev pub entry_at : ℕ → ℕ
entry_at i = 2 + i * entry_length

abbrev pub store_length : ℕ → ℕ
store_length fields = 2 + fields * entry_length

-- a store long enough for field i
abbrev pub FieldIn : List ℕ → ℕ → Type 0
FieldIn s i = store_length (i + 1) ≤ length s

-- one mark byte and a signed 4-byte value
abbrev pub mark_at : List ℕ → ℕ → ℕ
mark_at s i = get_or s (entry_at i) 0

abbrev pub value_of : List ℕ → ℕ → Value
value_of s i = value_at s (entry_at i + 1)

unfoldable pub cell_at : List ℕ → ℕ → Cell Mark
cell_at s i = cell (value_of s i) (mark_of (mark_at s i))

abbrev pub store_of : List ℕ → Store Mark
store_of s = cell_at s

-- and back
unfoldable pub entry_of : Cell Mark → List ℕ
entry_of (cell v m) = byte_of m ∷ bytes_of v.n

unfoldable pub store_entries : Store Mark → ℕ → List ℕ
store_entries σ zero = []
store_entries σ (suc i) = store_entries σ i ++ entry_of (σ i)

unfoldable pub store_bytes : Store Mark → ℕ → List ℕ
store_bytes σ fields = fields % 256 ∷ 0 ∷ store_entries σ fields

-- Success writes exactly the store; later bytes stay.
abbrev pub store_over : Store Mark → ℕ → List ℕ → List ℕ
store_over σ fields out = store_bytes σ fields ++ drop (store_length fields) out

-- 8: store length or count doesn't fit the sheet
unfoldable pub store_fits : ℕ → List ℕ → Bool
store_fits fields s = eqb (length s) (store_length fields) && eqb (word_at s 0) fields

-- 9: every field's mark is taken
unfoldable pub marks_right : Mode → ℕ → ℕ → List ℕ → Bool
marks_right mode levels fields s = all fields (λ i. mark_taken mode levels (mark_at s i))
