-- Document 01, "Trials": what the runner program reads, taken apart. All numbers little-endian.
use Rattle.std.specs.Prelude.{ℕ, ◌+◌, ◌*◌, Bool, cond, List, [], length, get_or, take, drop, eqb, ltb}
use Rattle.basis.specs.Bytes.{word_at}

-- mode byte,
abbrev pub mode_in : List ℕ → ℕ
mode_in file = get_or file 0 0

-- fuel in 4 bytes,
abbrev pub fuel_in : List ℕ → ℕ
fuel_in file = word_at file 1 + word_at file 3 * 65536

-- sheet length in 2, sheet,
unfoldable pub sheet_in : List ℕ → List ℕ
sheet_in file = take (word_at file 5) (drop 7 file)

abbrev pub sheet_end : List ℕ → ℕ
sheet_end file = 7 + word_at file 5

-- store length in 2, store. A store cut or followed by bytes is 8, in 8's place in the order: it counts as no bytes, which fit no sheet.
unfoldable pub store_in : List ℕ → List ℕ
store_in file = cond (eqb (length (drop (sheet_end file + 2) file)) (word_at file (sheet_end file))) (drop (sheet_end file + 2) file) []

-- a file cut before the store's length is complete
unfoldable pub is_cut : List ℕ → Bool
is_cut file = ltb (length file) (sheet_end file + 2)
