-- Document 01, "Trials": the text that the runner program prints, as ASCII codes.
use Rattle.std.specs.Prelude.{ℕ, zero, suc, ◌+◌, ◌/◌, ◌%◌, cond, List, [], ◌∷◌, ◌++◌, length, eqb, ltb, ℤ, pos, negsuc}
use Rattle.basis.specs.Numbers as numbers
use Rattle.basis.specs.declared.answer.Answer.{Answer}
use Rattle.names.specs.Names.{name_byte}
use Rattle.store.specs.Cells.{Cell, cell}
use Rattle.store.specs.Marks.{Mark, whole, partial, level_of}
use Rattle.store.specs.Stores.{cell_at}

-- Parts of a line stand one blank apart, each line ends in LF,
abbrev pub blank : List ℕ
blank = 32 ∷ []

abbrev pub line_end : List ℕ
line_end = 10 ∷ []

-- its words: `done`, `refused`, `whole`, `partial`
abbrev pub done_word : List ℕ
done_word = 100 ∷ 111 ∷ 110 ∷ 101 ∷ []

abbrev pub refused_word : List ℕ
refused_word = 114 ∷ 101 ∷ 102 ∷ 117 ∷ 115 ∷ 101 ∷ 100 ∷ []

abbrev pub whole_word : List ℕ
whole_word = 119 ∷ 104 ∷ 111 ∷ 108 ∷ 101 ∷ []

abbrev pub partial_word : List ℕ
partial_word = 112 ∷ 97 ∷ 114 ∷ 116 ∷ 105 ∷ 97 ∷ 108 ∷ []

-- the texts of the numbers below n, one after another
unfoldable pub each : ℕ → (ℕ → List ℕ) → List ℕ
each zero text = []
each (suc n) text = each n text ++ text n

-- numbers are decimal: the digits of n, the last of which is n % 10. The first argument bounds the recursion.
unfoldable pub digits_within : ℕ → ℕ → List ℕ
digits_within zero n = []
digits_within (suc k) n = cond (ltb n 10) ((48 + n) ∷ []) (digits_within k (n / 10) ++ ((48 + n % 10) ∷ []))

unfoldable pub decimal : ℕ → List ℕ
decimal n = digits_within (suc n) n

-- a number as a part of a line
unfoldable pub part : ℕ → List ℕ
part n = blank ++ decimal n

-- a value, with a minus sign below 0
unfoldable pub signed : ℤ → List ℕ
signed (pos n) = decimal n
signed (negsuc n) = 45 ∷ decimal (suc n)

-- and a name is printed without its zero bytes.
unfoldable pub without_zero : ℕ → List ℕ
without_zero byte = cond (eqb byte 0) [] (byte ∷ [])

unfoldable pub name_of : List ℕ → ℕ → List ℕ
name_of fields i = each 8 (λ k. without_zero (name_byte fields i k))

-- level, `whole` or `partial`
abbrev pub mark_word : Mark → List ℕ
mark_word (whole level) = whole_word
mark_word (partial level) = partial_word

unfoldable pub mark_text : Mark → List ℕ
mark_text mark = part (level_of mark) ++ (blank ++ mark_word mark)

-- then after `done` a line per field: name, level, `whole` or `partial`, value
unfoldable pub cell_text : Cell Mark → List ℕ
cell_text (cell value mark) = mark_text mark ++ blank ++ signed value.n

unfoldable pub field_line : List ℕ → List ℕ → ℕ → List ℕ
field_line fields store i = name_of fields i ++ cell_text (cell_at store i) ++ line_end

abbrev pub field_lines : List ℕ → List ℕ → List ℕ
field_lines fields store = each (length fields / 8) (field_line fields store)

-- It prints `done` and units,
unfoldable pub done_text : ℕ → List ℕ → List ℕ → List ℕ
done_text units fields store = done_word ++ part units ++ line_end ++ field_lines fields store

-- or `refused`, number, place and units
unfoldable pub refused_text : Answer → List ℕ
refused_text answer = refused_word ++ part answer.number ++ part answer.place ++ part answer.units ++ line_end

-- What comes back: success is number 0.
unfoldable pub printed : Answer → List ℕ → List ℕ → List ℕ
printed answer fields store = cond (eqb answer.number numbers.done) (done_text answer.units fields store) (refused_text answer)
