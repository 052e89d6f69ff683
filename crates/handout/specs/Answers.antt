-- What a request gets from a store: the answer's bytes, or the first field that refuses all of it.
use Rattle.std.specs.Prelude.{ℕ, zero, suc, ◌+◌, ◌*◌, ◌%◌, Bool, false, cond, List, [], ◌∷◌, ◌++◌, pos, drop}
use Rattle.basis.specs.Tests.{first}
use Rattle.value.specs.Bytes.{bytes_of}
use Rattle.levels.specs.Lattice.{Lattice}
use Rattle.store.specs.Cells.{Cell, cell, Store}
use Rattle.store.specs.Marks.{Mark, whole, partial}
use Rattle.handout.specs.Requests.{asked_count, field_asked, request_right}

-- The answer is the count, then per asked field 5 bytes:
abbrev pub answer_entry : ℕ
answer_entry = 5

-- where the entry at position i begins
abbrev pub answer_at : ℕ → ℕ
answer_at i = 2 + i * answer_entry

abbrev pub answer_length : List ℕ → ℕ
answer_length request = answer_at (asked_count request)

-- 0 and value 0
abbrev pub withheld : List ℕ
withheld = 0 ∷ bytes_of (pos 0)

module _ (𝓛 : Lattice) (reader : ℕ) where
  -- 1 and the value if whole at or below the reader; withheld if elsewhere, whole or partial. A partial field at or below the reader is never shown.
  unfoldable pub shown : Cell Mark → List ℕ
  shown (cell v (whole a)) = cond (𝓛.le a reader) (1 ∷ bytes_of v.n) withheld
  shown (cell v (partial a)) = cond (𝓛.le a reader) [] withheld

  unfoldable pub all_shown : Store Mark → List ℕ → ℕ → List ℕ
  all_shown σ request zero = []
  all_shown σ request (suc i) = all_shown σ request i ++ shown (σ (field_asked request i))

  unfoldable pub answer_bytes : Store Mark → List ℕ → List ℕ
  answer_bytes σ request = asked_count request % 256 ∷ 0 ∷ all_shown σ request (asked_count request)

  -- Success writes exactly the answer; later bytes stay.
  abbrev pub answer_over : Store Mark → List ℕ → List ℕ → List ℕ
  answer_over σ request out = answer_bytes σ request ++ drop (answer_length request) out

  -- A partial field at or below the reader refuses all of it: a blank in one run and a price in the other would tell.
  unfoldable pub refuses : Cell Mark → Bool
  refuses (cell v (whole a)) = false
  refuses (cell v (partial a)) = 𝓛.le a reader

  abbrev pub refuses_at : Store Mark → List ℕ → ℕ → Bool
  refuses_at σ request i = refuses (σ (field_asked request i))

  -- 18: first such position in the request, from 0; the count if there is none
  unfoldable pub first_refusing : Store Mark → List ℕ → ℕ
  first_refusing σ request = first (asked_count request) (refuses_at σ request)

-- `unfolding answering` opens all of the above and what makes a request right, so that an answer computes
unfoldable pub answering : Unit {0}
unfolding request_right shown all_shown answer_bytes refuses first first_refusing
answering = tt
