-- Requests as bytes, and when one is right.
use Rattle.std.specs.Prelude.{ℕ, ◌+◌, ◌*◌, Bool, ◌&&◌, List, length, eqb, ltb, leb}
use Rattle.basis.specs.Bytes.{word_at}
use Rattle.basis.specs.Tests.{all}

-- A request is a count of 0 to 64, then a 2-byte field number each; repeats are allowed.
abbrev pub asked_count : List ℕ → ℕ
asked_count request = word_at request 0

-- how long a request of so many fields is, and the field number at position i
abbrev pub request_length : ℕ → ℕ
request_length asked = 2 + asked * 2

abbrev pub field_asked : List ℕ → ℕ → ℕ
field_asked request i = word_at request (2 + i * 2)

-- 17: request's size, count or a field number wrong
unfoldable pub request_right : ℕ → List ℕ → Bool
request_right fields request =
    eqb (length request) (request_length (asked_count request))
    && leb (asked_count request) 64
    && all (asked_count request) (λ i. ltb (field_asked request i) fields)
