-- The levels of a sheet, in document 01's words and order: what its rows say, when they are right, and the join, the meet, the lowest and the
-- highest level. `s` is the levels section, its entries without the count. All of it computes.
use Rattle.std.specs.Prelude.{ℕ, ◌*◌, ◌/◌, ◌%◌, ◌^◌, Bool, ◌&&◌, List, length, ltb, leb, eqb}
use Rattle.basis.specs.Bytes.{word_at}
use Rattle.basis.specs.Tests.{◌⇒◌, all, some, which}

-- bit j of r is set
abbrev pub bit : ℕ → ℕ → Bool
bit r j = eqb (r / 2 ^ j % 2) 1

module _ (s : List ℕ) where
  -- an entry, a row, is 2 bytes; a byte left over is no row
  abbrev pub count : ℕ
  count = length s / 2

  abbrev pub row_at : ℕ → ℕ
  row_at i = word_at s (i * 2)

  -- bit j of row i is set when level i lies at or below level j
  unfoldable pub below : ℕ → ℕ → Bool
  below i j = bit (row_at i) j

  -- The rows must be a partial order ..
  unfoldable pub reflexive : Bool
  reflexive = all count (λ i. below i i)

  unfoldable pub antisymmetric : Bool
  antisymmetric = all count (λ i. all count (λ j. below i j && below j i ⇒ eqb i j))

  unfoldable pub transitive : Bool
  transitive = all count (λ i. all count (λ j. all count (λ k. below i j && below j k ⇒ below i k)))

  -- .. in which every two levels have a least upper bound (join) ..
  unfoldable pub is_join : ℕ → ℕ → ℕ → Bool
  is_join i j k = below i k && below j k && all count (λ l. below i l && below j l ⇒ below k l)

  unfoldable pub joins : Bool
  joins = all count (λ i. all count (λ j. some count (is_join i j)))

  -- .. and a greatest lower bound (meet);
  unfoldable pub is_meet : ℕ → ℕ → ℕ → Bool
  is_meet i j k = below k i && below k j && all count (λ l. below l i && below l j ⇒ below l k)

  unfoldable pub meets : Bool
  meets = all count (λ i. all count (λ j. some count (is_meet i j)))

  -- no bit at or past the count: then the row is less than 2 ^ count.
  unfoldable pub no_bit_past : Bool
  no_bit_past = all count (λ i. ltb (row_at i) (2 ^ count))

  -- Levels, 1 to 16, as above: number 3 if not.
  unfoldable pub right : Bool
  right = ltb 0 count && leb count 16 && reflexive && antisymmetric && transitive && joins && meets && no_bit_past

  -- the least upper bound (join) and the greatest lower bound (meet) of two levels
  unfoldable pub join_of : ℕ → ℕ → ℕ
  join_of i j = which count (is_join i j)

  unfoldable pub meet_of : ℕ → ℕ → ℕ
  meet_of i j = which count (is_meet i j)

  -- BOT is the lowest level, TOP the highest.
  unfoldable pub lowest_of : ℕ
  lowest_of = which count (λ i. all count (λ j. below i j))

  unfoldable pub highest_of : ℕ
  highest_of = which count (λ i. all count (λ j. below j i))
