-- How the code judges the rows: pair by pair, as sets of levels. It comes to the same as `Levels`, for less work. Only the contracts of private
-- functions cite this file; no public promise rests on it.
use Rattle.std.specs.Prelude.{ℕ, ◌<◌, ◌≡◌, ◌≢◌, Bool, not, ◌&&◌, ◌||◌, List, Option, MatchOption, ltb, eqb}
use Rattle.std.specs.Bool.{beq}
use Rattle.std.specs.Int.Bits.{bit_and}
use Rattle.basis.specs.Tests.{all, some}
use Rattle.levels.specs.Levels.{count, row_at, below}

module _ (s : List ℕ) where
  -- the levels above both i and j
  abbrev pub above_both : ℕ → ℕ → ℕ
  above_both i j = bit_and (row_at s i) (row_at s j)

  -- some level has this row
  unfoldable pub is_row : ℕ → Bool
  is_row row = some (count s) (λ k. eqb (row_at s k) row)

  -- a level that has this row, or none if no level has it
  abbrev pub WithRow : ℕ → Option ℕ → Type 0
  WithRow row r = MatchOption r ((k : ℕ) → k < count s → row_at s k ≢ row) (λ k. (k < count s) × (row_at s k ≡ row))

  -- i lies at or below j exactly if row j lies within row i; levels with one row are one; some level's row is the intersection of both, asked
  -- only where j is not the lower number
  unfoldable pub pair_right : ℕ → ℕ → Bool
  pair_right i j =
      beq (below s i j) (eqb (above_both i j) (row_at s j)) && (not (eqb (row_at s i) (row_at s j)) || eqb i j) && (ltb j i || is_row (above_both i j))

  -- level i makes a right pair with each level
  unfoldable pub level_right : ℕ → Bool
  level_right i = all (count s) (pair_right i)
