-- Where a climb ends.
use Rattle.std.specs.Prelude.{ℕ, ◌<◌, ◌≡◌, Bool, true, List}
use Rattle.levels.specs.Levels.{count, below}

-- m passes, and lies at or above the first level and all that may pass
pub record IsSummit (s : List ℕ) (from : ℕ) (Answers : ℕ → Bool → Type 0) (m : ℕ) : Type 0 where
  pub level : m < count s
  pub above_first : below s from m ≡ true
  pub passes : (b : Bool) → Answers m b → b ≡ true
  pub above_each : (k : ℕ) → k < count s → Answers k true → below s k m ≡ true
