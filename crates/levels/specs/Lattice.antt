-- The levels as operations with laws, for what is proved about runs. The operations take any number, so that
-- the laws of the order need no range.
use Rattle.std.specs.Prelude.{ℕ, ◌<◌, ◌≡◌, Bool, true, cond, List, ltb}
use Rattle.basis.specs.Tests.{all, some, which}
use Rattle.levels.specs.Levels.{count, below, reflexive, antisymmetric, transitive, is_join, joins, is_meet, meets, no_bit_past, right}
use Rattle.levels.specs.Levels.{join_of, meet_of, lowest_of, highest_of}

-- levels are the numbers below `levels`
pub record Lattice : Type 0 where
  pub levels : ℕ
  pub le : ℕ → ℕ → Bool
  pub join : ℕ → ℕ → ℕ
  pub meet : ℕ → ℕ → ℕ
  pub bot : ℕ
  pub top : ℕ

-- a partial order in which every two levels have a least upper bound and a greatest lower bound, with a lowest and a highest level
pub record Laws (𝓛 : Lattice) : Type 0 where
  pub le_refl : (a : ℕ) → 𝓛.le a a ≡ true
  pub le_trans : {a b c : ℕ} → 𝓛.le a b ≡ true → 𝓛.le b c ≡ true → 𝓛.le a c ≡ true
  pub le_antisym : {a b : ℕ} → a < 𝓛.levels → b < 𝓛.levels → 𝓛.le a b ≡ true → 𝓛.le b a ≡ true → a ≡ b
  pub join_in : (a b : ℕ) → 𝓛.join a b < 𝓛.levels
  pub join_upper_left : (a b : ℕ) → 𝓛.le a (𝓛.join a b) ≡ true
  pub join_upper_right : (a b : ℕ) → 𝓛.le b (𝓛.join a b) ≡ true
  pub join-least : {a b c : ℕ} → 𝓛.le a c ≡ true → 𝓛.le b c ≡ true → 𝓛.le (𝓛.join a b) c ≡ true
  pub meet_in : (a b : ℕ) → 𝓛.meet a b < 𝓛.levels
  pub meet-lower-left : (a b : ℕ) → 𝓛.le (𝓛.meet a b) a ≡ true
  pub meet-lower-right : (a b : ℕ) → 𝓛.le (𝓛.meet a b) b ≡ true
  pub meet-greatest : {a b c : ℕ} → 𝓛.le c a ≡ true → 𝓛.le c b ≡ true → 𝓛.le c (𝓛.meet a b) ≡ true
  pub bot_in : 𝓛.bot < 𝓛.levels
  pub bot-least : (a : ℕ) → 𝓛.le 𝓛.bot a ≡ true
  pub top_in : 𝓛.top < 𝓛.levels
  pub top-greatest : (a : ℕ) → 𝓛.le a 𝓛.top ≡ true

module _ (s : List ℕ) where
  -- a number that is no level counts as level 0
  unfoldable pub level : ℕ → ℕ
  level a = cond (ltb a (count s)) a 0

  unfoldable pub lattice : Lattice
  lattice = record {
    levels = count s;
    le = λ a b. below s (level a) (level b);
    join = λ a b. join_of s (level a) (level b);
    meet = λ a b. meet_of s (level a) (level b);
    bot = lowest_of s;
    top = highest_of s;
  }

-- one name that opens all of these, so that worked examples compute
unfoldable pub ordering : Unit {0}
unfolding all some which below reflexive antisymmetric transitive is_join joins is_meet meets no_bit_past right
    join_of meet_of lowest_of highest_of level lattice
ordering = tt
