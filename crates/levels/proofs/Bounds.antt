-- The joins, the meets, the lowest and the highest level of right rows: what each is, and that it is the only one. The laws are those of `Order`,
-- cited for the order and for the order turned round.
use Prim.Native.Nat.{ℕ, ◌<◌}
use mathlib.Core.Path.{◌≡◌}
use mathlib.Core.Bool.{true}
use mathlib.Core.List.{List}
use Rattle.levels.specs.Levels.{count, below, right, is_join, is_meet, join_of, meet_of, lowest_of, highest_of}
use Rattle.levels.proofs.Order as order
use Rattle.levels.proofs.Order.{turned, IsJoin, IsHighest, join_facts}
use Rattle.levels.proofs.Facts.{facts}

module _ (s : List ℕ) (h : right s ≡ true) where
  module _ (i j : ℕ) (a : i < count s) (b : j < count s) where
    pub join_is : IsJoin (count s) (below s) i j (join_of s i j)
    unfolding join_of is_join
    join_is = order.join_is _ _ (facts s h).up i j a b

    -- any least upper bound is the join
    pub join_only : (k : ℕ) → k < count s → is_join s i j k ≡ true → k ≡ join_of s i j
    unfolding join_of is_join
    join_only k d t = order.join_only _ _ (facts s h).up i j a b k (join_facts _ (below s) i j k d t)

    pub meet-is : IsJoin (count s) (turned (below s)) i j (meet_of s i j)
    unfolding meet_of is_meet
    meet-is = order.join_is _ _ (facts s h).down i j a b

    -- any greatest lower bound is the meet
    pub meet_only : (k : ℕ) → k < count s → is_meet s i j k ≡ true → k ≡ meet_of s i j
    unfolding meet_of is_meet
    meet_only k d t = order.join_only _ _ (facts s h).down i j a b k (join_facts _ (turned (below s)) i j k d t)

  pub lowest_is : IsHighest (count s) (turned (below s)) (lowest_of s)
  unfolding lowest_of
  lowest_is = order.highest_is _ _ (facts s h).down

  -- any level at or below all is the lowest
  pub lowest_only : (k : ℕ) → k < count s → ((i : ℕ) → i < count s → below s k i ≡ true) → k ≡ lowest_of s
  unfolding lowest_of
  lowest_only k d f = order.highest_only _ _ (facts s h).down k (record { level = d; upper = f })

  pub highest_is : IsHighest (count s) (below s) (highest_of s)
  unfolding highest_of
  highest_is = order.highest_is _ _ (facts s h).up

  -- any level at or above all is the highest
  pub highest_only : (k : ℕ) → k < count s → ((i : ℕ) → i < count s → below s i k ≡ true) → k ≡ highest_of s
  unfolding highest_of
  highest_only k d f = order.highest_only _ _ (facts s h).up k (record { level = d; upper = f })
