-- Right rows give the levels all laws of a lattice, antisymmetry included, as theorems about runs take them; and at levels, its operations are
-- those that the functions' contracts name.
use Prim.Native.Nat.{ℕ, ◌<◌}
use mathlib.Core.Path.{◌≡◌}
use mathlib.Core.Bool.{true}
use mathlib.Core.List.{List}
use lib.Dec.{ltb}
use borrow.Author.Tests.{ltb-true, lt-ltb}
use Rattle.basis.proofs.Tests.{split}
use Rattle.levels.specs.Levels.{count, below, right, join_of, meet_of}
use Rattle.levels.specs.Lattice.{Laws, level, lattice}
use Rattle.levels.proofs.Order.{turned, IsJoin}
use Rattle.levels.proofs.Facts.{facts}
use Rattle.levels.proofs.Bounds.{join_is, meet-is, lowest_is, highest_is}

module _ (s : List ℕ) where
  -- a level stands for itself
  pub level_id : (a : ℕ) → a < count s → level s a ≡ a
  unfolding level
  level_id a h = simp (lt-ltb _ _ h)

  module _ (h : right s ≡ true) where
    pub level_in : (a : ℕ) → level s a < count s
    unfolding level
    level_in a = split (ltb a (count s)) (λ e. simp e (ltb-true a (count s) e)) (λ e. simp e (facts s h).up.some_level)

    joined : (a b : ℕ) → IsJoin (count s) (below s) (level s a) (level s b) (join_of s (level s a) (level s b))
    joined a b = join_is s h _ _ (level_in a) (level_in b)

    met : (a b : ℕ) → IsJoin (count s) (turned (below s)) (level s a) (level s b) (meet_of s (level s a) (level s b))
    met a b = meet-is s h _ _ (level_in a) (level_in b)

    pub laws : Laws (lattice s)
    unfolding lattice
    laws = let o = (facts s h).up in record {
      le_refl = λ a. o.itself _ (level_in a);
      le_trans = λ {a} {b} {c}. o.through _ _ _ (level_in a) (level_in b) (level_in c);
      le_antisym = λ {a} {b} i j. rw (level_id a i, level_id b j) (o.one a b i j);
      join_in = λ a b. (joined a b).level;
      join_upper_left = λ a b. rw (level_id _ (joined a b).level) (joined a b).left;
      join_upper_right = λ a b. rw (level_id _ (joined a b).level) (joined a b).right;
      join-least = λ {a} {b} {c}. rw (level_id _ (joined a b).level) ((joined a b).least (level s c) (level_in c));
      meet_in = λ a b. (met a b).level;
      meet-lower-left = λ a b. rw (level_id _ (met a b).level) (met a b).left;
      meet-lower-right = λ a b. rw (level_id _ (met a b).level) (met a b).right;
      meet-greatest = λ {a} {b} {c}. rw (level_id _ (met a b).level) ((met a b).least (level s c) (level_in c));
      bot_in = (lowest_is s h).level;
      bot-least = λ a. rw (level_id _ (lowest_is s h).level) ((lowest_is s h).upper _ (level_in a));
      top_in = (highest_is s h).level;
      top-greatest = λ a. rw (level_id _ (highest_is s h).level) ((highest_is s h).upper _ (level_in a));
    }

  -- at levels, the operations are what the functions' contracts name
  module _ (i j : ℕ) (a : i < count s) (b : j < count s) where
    pub le-at : (lattice s).le i j ≡ below s i j
    unfolding lattice
    le-at = rw (level_id i a, level_id j b)

    pub join-at : (lattice s).join i j ≡ join_of s i j
    unfolding lattice
    join-at = rw (level_id i a, level_id j b)

    pub meet-at : (lattice s).meet i j ≡ meet_of s i j
    unfolding lattice
    meet-at = rw (level_id i a, level_id j b)
