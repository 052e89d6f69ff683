-- Rows as sets of levels: two levels with one row are one, the row of a join is the intersection of both rows, the lowest level's row has every
-- level; so a search for such a row finds that level.
use Prim.Native.Nat.{ℕ, ◌-◌, ◌^◌, ◌<◌}
use mathlib.Core.Path.{◌≡◌, ap, sym, ◌∙◌}
use mathlib.Core.Bool.{true, ◌&&◌, true≢false}
use mathlib.Core.List.{List}
use borrow.Author.Tests.{eqb-true, eq-eqb}
use lib.Bits.{and_lt}
use lib.Dec.{eqb}
use lib.Pow.{ones_lt}
use Rattle.std.specs.Prelude.{Option, Some, None, MatchOption, is_some}
use Rattle.basis.specs.Tests.{first}
use Rattle.basis.proofs.Tests.{both, and_of_lem, is_false, which-at, some_of, iff, none_first, first-at}
use Rattle.levels.specs.Levels.{bit, count, row_at, below, right, join_of, lowest_of}
use Rattle.levels.specs.Inside.Judging.{above_both, is_row, WithRow}
use Rattle.levels.proofs.Sets.{bit_and_lem, bit_ext, bit_full}
use Rattle.levels.proofs.Order.{IsJoin}
use Rattle.levels.proofs.Facts.{facts}
use Rattle.levels.proofs.Bounds.{join_is, lowest_is}

module _ (s : List ℕ) where
  -- what lies above both i and j
  pub above_both_lem : (i j l : ℕ) → bit (above_both s i j) l ≡ (below s i l && below s j l)
  unfolding below
  above_both_lem i j l = bit_and_lem (row_at s i) (row_at s j) l

  pub above_each : (i j l : ℕ) → bit (above_both s i j) l ≡ true → (below s i l ≡ true) × (below s j l ≡ true)
  above_each i j l h = both (below s i l) (below s j l) (sym (above_both_lem i j l) ∙ h)

  -- some level has this row, both ways
  pub is_row_lem : (k row : ℕ) → k < count s → row_at s k ≡ row → is_row s row ≡ true
  unfolding is_row
  is_row_lem k row d e = some_of (count s) _ k d (eq-eqb _ _ e)

  pub row_at_lem : (row : ℕ) → is_row s row ≡ true → (k : ℕ) × (k < count s) × (row_at s k ≡ row)
  unfolding is_row
  row_at_lem row h = let w = which-at (count s) _ h in (_, w.0, eqb-true _ _ w.1)

  -- what a search of the numbers below the count found
  pub found_row : (row : ℕ) (r : Option ℕ)
      → let at = first (count s) (λ k. eqb (row_at s k) row) in MatchOption r (at ≡ count s) (λ k. (at ≡ k) × (k < count s))
      → WithRow s row r
  found_row row None h = λ k d e. true≢false (sym (eq-eqb _ _ e) ∙ none_first _ _ h k d)
  found_row row (Some k) h = (h.1, eqb-true _ _ (first-at _ _ k h.0 h.1))

  pub is_some_row : (row : ℕ) (r : Option ℕ) → WithRow s row r → is_some r ≡ is_row s row
  is_some_row row None w = sym (is_false _ (λ h. let (k, d, e) = row_at_lem row h in w k d e))
  is_some_row row (Some k) w = sym (is_row_lem k row w.0 w.1)

  module _ (h : right s ≡ true) where
    -- levels with one row are one
    pub row_one : (i j : ℕ) → i < count s → j < count s → row_at s i ≡ row_at s j → i ≡ j
    unfolding below
    row_one i j a b e = let o = (facts s h).up in o.one i j a b (rw e (o.itself j b)) (rw (sym e) (o.itself i a))

    -- a row is the set of the levels at or above its own
    row_is : (k row : ℕ) → k < count s → row < 2 ^ count s → ((l : ℕ) → l < count s → below s k l ≡ bit row l) → row_at s k ≡ row
    unfolding below
    row_is k row d = bit_ext (count s) (row_at s k) row ((facts s h).within k d)

    -- the row of a join is the intersection of both rows
    pub row_of_join : (i j k : ℕ) → i < count s → j < count s → IsJoin (count s) (below s) i j k → row_at s k ≡ above_both s i j
    row_of_join i j k a b g =
        let r = facts s h in
        row_is k _ g.level (and_lt (count s) (row_at s i) (row_at s j) (r.within i a) (r.within j b)) (λ l m.
        iff (below s k l) (below s i l && below s j l)
        (λ p. and_of_lem (r.up.through i k l a g.level m g.left p) (r.up.through j k l b g.level m g.right p))
        (λ p. let (x, y) = both _ _ p in g.least l m x y)
        ∙ sym (above_both_lem i j l))

    pub join_row : (i j : ℕ) → i < count s → j < count s → row_at s (join_of s i j) ≡ above_both s i j
    join_row i j a b = row_of_join i j _ a b (join_is s h i j a b)

    -- the lowest level's row has every level
    pub lowest_row : row_at s (lowest_of s) ≡ 2 ^ count s - 1
    lowest_row =
        let low = lowest_is s h in
        row_is _ _ low.level (ones_lt (count s)) (λ l m. low.upper l m ∙ sym (bit_full (count s) l m))

    -- a search for the row of level k finds k
    found : (row : ℕ) (r : Option ℕ) (k : ℕ) → WithRow s row r → k < count s → row_at s k ≡ row → r ≡ Some k
    found row None k w d e = absurd (w k d e)
    found row (Some j) k w d e = ap Some (row_one j k w.0 d (w.1 ∙ sym e))

    pub join-found : (i j : ℕ) {r : Option ℕ} → i < count s → j < count s → WithRow s (above_both s i j) r → r ≡ Some (join_of s i j)
    join-found i j a b w = found _ _ _ w (join_is s h i j a b).level (join_row i j a b)

    pub lowest-found : {r : Option ℕ} → WithRow s (2 ^ count s - 1) r → r ≡ Some (lowest_of s)
    lowest-found w = found _ _ _ w (lowest_is s h).level lowest_row
