-- Judging the rows pair by pair comes to the same as `right`: right rows pass, and what passes is right. In what passes, level i lies at or below
-- level j exactly if row j lies within row i, so the order is that of sets.
use Prim.Native.Nat.{ℕ, ◌-◌, ◌^◌, ◌<◌, ◌≤◌}
use native.Mathlib.Omega.{arith}
use native.Mathlib.Decide.{dec_le}
use mathlib.Core.Path.{◌≡◌, refl, sym, ◌∙◌}
use mathlib.Core.Bool.{Bool, true, false, beq, true≢false, or-true}
use mathlib.Core.List.{List}
use borrow.Author.Tests.{eqb-true, eq-eqb, le-ltb}
use lib.Dec.{eqb, ltb}
use lib.Bits.{and_self, and_comm, and_le_l}
use lib.Pow.{ones_lt}
use Rattle.basis.proofs.Tests.{both, and_of_lem, split, all-at, all_of, iff}
use Rattle.levels.specs.Levels.{count, row_at, below, right}
use Rattle.levels.specs.Inside.Judging.{above_both, is_row, pair_right, level_right}
use Rattle.levels.proofs.Sets.{same_bits, bit_full}
use Rattle.levels.proofs.Order.{Order, IsJoin, has_join, turn, meets}
use Rattle.levels.proofs.Facts.{Right, facts, passes}
use Rattle.levels.proofs.Bounds.{join_is, lowest_is}
use Rattle.levels.proofs.Rows.{above_both_lem, above_each, is_row_lem, row_at_lem, row_one, row_of_join, join_row, lowest_row}

-- two tests that agree
beq_true : (a b : Bool) → beq a b ≡ true → a ≡ b
beq_true true true h = refl
beq_true true false h = absurd (true≢false (sym h))
beq_true false true h = absurd (true≢false (sym h))
beq_true false false h = refl

beq_of : (a b : Bool) → a ≡ b → beq a b ≡ true
beq_of true b e = rw (sym e)
beq_of false b e = rw (sym e)

module _ (s : List ℕ) where
  -- ── right rows pass ───────────────────────────────────────────────────────────────────────

  module _ (h : right s ≡ true) where
    -- i lies at or below j exactly if row j lies within row i
    inside : (i j : ℕ) → i < count s → j < count s → below s i j ≡ eqb (above_both s i j) (row_at s j)
    unfolding below
    inside i j a b =
        let itself = (facts s h).up.itself j b in
        iff (below s i j) _
        (λ p. eq-eqb _ _ (sym (row_of_join s h i j j a b (record { level = b; left = p; right = itself; least = λ l m x y. y }))))
        (λ p. (above_each s i j j (same_bits (eqb-true _ _ p) j ∙ itself)).0)

    pair_right_lem : (i j : ℕ) → i < count s → j < count s → pair_right s i j ≡ true
    unfolding pair_right
    pair_right_lem i j a b =
        and_of_lem (and_of_lem (beq_of _ _ (inside i j a b))
        (split (eqb (row_at s i) (row_at s j)) (λ e. rw e (eq-eqb i j (row_one s h i j a b (eqb-true _ _ e)))) (λ e. rw e)))
        (rw (is_row_lem s _ _ (join_is s h i j a b).level (join_row s h i j a b)) (or-true (ltb j i)))

    pub level-right : (i : ℕ) → i < count s → level_right s i ≡ true
    unfolding level_right
    level-right i a = all_of (count s) _ (λ j. pair_right_lem i j a)

  -- ── what passes is right ──────────────────────────────────────────────────────────────────

  record Pair (i j : ℕ) : Type 0 where
    inside : below s i j ≡ eqb (above_both s i j) (row_at s j)
    one : row_at s i ≡ row_at s j → i ≡ j
    join : i ≤ j → is_row s (above_both s i j) ≡ true

  pair_is : (i j : ℕ) → pair_right s i j ≡ true → Pair i j
  unfolding pair_right
  pair_is i j h =
      let (ordered, join) = both _ _ h in
      let (inside, one) = both _ _ ordered in
      record { inside = beq_true _ _ inside; one = λ e. eqb-true i j (rw (eq-eqb _ _ e) at one); join = λ l. rw (le-ltb j i l) at join }

  module _ (pair : (i j : ℕ) → i < count s → j < count s → Pair i j) where
    itself : (i : ℕ) → i < count s → below s i i ≡ true
    itself i a = (pair i i a a).inside ∙ eq-eqb _ _ (and_self (row_at s i))

    within : (i j : ℕ) → i < count s → j < count s → below s i j ≡ true → above_both s i j ≡ row_at s j
    within i j a b h = eqb-true _ _ (sym (pair i j a b).inside ∙ h)

    joined : (i j k : ℕ) → k < count s → row_at s k ≡ above_both s i j → IsJoin (count s) (below s) i j k
    unfolding below
    joined i j k d e =
        let (left, right) = above_each s i j k (same_bits (sym e) k ∙ itself k d) in
        record { level = d; left = left; right = right; least = λ l m p q. same_bits e l ∙ above_both_lem s i j l ∙ and_of_lem p q }

    -- a pair has its join in either order
    join : (i j : ℕ) → i < count s → j < count s → is_row s (above_both s i j) ≡ true
    join i j a b = go (dec_le i j)
      where
        go : Dec (i ≤ j) → is_row s (above_both s i j) ≡ true
        go (yes l) = (pair i j a b).join l
        go (no l) = rw (and_comm (row_at s i) (row_at s j)) ((pair j i b a).join (omega (arith, l)))

    order : 0 < count s → Order (count s) (below s)
    unfolding below
    order some_level = record {
      some_level = some_level;
      itself = itself;
      one = λ i j a b p q. (pair i j a b).one (sym (within j i b a q) ∙ and_comm (row_at s j) (row_at s i) ∙ within i j a b p);
      through = λ i j k a b d p q. (above_each s i j k (same_bits (within i j a b p) k ∙ q)).0;
      joins = λ i j a b. let (k, d, e) = row_at_lem s _ (join i j a b) in has_join (count s) (below s) i j k (joined i j k d e);
    }

  -- if every level makes right pairs, the rows are right exactly if some row has every level
  module _ (some_level : 0 < count s) (few : count s ≤ 16) (levels : (i : ℕ) → i < count s → level_right s i ≡ true) where
    all_right : is_row s (2 ^ count s - 1) ≡ true → Right s
    unfolding level_right below
    all_right h =
        let pair : (i j : ℕ) → i < count s → j < count s → Pair i j = λ i j a b. pair_is i j (all-at _ _ (levels i a) j b) in
        let up = order pair some_level in
        let (low, d, full) = row_at_lem s _ h in
        let lowest : (i : ℕ) → i < count s → below s low i ≡ true = λ i a. same_bits full i ∙ bit_full (count s) i a in
        record {
          few = few;
          up = up;
          down = turn _ (below s) up (meets _ _ up low (record { level = d; upper = lowest }));
          within = λ i a. omega (arith, within pair low i d a (lowest i a), and_le_l (row_at s low) (row_at s i), full, ones_lt (count s));
        }

    pub judged : is_row s (2 ^ count s - 1) ≡ right s
    judged = iff _ _ (λ h. passes s (all_right h)) (λ h. is_row_lem s _ _ (lowest_is s h).level (lowest_row s h))
