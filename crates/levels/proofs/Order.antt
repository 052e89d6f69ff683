-- A partial order R on the numbers below n in which every two have a join: each join is the only one, there is one highest number, and if there
-- is a lowest, every two have a meet. Turned round, the same laws speak of meets and of the lowest number, so each stands once.
use Prim.Native.Nat.{ℕ, zero, suc, ◌<◌, ◌≤◌}
use native.Mathlib.Omega.{arith}
use native.Mathlib.Decide.{ℕ_discrete}
use mathlib.Core.Path.{◌≡◌, refl, sym, ◌∙◌}
use mathlib.Core.Bool.{Bool, true, false, ◌&&◌, true≢false}
use Rattle.basis.specs.Tests.{◌⇒◌, all, some, which}
use Rattle.basis.proofs.Tests.{both, and_of_lem, apply_both, implies_both, split, all-at, all_of, which-at, some_of}

abbrev pub turned : (ℕ → ℕ → Bool) → ℕ → ℕ → Bool
turned R i j = R j i

module _ (n : ℕ) (R : ℕ → ℕ → Bool) where
  -- k is the join of i and j, as a test and as facts
  abbrev pub is_join : ℕ → ℕ → ℕ → Bool
  is_join i j k = R i k && R j k && all n (λ l. R i l && R j l ⇒ R k l)

  pub record IsJoin (i j k : ℕ) : Type 0 where
    pub level : k < n
    pub left : R i k ≡ true
    pub right : R j k ≡ true
    pub least : (l : ℕ) → l < n → R i l ≡ true → R j l ≡ true → R k l ≡ true

  pub record IsHighest (k : ℕ) : Type 0 where
    pub level : k < n
    pub upper : (i : ℕ) → i < n → R i k ≡ true

  pub record Order : Type 0 where
    pub some_level : 0 < n
    pub itself : (i : ℕ) → i < n → R i i ≡ true
    pub one : (i j : ℕ) → i < n → j < n → R i j ≡ true → R j i ≡ true → i ≡ j
    pub through : (i j k : ℕ) → i < n → j < n → k < n → R i j ≡ true → R j k ≡ true → R i k ≡ true
    pub joins : (i j : ℕ) → i < n → j < n → some n (is_join i j) ≡ true

  pub join_facts : (i j k : ℕ) → k < n → is_join i j k ≡ true → IsJoin i j k
  join_facts i j k d h =
      let (upper, least) = both (R i k && R j k) _ h in
      let (left, right) = both (R i k) (R j k) upper in
      record { level = d; left = left; right = right; least = λ l m. apply_both _ _ _ (all-at n _ least l m) }

  pub has_join : (i j k : ℕ) → IsJoin i j k → some n (is_join i j) ≡ true
  has_join i j k g =
      some_of n (is_join i j) k g.level (and_of_lem (and_of_lem g.left g.right) (all_of n _ (λ l m. implies_both _ _ _ (g.least l m))))

module _ (n : ℕ) (R : ℕ → ℕ → Bool) (o : Order n R) where
  pub turn : ((i j : ℕ) → i < n → j < n → some n (is_join n (turned R) i j) ≡ true) → Order n (turned R)
  turn meets = record {
    some_level = o.some_level;
    itself = o.itself;
    one = λ i j a b p q. o.one i j a b q p;
    through = λ i j k a b d p q. o.through k j i d b a q p;
    joins = meets;
  }

  -- ── the join of two ───────────────────────────────────────────────────────────────────────

  module _ (i j : ℕ) (a : i < n) (b : j < n) where
    pub join_is : IsJoin n R i j (which n (is_join n R i j))
    join_is = let w = which-at n _ (o.joins i j a b) in join_facts n R i j _ w.0 w.1

    pub join_only : (k : ℕ) → IsJoin n R i j k → k ≡ which n (is_join n R i j)
    join_only k g =
        let h = join_is in
        o.one k _ g.level h.level (g.least _ h.level h.left h.right) (h.least k g.level g.left g.right)

  -- ── the join of many ──────────────────────────────────────────────────────────────────────

  -- the join of those that pass, as far as the numbers below m go
  record Gathered (P : ℕ → Bool) (m : ℕ) : Type 0 where
    at : ℕ
    level : at < n
    upper : (i : ℕ) → i < m → P i ≡ true → R i at ≡ true
    least : (l : ℕ) → l < n → ((i : ℕ) → i < n → P i ≡ true → R i l ≡ true) → R at l ≡ true

  module _ (P : ℕ → Bool) (first : ℕ) (inside : first < n) (passes : P first ≡ true) where
    gather : (m : ℕ) → m ≤ n → Gathered P m
    gather zero h = record { at = first; level = inside; upper = λ i k. absurd (omega arith); least = λ l b f. f first inside passes }
    gather (suc m) h = split (P m) (with_m (gather m (omega arith)) (omega arith)) (without_m (gather m (omega arith)))
      where
        with_m : Gathered P m → m < n → P m ≡ true → Gathered P (suc m)
        with_m w d e =
            let j = join_is w.at m w.level d in
            record {
              at = _;
              level = j.level;
              upper = λ i k p. elim (ℕ_discrete i m) [
                | yes q ↦ rw q j.right
                | no q ↦ o.through i w.at _ (omega arith) w.level j.level (w.upper i (omega arith) p) j.left
              ];
              least = λ l b f. j.least l b (w.least l b f) (f m d e);
            }

        without_m : Gathered P m → P m ≡ false → Gathered P (suc m)
        without_m w e = record {
          at = w.at;
          level = w.level;
          upper = λ i k p. elim (ℕ_discrete i m) [ yes q ↦ absurd (true≢false (sym p ∙ rw (sym q) at e)) | no q ↦ w.upper i (omega arith) p ];
          least = w.least;
        }

  -- ── the highest, and the meets ────────────────────────────────────────────────────────────

  has_highest : some n (λ k. all n (λ i. R i k)) ≡ true
  has_highest =
      let w = gather (λ i. true) 0 o.some_level refl n (omega arith) in
      some_of n _ w.at w.level (all_of n _ (λ i h. w.upper i h refl))

  pub highest_is : IsHighest n R (which n (λ k. all n (λ i. R i k)))
  highest_is = let w = which-at n _ has_highest in record { level = w.0; upper = all-at n _ w.1 }

  pub highest_only : (k : ℕ) → IsHighest n R k → k ≡ which n (λ k. all n (λ i. R i k))
  highest_only k g = let h = highest_is in o.one k _ g.level h.level (h.upper k g.level) (g.upper _ h.level)

  -- the meet of two is the join of what lies below both
  pub meets : (low : ℕ) → IsHighest n (turned R) low → (i j : ℕ) → i < n → j < n → some n (is_join n (turned R) i j) ≡ true
  meets low g i j a b =
      let w = gather (λ l. R l i && R l j) low g.level (and_of_lem (g.upper i a) (g.upper j b)) n (omega arith) in
      has_join n (turned R) i j w.at (record {
        level = w.level;
        left = w.least i a (λ l k h. (both (R l i) (R l j) h).0);
        right = w.least j b (λ l k h. (both (R l i) (R l j) h).1);
        least = λ l k p q. w.upper l k (and_of_lem p q);
      })
