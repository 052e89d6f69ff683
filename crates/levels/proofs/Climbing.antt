-- The climb to a summit: what is found before k lies at or below the summit, and is the summit once that is passed.
use Prim.Native.Nat.{ℕ, ◌+◌, ◌<◌}
use native.Mathlib.Omega.{arith}
use native.Mathlib.Decide.{ℕ_discrete}
use mathlib.Core.Path.{◌≡◌, sym, subst, ◌∙◌}
use mathlib.Core.Bool.{Bool, true, false, ◌&&◌, true≢false}
use mathlib.Core.List.{List}
use Rattle.basis.proofs.Tests.{both, and_of_lem}
use Rattle.levels.specs.Levels.{count, below, right, meet_of, lowest_of, highest_of}
use Rattle.levels.specs.Inside.Climbing.{IsSummit}
use Rattle.levels.proofs.Facts.{facts}
use Rattle.levels.proofs.Bounds.{meet-is, lowest_is, highest_is}

-- what is known of the level found before k, if m is the summit
pub record Found (s : List ℕ) (m k found : ℕ) : Type 0 where
  pub under : below s found m ≡ true
  pub passed : m < k → found ≡ m

module _ (s : List ℕ) (h : right s ≡ true) (from : ℕ) (Answers : ℕ → Bool → Type 0) (m : ℕ) (g : IsSummit s from Answers m) (k found : ℕ) (f : Found s m k found) where
  -- k passes and lies above the one found
  pub goes_up : k < count s → below s found k ≡ true → Answers k true → Found s m (k + 1) k
  goes_up d up e = let under = g.above_each k d e in record {
    under = under;
    passed = λ p. elim (ℕ_discrete k m) [ yes q ↦ q | no q ↦ (facts s h).up.one k m d g.level under (rw (f.passed (omega arith)) at up) ];
  }

  stays : (k ≡ m → ⊥) → Found s m (k + 1) found
  stays other = record { under = f.under; passed = λ p. elim (ℕ_discrete k m) [ yes q ↦ absurd (other q) | no q ↦ f.passed (omega arith) ] }

  -- k does not lie above the one found
  pub stays-beside : below s found k ≡ false → Found s m (k + 1) found
  stays-beside e = stays (λ q. true≢false (sym f.under ∙ rw q at e))

  -- k does not pass
  pub stays-unpassed : Answers k false → Found s m (k + 1) found
  stays-unpassed e = stays (λ q. true≢false (sym (g.passes false (subst (λ i. Answers i false) q e))))

module _ (s : List ℕ) (h : right s ≡ true) (Answers : ℕ → Bool → Type 0) where
  -- every level passes
  pub highest-summit : ((k : ℕ) (b : Bool) → Answers k b → b ≡ true) → IsSummit s 0 Answers (highest_of s)
  highest-summit passes = let g = highest_is s h in record {
    level = g.level;
    above_first = g.upper 0 (facts s h).up.some_level;
    passes = passes (highest_of s);
    above_each = λ k d e. g.upper k d;
  }

  -- the levels at or below both pass
  pub meet-summit : (i j : ℕ) → i < count s → j < count s
      → ((k : ℕ) (b : Bool) → Answers k b → b ≡ (below s k i && below s k j)) → IsSummit s (lowest_of s) Answers (meet_of s i j)
  meet-summit i j a b passes = let g = meet-is s h i j a b in record {
    level = g.level;
    above_first = (lowest_is s h).upper _ g.level;
    passes = λ t e. passes _ t e ∙ and_of_lem g.left g.right;
    above_each = λ k d e. let (x, y) = both _ _ (sym (passes k true e)) in g.least k d x y;
  }
