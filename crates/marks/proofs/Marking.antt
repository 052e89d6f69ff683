-- Marks that are levels, by their numbers: joins, and what an assignment leaves.
use Prim.Native.Nat.{ℕ, ◌<◌}
use native.Mathlib.Omega.{arith}
use mathlib.Core.Path.{◌≡◌, refl, sym, ap, ◌∙◌}
use mathlib.Core.Bool.{true, false, cond, ◌||◌}
use mathlib.Core.List.{List}
use Rattle.levels.specs.Levels.{count, below, right, join_of, meet_of}
use Rattle.levels.specs.Lattice.{Lattice, lattice}
use Rattle.levels.proofs.Joins.{join_above, join_idem}
use Rattle.levels.proofs.Laws.{laws, le-at, join-at, meet-at}
use Rattle.levels.proofs.Facts.{facts}
use Rattle.store.specs.declared.Mode.{Mode}
use Rattle.store.specs.declared.Mode.TheVariants.{Strict, Permissive}
use Rattle.store.specs.Marks.{Mark, whole, partial, level_of, is_partial, mark_of, mark_known}
use Rattle.store.proofs.Marks.{mark-whole, known_is, known_of}
use Rattle.rules.specs.Ends.{not_below, Try, fine, fails}
use Rattle.rules.specs.LevelMarks.{joined, stored}

-- a known mark joined with itself is itself
mark_idem : (rows : List ℕ) → right rows ≡ true → (m : Mark) → level_of m < count rows → joined (lattice rows) m m ≡ m
unfolding joined lattice
mark_idem rows h (whole a) level = ap whole (join_idem (lattice rows) (laws rows h) a level)
mark_idem rows h (partial a) level = ap partial (join_idem (lattice rows) (laws rows h) a level)

pub joined_same : (rows : List ℕ) (byte : ℕ) → right rows ≡ true → mark_known (count rows) byte ≡ true → mark_of byte ≡ joined (lattice rows) (mark_of byte) (mark_of byte)
joined_same rows byte h known = sym (mark_idem rows h (mark_of byte) (known_is _ byte known).1)

-- joined with a level at or below its own, it is itself
mark_above : (rows : List ℕ) → right rows ≡ true → (m : Mark) (context : ℕ) → level_of m < count rows → (lattice rows).le context (level_of m) ≡ true → joined (lattice rows) m (whole context) ≡ m
unfolding joined lattice
mark_above rows h (whole a) context level below = ap whole (join_above (lattice rows) (laws rows h) a context level below)
mark_above rows h (partial a) context level below = ap partial (join_above (lattice rows) (laws rows h) a context level below)

pub joined_above : (rows : List ℕ) (byte context : ℕ) → right rows ≡ true → mark_known (count rows) byte ≡ true → (lattice rows).le context (level_of (mark_of byte)) ≡ true
    → mark_of byte ≡ joined (lattice rows) (mark_of byte) (whole context)
joined_above rows byte context h known below = sym (mark_above rows h (mark_of byte) context (known_is _ byte known).1 below)

-- the join of two marks, by their levels
joined_is : (𝓛 : Lattice) (a b : Mark)
    → joined 𝓛 a b ≡ cond (is_partial a || is_partial b) (partial (𝓛.join (level_of a) (level_of b))) (whole (𝓛.join (level_of a) (level_of b)))
unfolding joined
joined_is 𝓛 (whole a) (whole b) = refl
joined_is 𝓛 (whole a) (partial b) = refl
joined_is 𝓛 (partial a) (whole b) = refl
joined_is 𝓛 (partial a) (partial b) = refl

module _ (rows : List ℕ) (m k : ℕ) (known_m : mark_known (count rows) m ≡ true) (known_k : mark_known (count rows) k ≡ true) (level : ℕ)
    (is : level ≡ join_of rows (level_of (mark_of m)) (level_of (mark_of k))) where
  join-level : level ≡ (lattice rows).join (level_of (mark_of m)) (level_of (mark_of k))
  join-level = is ∙ sym (join-at rows _ _ (known_is _ m known_m).1 (known_is _ k known_k).1)

  pub joined-whole : (is_partial (mark_of m) || is_partial (mark_of k)) ≡ false → whole level ≡ joined (lattice rows) (mark_of m) (mark_of k)
  joined-whole h = ap whole join-level ∙ sym (joined_is (lattice rows) (mark_of m) (mark_of k) ∙ rw h)

  pub joined_partial : (is_partial (mark_of m) || is_partial (mark_of k)) ≡ true → partial level ≡ joined (lattice rows) (mark_of m) (mark_of k)
  joined_partial h = ap partial join-level ∙ sym (joined_is (lattice rows) (mark_of m) (mark_of k) ∙ rw h)

-- a level as a mark's number is whole
pub level-mark : (rows : List ℕ) → right rows ≡ true → (level : ℕ) → level < count rows → (mark_of level ≡ whole level) × (mark_known (count rows) level ≡ true) × (level < 16)
level-mark rows h level inside =
    let few = (facts rows h).few in
    let is = mark-whole level (omega arith) in
    (is, known_of _ level (omega arith) (rw is inside), omega arith)

-- ── what an assignment leaves ───────────────────────────────────────────────────────────────

-- on a field of level A
module _ (𝓛 : Lattice) (mode : Mode) (context A : ℕ) (m : Mark) where
  abbrev leaves : Try Mark
  leaves = stored 𝓛 mode (𝓛.le context A) context A m

  pub stored-below : 𝓛.le context A ≡ true → leaves ≡ fine (joined 𝓛 m (whole context))
  unfolding stored
  stored-below h = rw h

  pub stored-strict : 𝓛.le context A ≡ false → mode ≡ Strict → leaves ≡ fails not_below
  unfolding stored
  stored-strict h is = rw (h, is)

  pub stored_permissive : 𝓛.le context A ≡ false → mode ≡ Permissive → leaves ≡ fine (partial (𝓛.meet context A))
  unfolding stored
  stored_permissive h is = rw (h, is)

-- in a context that is a level, on a field with a known mark
module _ (rows : List ℕ) (context old : ℕ) (known_old : mark_known (count rows) old ≡ true) (level : context < count rows) where
  pub order-at : (lattice rows).le context (level_of (mark_of old)) ≡ below rows context (level_of (mark_of old))
  order-at = le-at rows _ _ level (known_is _ old known_old).1

  pub meet-level : (lattice rows).meet context (level_of (mark_of old)) ≡ meet_of rows context (level_of (mark_of old))
  meet-level = meet-at rows _ _ level (known_is _ old known_old).1
