-- The marks of document 01 are safe in either mode, for every reader that the highest level does not lie at or below; so two runs from stores that
-- agree for him, each done, end in stores that agree for him.
use Prim.Native.Nat.{ℕ}
use mathlib.Core.Path.{◌≡◌, refl, sym, ◌∙◌}
use mathlib.Core.Bool.{Bool, true, false, true≢false}
use mathlib.Core.Logic.{◌⊎◌, inl, inr}
use Rattle.basis.proofs.Tests.{split, is_false}
use Rattle.sheet.specs.Trees.{Cmd}
use Rattle.levels.specs.Lattice.{Lattice, Laws}
use Rattle.store.specs.Cells.{Cell, cell, Store}
use Rattle.rules.specs.Ends.{done}
use Rattle.rules.specs.Rules.{exec}
use Rattle.store.specs.declared.Mode.{Mode}
use Rattle.store.specs.declared.Mode.TheVariants.{Strict, Permissive}
use Rattle.store.specs.Marks.{Mark, whole, partial, level_of}
use Rattle.rules.specs.LevelMarks.{joined, entered, stored, marking}
use Rattle.rules.specs.Agreement.{Agree, shown, hidden, both_partial, first_partial, second_partial}
use Rattle.rules.proofs.Pairs.{Fines, fines, fails-first, fails-second}
use Rattle.rules.proofs.Moves.{Fine, good, bad, Moves}
use Rattle.rules.proofs.Noninterference as Noninterference
use Rattle.rules.proofs.Noninterference.{Safe, Alike, same, blind}

module _ (𝓛 : Lattice) (R : ℕ) where
  pub agree_refl : (c : Cell Mark) → Agree 𝓛 R c c
  agree_refl (cell v (partial A)) = both_partial
  agree_refl (cell v (whole A)) = split (𝓛.le A R) (λ e. shown e) (λ e. hidden e e)

module _ (𝓛 : Lattice) (𝓘 : Laws 𝓛) (R : ℕ) where
  no_below : {a b : ℕ} → 𝓛.le a b ≡ true → 𝓛.le a R ≡ false → 𝓛.le b R ≡ false
  no_below {a} {b} h k = is_false (𝓛.le b R) (λ e. true≢false (sym (𝓘.le_trans h e) ∙ k))

  join-le : {a b a' b' : ℕ} → 𝓛.le a b ≡ true → 𝓛.le a' b' ≡ true → 𝓛.le (𝓛.join a a') (𝓛.join b b') ≡ true
  join-le {b} {b'} h k = 𝓘.join-least (𝓘.le_trans h (𝓘.join_upper_left b b')) (𝓘.le_trans k (𝓘.join_upper_right b b'))

  -- ── blind marks: each is clear of the other ───────────────────────────────────────────────

  -- a partial mark is clear of any; a whole one if it is not at or below R, or if the other is partial at or below it
  data Clear : Mark → Mark → Type 0 where
    part : {m : Mark} {b : ℕ} → Clear m (partial b)
    above : {m : Mark} {b : ℕ} → 𝓛.le b R ≡ false → Clear m (whole b)
    under : {a b : ℕ} → 𝓛.le a b ≡ true → Clear (partial a) (whole b)

  abbrev Blind : Mark → Mark → Type 0
  Blind m n = Clear m n × Clear n m

  clear_both : (m n m' n' : Mark) → Clear m n → Clear m' n' → Clear (joined 𝓛 m m') (joined 𝓛 n n')
  unfolding joined
  clear_both m n m' (whole b') part k = part
  clear_both m n m' (partial b') part k = part
  clear_both m n m' (partial b') (above h) k = part
  clear_both m n m' (whole b') (above {b} h) k = above (no_below (𝓘.join_upper_left b b') h)
  clear_both m n m' n' (under h) part = part
  clear_both m n m' n' (under {b} h) (above {b = b'} k) = above (no_below (𝓘.join_upper_right b b') k)
  clear_both m n m' n' (under h) (under k) = under (join-le h k)

  clear_left : (m n k : Mark) → Clear m n → Clear (joined 𝓛 m k) (joined 𝓛 n k)
  unfolding joined
  clear_left m n (whole c) part = part
  clear_left m n (whole c) (above {b} h) = above (no_below (𝓘.join_upper_left b c) h)
  clear_left m n (whole c) (under h) = under (join-le h (𝓘.le_refl c))
  clear_left m n (partial c) h = clear_both m n (partial c) (partial c) h part

  clear_right : (m n k : Mark) → Clear m n → Clear (joined 𝓛 k m) (joined 𝓛 k n)
  unfolding joined
  clear_right m n (whole c) part = part
  clear_right m n (whole c) (above {b} h) = above (no_below (𝓘.join_upper_right c b) h)
  clear_right m n (whole c) (under h) = under (join-le (𝓘.le_refl c) h)
  clear_right m n (partial c) h = clear_both (partial c) (partial c) m n part h

  -- ── tests and assignments ─────────────────────────────────────────────────────────────────

  -- a context that the reader cannot know
  abbrev Secret : ℕ → Type 0
  Secret context = 𝓛.le context R ≡ false

  enter_blind : (context : ℕ) (m n : Mark) → Blind m n → Fines (λ a b. Secret a × Secret b) (entered 𝓛 context m) (entered 𝓛 context n)
  unfolding entered
  enter_blind context (whole a) (whole b) (above h, above k) = fines (no_below (𝓘.join_upper_right context a) k, no_below (𝓘.join_upper_right context b) h)
  enter_blind context (partial a) n h = fails-first
  enter_blind context (whole a) (partial b) h = fails-second

  enter_secret : (context : ℕ) (m : Mark) → Secret context → Fine Secret (entered 𝓛 context m)
  unfolding entered
  enter_secret context (whole a) h = good (no_below (𝓘.join_upper_left context a) h)
  enter_secret context (partial a) h = bad

  -- the meet lies at or below whatever the same context gives
  meet_clear : (context A : ℕ) (m : Mark) → Clear (partial (𝓛.meet context A)) (joined 𝓛 m (whole context))
  unfolding joined
  meet_clear context A (whole a) = under (𝓘.le_trans (𝓘.meet-lower-left context A) (𝓘.join_upper_right a context))
  meet_clear context A (partial a) = part

  store_same : (mode : Mode) (x y : Bool) (context A B : ℕ) (m : Mark)
      → Fines (λ a b. (a ≡ b) ⊎ Blind a b) (stored 𝓛 mode x context A m) (stored 𝓛 mode y context B m)
  unfolding stored
  store_same mode true true context A B m = fines (inl refl)
  store_same Strict true false context A B m = fails-second
  store_same Strict false y context A B m = fails-first
  store_same Permissive true false context A B m = fines (inr (part, meet_clear context B m))
  store_same Permissive false true context A B m = fines (inr (meet_clear context A m, part))
  store_same Permissive false false context A B m = fines (inr (part, part))

  store_blind : (mode : Mode) (x y : Bool) (context A B : ℕ) (m n : Mark) → Blind m n → Fines Blind (stored 𝓛 mode x context A m) (stored 𝓛 mode y context B n)
  unfolding stored
  store_blind mode true true context A B m n (h, k) = fines (clear_left m n (whole context) h, clear_left n m (whole context) k)
  store_blind Strict true false context A B m n h = fails-second
  store_blind Strict false y context A B m n h = fails-first
  store_blind Permissive true false context A B m n h = fines (part, meet_clear context B m)
  store_blind Permissive false true context A B m n h = fines (meet_clear context A n, part)
  store_blind Permissive false false context A B m n h = fines (part, part)

  -- ── how a mark may move in a secret context ───────────────────────────────────────────────

  -- from a level not at or below R to what is clear of all; or to partial, no higher than before
  data Moved : Mark → Mark → Type 0 where
    hides : {m n : Mark} → 𝓛.le (level_of m) R ≡ false → ((k : Mark) → Clear k n) → Moved m n
    sinks : {m : Mark} {b : ℕ} → 𝓛.le b (level_of m) ≡ true → Moved m (partial b)

  moved_trans : (k m n : Mark) → Moved k m → Moved m n → Moved k n
  moved_trans k m n (hides h x) (hides l y) = hides h y
  moved_trans k m n (hides h x) (sinks l) = hides h (λ j. part)
  moved_trans k m n (sinks h) (hides l y) = hides (no_below h l) y
  moved_trans k m n (sinks h) (sinks l) = sinks (𝓘.le_trans l h)

  -- what a mark moved to is clear of all, and what was clear of it stays so
  moved_clear : (k m n : Mark) → Moved m n → Clear k n
  moved_clear k m n (hides h x) = x k
  moved_clear k m n (sinks h) = part

  clear_moved : (m n k : Mark) → Clear n m → Moved n k → Clear k m
  clear_moved m n k part h = part
  clear_moved m n k (above l) h = above l
  clear_moved m n k (under l) (hides h x) = above (no_below l h)
  clear_moved m n k (under l) (sinks h) = under (𝓘.le_trans h l)

  moved_back : (m n : Mark) → Moved m n → Clear n m
  moved_back (partial a) n h = part
  moved_back (whole a) n (hides h x) = above h
  moved_back (whole a) n (sinks h) = under h

  raised_clear : (m : Mark) (context : ℕ) → Secret context → (k : Mark) → Clear k (joined 𝓛 m (whole context))
  unfolding joined
  raised_clear (whole a) context h k = above (no_below (𝓘.join_upper_right a context) h)
  raised_clear (partial a) context h k = part

  store_secret : (mode : Mode) (x : Bool) (context : ℕ) (old m : Mark) → 𝓛.le context (level_of old) ≡ x → Secret context
      → Fine (Moved old) (stored 𝓛 mode x context (level_of old) m)
  unfolding stored
  store_secret mode true context old m e h = good (hides (no_below e h) (raised_clear m context h))
  store_secret Strict false context old m e h = bad
  store_secret Permissive false context old m e h = good (sinks (𝓘.meet-lower-right context (level_of old)))

  -- ── safe ──────────────────────────────────────────────────────────────────────────────────

  module _ (below : 𝓛.le 𝓛.top R ≡ false) (mode : Mode) where
    unfoldable secretly : Moves (marking 𝓛 mode)
    secretly = record {
      Inside = Secret;
      Moved = Moved;
      enter-inside = enter_secret;
      store-inside = λ place context old m h. store_secret mode _ context old _ refl h;
      moved_trans = moved_trans;
    }

    unfoldable safe : Safe (marking 𝓛 mode)
    unfolding secretly
    safe = record {
      Blind = Blind;
      Blinds = Blind;
      moving = secretly;
      read_blind = λ i m n h. h;
      join-left = λ m n k h. (clear_left m n k h.0, clear_left n m k h.1);
      join-right = λ m n k h. (clear_right m n k h.0, clear_right n m k h.1);
      join_both = λ m n m' n' h k. (clear_both m n m' n' h.0 k.0, clear_both n m n' m' h.1 k.1);
      sealed_blind = (above below, above below);
      enter_blind = enter_blind;
      store_same = λ place context a b m. store_same mode (𝓛.le context (level_of a)) (𝓛.le context (level_of b)) context (level_of a) (level_of b) m;
      store_blind = λ place context a b m n h. store_blind mode (𝓛.le context (level_of a)) (𝓛.le context (level_of b)) context (level_of a) (level_of b) m n h;
      blind_sym = λ m n h. (h.1, h.0);
      moved_blind = λ m n h. (moved_clear m m n h, moved_back m n h);
      blind_moved = λ m n k h x. (moved_clear m n k x, clear_moved m n k h.1 x);
    }

    -- ── agreement is to be alike ────────────────────────────────────────────────────────────

    half_clear : {A B : ℕ} → (𝓛.le B R ≡ false) ⊎ (𝓛.le A B ≡ true) → Clear (partial A) (whole B)
    half_clear (inl h) = above h
    half_clear (inr h) = under h

    clear_half : {A B : ℕ} → Clear (partial A) (whole B) → (𝓛.le B R ≡ false) ⊎ (𝓛.le A B ≡ true)
    clear_half (above h) = inl h
    clear_half (under h) = inr h

    agree_alike : {c d : Cell Mark} → Agree 𝓛 R c d → Alike Blind c d
    agree_alike (shown h) = same
    agree_alike (hidden h k) = blind (above k, above h)
    agree_alike both_partial = blind (part, part)
    agree_alike (first_partial h) = blind (half_clear h, part)
    agree_alike (second_partial h) = blind (part, half_clear h)

    alike_agree : (c d : Cell Mark) → Alike Blind c d → Agree 𝓛 R c d
    alike_agree c d same = agree_refl 𝓛 R c
    alike_agree (cell v (whole A)) (cell w (whole B)) (blind (above h, above k)) = hidden k h
    alike_agree (cell v (partial A)) (cell w (partial B)) (blind h) = both_partial
    alike_agree (cell v (partial A)) (cell w (whole B)) (blind (h, k)) = first_partial (clear_half h)
    alike_agree (cell v (whole A)) (cell w (partial B)) (blind (h, k)) = second_partial (clear_half k)

    pub noninterference : (c : Cmd) (context f g : ℕ) (σ τ : Store Mark) → ((i : ℕ) → Agree 𝓛 R (σ i) (τ i))
        → (σ' τ' : Store Mark) (f' g' : ℕ) → exec (marking 𝓛 mode) c context σ f ≡ done σ' f' → exec (marking 𝓛 mode) c context τ g ≡ done τ' g'
        → (i : ℕ) → Agree 𝓛 R (σ' i) (τ' i)
    unfolding safe
    noninterference c context f g σ τ h σ' τ' f' g' d e i =
        alike_agree (σ' i) (τ' i) (Noninterference.noninterference (marking 𝓛 mode) safe c context f g σ τ (λ i. agree_alike (h i)) σ' τ' f' g' d e i)
