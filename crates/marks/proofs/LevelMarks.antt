-- The questions' answers where marks are levels, by the rules: each is what the functions on mark bytes give.
use Prim.Native.Nat.{ℕ, ◌<◌}
use native.Mathlib.Omega.{arith}
use mathlib.Core.Path.{◌≡◌, sym, ap, ◌∙◌}
use mathlib.Core.Bool.{true, false}
use mathlib.Core.List.{List}
use Rattle.basis.specs.declared.numbers.Number.TheVariants.{PartialTest, NotBelow}
use Rattle.levels.specs.Levels.{count, right}
use Rattle.levels.specs.Lattice.{lattice}
use Rattle.levels.proofs.Bounds.{lowest_is, highest_is}
use Rattle.levels.proofs.Laws.{laws}
use Rattle.rules.specs.Ends.{gives, at}
use Rattle.store.specs.declared.Mode.TheVariants.{Strict, Permissive}
use Rattle.store.specs.Marks.{Mark, whole, partial, level_of, is_partial, mark_of, byte_of, mark_known}
use Rattle.rules.specs.LevelMarks.{joined, entered}
use Rattle.marks.specs.Inside.Words.{why_of}
use Rattle.marks.specs.Inside.Meanings.{Meaning, Constant, Sealed, Joined, Entered, Stored, rows_in, LevelRun, StandsFor, meaning}
use Rattle.marks.specs.declared.Run.{Run}
use Rattle.std.specs.Prelude.{Ok, Err}
use Rattle.store.proofs.Marks.{byte_back, is_whole, is_partial_lem, known_is}
use Rattle.marks.proofs.Marking.{joined_same, joined_above, level-mark, stored-below, stored-strict, stored_permissive}

module _ (run : Run) where
  abbrev 𝓢 : Meaning
  𝓢 = meaning run

  abbrev rows : List ℕ
  rows = rows_in run

  few : {m : Mark} {r : ℕ} → StandsFor rows m r → r < 32
  few {m} {r} g = (known_is _ r g.1).0

  pub constant-level : LevelRun run → Constant 𝓢 run.lowest
  unfolding lattice meaning
  constant-level p =
      let (is, known, small) = level-mark rows p.order run.lowest (rw p.lowest (lowest_is rows p.order).level) in
      record { is = is ∙ ap whole p.lowest; known = known; few = omega arith }

  pub sealed-level : LevelRun run → Sealed 𝓢 run.highest
  unfolding lattice meaning
  sealed-level p =
      let (is, known, small) = level-mark rows p.order run.highest (rw p.highest (highest_is rows p.order).level) in
      record { is = is ∙ ap whole p.highest; known = known; few = omega arith }

  pub join-level : (m k : ℕ) {r : ℕ} → StandsFor rows (joined (lattice rows) (mark_of m) (mark_of k)) r → Joined 𝓢 m k r
  unfolding meaning
  join-level m k g = record { is = g.0; known = g.1; few = omega (arith, few g) }

  module _ (n context m : ℕ) (h : right rows ≡ true) (level : context < count rows) where
    pub enter_partial : is_partial (mark_of m) ≡ true → Entered 𝓢 n context m (Err record { number = PartialTest; place = n })
    unfolding why_of at entered meaning
    enter_partial is = ((omega arith, omega arith), rw (is_partial_lem (mark_of m) is))

    pub enter-whole : {r : ℕ} → is_partial (mark_of m) ≡ false → StandsFor rows (joined (lattice rows) (mark_of context) (mark_of m)) r → Entered 𝓢 n context m (Ok r)
    unfolding at entered joined meaning
    enter-whole {r} is g =
        let whole_m = is_whole (mark_of m) is in
        let join : mark_of r ≡ whole ((lattice rows).join context (level_of (mark_of m))) = g.0 ∙ rw ((level-mark rows h context level).0, whole_m) in
        let same : r ≡ (lattice rows).join context (level_of (mark_of m)) = sym (byte_back r) ∙ ap byte_of join in
        ((rw same (rw join at (known_is _ r g.1).1), omega (arith, few g)), rw whole_m (ap gives (sym same)))

    -- a test at the context's own level leaves the context
    pub enter-same : m ≡ context → Entered 𝓢 n context m (Ok m)
    enter-same e =
        let (is, known, small) = level-mark rows h context level in
        enter-whole (rw (e, is)) (rw e (joined_same rows context h known, known))

    module _ (old : ℕ) where
      -- the context lies at or below a field that has it for its mark
      pub same-below : old ≡ context → (lattice rows).le context (level_of (mark_of old)) ≡ true
      same-below e =
          let (is, known, small) = level-mark rows h context level in
          rw (e, is) ((laws rows h).le_refl context)

      pub store_below : (r : ℕ) → (lattice rows).le context (level_of (mark_of old)) ≡ true → StandsFor rows (joined (lattice rows) (mark_of m) (mark_of context)) r
          → Stored 𝓢 n context old m (Ok r)
      unfolding at meaning
      store_below r le g =
          let (is, known, small) = level-mark rows h context level in
          (g.1, rw (stored-below (lattice rows) run.mode context (level_of (mark_of old)) (mark_of m) le) (ap gives (rw (← is) (sym g.0))))

      -- a field that keeps its mark
      pub store_kept : (lattice rows).le context (level_of (mark_of old)) ≡ true → m ≡ old → mark_known (count rows) old ≡ true → Stored 𝓢 n context old m (Ok m)
      store_kept le e known =
          store_below _ le (rw (e, (level-mark rows h context level).0) (joined_above rows old context h known le, known))

      pub store-strict : (lattice rows).le context (level_of (mark_of old)) ≡ false → run.mode ≡ Strict → Stored 𝓢 n context old m (Err record { number = NotBelow; place = n })
      unfolding why_of at meaning
      store-strict le mode =
          ((omega arith, omega arith), rw (stored-strict (lattice rows) run.mode context (level_of (mark_of old)) (mark_of m) le mode))

      pub store_lowered : (r : ℕ) → (lattice rows).le context (level_of (mark_of old)) ≡ false → run.mode ≡ Permissive
          → StandsFor rows (partial ((lattice rows).meet context (level_of (mark_of old)))) r → Stored 𝓢 n context old m (Ok r)
      unfolding at meaning
      store_lowered r le mode g =
          (g.1, rw (stored_permissive (lattice rows) run.mode context (level_of (mark_of old)) (mark_of m) le mode) (ap gives (sym g.0)))
