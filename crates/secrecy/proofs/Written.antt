-- A run leaves levels of the lattice in every mark, if it starts with such. So two final stores that agree still agree when they are written as bytes
-- and read back.
use Prim.Native.Nat.{ℕ, ◌<◌}
use mathlib.Core.Path.{◌≡◌, sym, ◌∙◌}
use mathlib.Core.Bool.{Bool, true, false}
use mathlib.Core.List.{◌∷◌}
use Rattle.value.specs.Bytes.{bytes_of}
use Rattle.sheet.specs.Trees.{Cmd}
use Rattle.levels.specs.Lattice.{Lattice, Laws}
use Rattle.store.specs.Cells.{Cell, cell, Store}
use Rattle.rules.specs.Ends.{done}
use Rattle.rules.specs.Rules.{exec}
use Rattle.store.specs.declared.Mode.{Mode}
use Rattle.store.specs.declared.Mode.TheVariants.{Strict, Permissive}
use Rattle.store.specs.Marks.{Mark, whole, partial, level_of}
use Rattle.rules.specs.LevelMarks.{joined, entered, stored, marking}
use Rattle.store.specs.Stores.{cell_at, entry_of, store_bytes}
use Rattle.store.proofs.Marks.{mark_back}
use Rattle.store.proofs.Entries.{count_back, entry_back}
use Rattle.rules.specs.Agreement.{Agree, shown, hidden, both_partial, first_partial, second_partial, StoresAgree}
use Rattle.rules.proofs.Moves.{Fine, good, bad, Moves, Later, stays, moves, ran-done, exec-ran}

abbrev pub level_in : Cell Mark → ℕ
level_in (cell v m) = level_of m

-- ── levels stay levels ──────────────────────────────────────────────────────────────────────

module _ (𝓛 : Lattice) (𝓘 : Laws 𝓛) where
  joined-level : (m : Mark) (context : ℕ) → level_of (joined 𝓛 m (whole context)) < 𝓛.levels
  unfolding joined
  joined-level (whole a) context = 𝓘.join_in a context
  joined-level (partial a) context = 𝓘.join_in a context

  stored-level : (mode : Mode) (x : Bool) (context A : ℕ) (m : Mark) → Fine (λ (k : Mark). level_of k < 𝓛.levels) (stored 𝓛 mode x context A m)
  unfolding stored
  stored-level mode true context A m = good (joined-level m context)
  stored-level Strict false context A m = bad
  stored-level Permissive false context A m = good (𝓘.meet_in context A)

  entered_any : (context : ℕ) (m : Mark) → Fine (λ (c : ℕ). Unit {0}) (entered 𝓛 context m)
  unfolding entered
  entered_any context (whole a) = good tt
  entered_any context (partial a) = bad

  module _ (mode : Mode) where
    unfoldable anywhere : Moves (marking 𝓛 mode)
    anywhere = record {
      Inside = λ context. Unit {0};
      Moved = λ old m. level_of m < 𝓛.levels;
      enter-inside = λ context m h. entered_any context m;
      store-inside = λ place context old m h. stored-level mode (𝓛.le context (level_of old)) context (level_of old) m;
      moved_trans = λ k m n h l. l;
    }

    later-level : {c d : Cell Mark} → Later anywhere c d → level_in c < 𝓛.levels → level_in d < 𝓛.levels
    unfolding anywhere
    later-level stays h = h
    later-level (moves l) h = l

    pub levels_stay : (c : Cmd) (context : ℕ) (σ τ : Store Mark) (fuel left : ℕ) → exec (marking 𝓛 mode) c context σ fuel ≡ done τ left
        → ((i : ℕ) → level_in (σ i) < 𝓛.levels) → (i : ℕ) → level_in (τ i) < 𝓛.levels
    unfolding anywhere
    levels_stay c context σ τ fuel left e h i = later-level (ran-done anywhere (rw e at (exec-ran anywhere c σ fuel context tt)) i) (h i)

-- ── agreement of what is written ────────────────────────────────────────────────────────────

module _ (𝓛 : Lattice) (R : ℕ) where
  -- a cell, written and read back
  abbrev reread : Cell Mark → Cell Mark
  reread c = cell_at (0 ∷ 0 ∷ entry_of c) 0

  reread_agree : {c d : Cell Mark} → Agree 𝓛 R c d → level_in c < 16 → level_in d < 16 → Agree 𝓛 R (reread c) (reread d)
  unfolding cell_at entry_of bytes_of
  reread_agree (shown {A} h) i j = rw (mark_back (whole A) i) (shown h)
  reread_agree (hidden {A} {B} h k) i j = rw (mark_back (whole A) i, mark_back (whole B) j) (hidden h k)
  reread_agree (both_partial {A} {B}) i j = rw (mark_back (partial A) i, mark_back (partial B) j) both_partial
  reread_agree (first_partial {A} {B} h) i j = rw (mark_back (partial A) i, mark_back (whole B) j) (first_partial h)
  reread_agree (second_partial {A} {B} h) i j = rw (mark_back (whole B) i, mark_back (partial A) j) (second_partial h)

  pub written-agree : (fields : ℕ) (σ τ : Store Mark) → fields < 256 → ((i : ℕ) → level_in (σ i) < 16) → ((i : ℕ) → level_in (τ i) < 16)
      → ((i : ℕ) → Agree 𝓛 R (σ i) (τ i)) → StoresAgree 𝓛 R (store_bytes σ fields) (store_bytes τ fields)
  written-agree fields σ τ few p q h = record {
    count = count_back σ fields few ∙ sym (count_back τ fields few);
    fields = λ i inside.
        let less = rw (count_back σ fields few) at inside in
        rw (entry_back σ fields i less, entry_back τ fields i less) (reread_agree (h i) (p i) (q i));
  }
