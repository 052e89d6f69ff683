-- What a run starts from, once the checks have passed: the rows are a lattice, the store has the sheet's count and levels of the sheet in its marks,
-- and past its fields it reads as zeros.
use Prim.Native.Nat.{ℕ, ◌<◌, ◌≤◌}
use native.Mathlib.Omega.{arith}
use mathlib.Core.Path.{◌≡◌}
use mathlib.Core.Bool.{true, false}
use mathlib.Core.List.{List, []}
use mathlib.Core.Logic.{◌≢◌}
use borrow.Author.Tests.{ltb-true, ltb-false, eqb-true}
use lib.Dec.{eqb, ltb}
use lib.ListN.{length}
use Rattle.basis.specs.Bytes.{word_at}
use Rattle.basis.proofs.Tests.{both, split}
use Rattle.levels.specs.Levels.{count, highest_of, right}
use Rattle.levels.specs.Lattice.{lattice}
use Rattle.levels.proofs.Facts.{facts}
use Rattle.levels.proofs.Joins.{not_top}
use Rattle.levels.proofs.Laws.{laws}
use Rattle.sections.specs.Sections.{levels_of}
use Rattle.sheet.specs.Load.{field_count}
use Rattle.store.specs.declared.Mode.{Mode}
use Rattle.store.specs.Marks.{mark_of, mark_known}
use Rattle.store.specs.Stores.{mark_at, cell_at, store_of, store_length, store_fits}
use Rattle.store.proofs.Marks.{known_is, marks-known}
use Rattle.store.proofs.Entries.{past-fields}
use Rattle.beltuqash.specs.Inside.Given.{Taken}
use Rattle.beltuqash.proofs.Checking.{fits-long}
use Rattle.rules.specs.Agreement.{Agree, StoresAgree}
use Rattle.secrecy.specs.Secrecy.{HalfClosed, NoneHalfClosed}
use Rattle.rules.proofs.SafeMarks.{agree_refl}
use Rattle.secrecy.proofs.Readers.{Whole}
use Rattle.secrecy.proofs.Written.{level_in}

-- ── the levels ──────────────────────────────────────────────────────────────────────────────

module _ (s : List ℕ) (passed : right s ≡ true) where
  pub below_highest : (R : ℕ) → R < count s → R ≢ highest_of s → (lattice s).le (lattice s).top R ≡ false
  unfolding lattice
  below_highest R level other = not_top (lattice s) (laws s passed) R level other

  pub few-levels : (lattice s).levels ≤ 16
  unfolding lattice
  few-levels = (facts s passed).few

  some-levels : 0 < (lattice s).levels
  unfolding lattice
  some-levels = (facts s passed).up.some_level

-- ── the fields ──────────────────────────────────────────────────────────────────────────────

-- what each field below the count has, and each past it, every field has
by_field : (P : ℕ → Type 0) (fields : ℕ) → ((i : ℕ) → i < fields → P i) → ((i : ℕ) → fields ≤ i → P i) → (i : ℕ) → P i
by_field P fields inside past i = split (ltb i fields) (λ e. inside i (ltb-true i fields e)) (λ e. past i (ltb-false i fields e))

fits_count : (fields : ℕ) (store : List ℕ) → store_fits fields store ≡ true → word_at store 0 ≡ fields
unfolding store_fits
fits_count fields store e = eqb-true _ _ (both (eqb (length store) (store_length fields)) _ e).1

field-level : (s store : List ℕ) (i : ℕ) → mark_known (count s) (mark_at store i) ≡ true → level_in (cell_at store i) < (lattice s).levels
unfolding cell_at lattice
field-level s store i e = (known_is (count s) (mark_at store i) e).1

zero_level : {levels : ℕ} → 0 < levels → level_in (cell_at [] 0) < levels
unfolding cell_at mark_of
zero_level h = h

zero_whole : HalfClosed (cell_at [] 0) → ⊥
unfolding cell_at mark_of
zero_whole = elim [ ]

module _ {sheet store : List ℕ} {mode : Mode} (taken : Taken sheet store mode) where
  past : (i : ℕ) → field_count sheet ≤ i → cell_at store i ≡ cell_at [] 0
  past i h = past-fields store i (omega (arith, fits-long (field_count sheet) store taken.fits))

  start-count : word_at store 0 ≡ field_count sheet
  start-count = fits_count (field_count sheet) store taken.fits

  pub start-levels : (i : ℕ) → level_in (store_of store i) < (lattice (levels_of sheet)).levels
  start-levels =
      let rows = levels_of sheet in
      by_field (λ i. level_in (store_of store i) < (lattice rows).levels) (field_count sheet)
      (λ i h. field-level rows store i (marks-known mode (count rows) (field_count sheet) store taken.marks i h))
      (λ i h. rw (past i h) (zero_level (some-levels rows taken.loaded.levels)))

  pub start-whole : NoneHalfClosed store → Whole (store_of store)
  start-whole none =
      by_field (λ i. HalfClosed (store_of store i) → ⊥) (field_count sheet)
      (λ i h. none i (rw start-count h))
      (λ i h. rw (past i h) zero_whole)

  -- stores that agree field by field agree past their ends
  pub start-agree : {other : List ℕ} (R : ℕ) → Taken sheet other mode → StoresAgree (lattice (levels_of sheet)) R store other
      → (i : ℕ) → Agree (lattice (levels_of sheet)) R (store_of store i) (store_of other i)
  start-agree {other} R taken' agree =
      by_field (λ i. Agree (lattice (levels_of sheet)) R (store_of store i) (store_of other i)) (field_count sheet)
      (λ i h. agree.fields i (rw start-count h))
      (λ i h. rw (past i h, past-fields other i (omega (arith, fits-long (field_count sheet) other taken'.fits))) (agree_refl _ R (cell_at [] 0)))
