-- The entries of a store: how long they are, and what is read of a store that was written.
use Prim.Native.Nat.{ℕ, zero, suc, ◌+◌, ◌*◌, ◌%◌, ◌≤◌, ◌<◌}
use native.Mathlib.Nat.{mod-eq_of_lt}
use native.Mathlib.Omega.{arith}
use native.Mathlib.Numerals.{add-one}
use native.Mathlib.Decide.{ℕ_discrete}
use mathlib.Core.Path.{◌≡◌, refl, sym, ap, ◌∙◌}
use mathlib.Core.List.{List, [], ◌∷◌, ◌++◌}
use lib.ListN.{length, get_or, length-append, get_or-eq_default, get_or-append}
use lib.Seq.{get_or-append-add}
use Rattle.basis.specs.Bytes.{word_at}
use Rattle.value.specs.Bytes.{bytes_of}
use Rattle.store.specs.Cells.{Cell, cell, Store}
use Rattle.store.specs.Marks.{Mark}
use Rattle.store.specs.Stores.{entry_length, entry_at, store_length, cell_at, entry_of, store_entries, store_bytes}

pub entry_length_lem : (c : Cell Mark) → length (entry_of c) ≡ entry_length
unfolding entry_of bytes_of
entry_length_lem (cell v m) = refl

module _ (σ : Store Mark) where
  pub no_entries : store_entries σ 0 ≡ []
  unfolding store_entries
  no_entries = refl

  pub one_entry_more : (i : ℕ) → store_entries σ i ++ entry_of (σ i) ≡ store_entries σ (i + 1)
  unfolding store_entries
  one_entry_more i = ap (store_entries σ) (sym (add-one i))

pub entries-length : (σ : Store Mark) (k : ℕ) → length (store_entries σ k) ≡ k * entry_length
unfolding store_entries
entries-length σ zero = refl
entries-length σ (suc k) = omega (arith, length-append (store_entries σ k) (entry_of (σ k)), entries-length σ k, entry_length_lem (σ k))

-- beyond its fields a store reads as zeros
pub past-fields : (store : List ℕ) (i : ℕ) → length store ≤ entry_at i → cell_at store i ≡ cell_at [] 0
unfolding cell_at
past-fields store i h =
    let byte : (k : ℕ) → entry_at i ≤ k → get_or store k 0 ≡ 0 = λ k more. get_or-eq_default store 0 (omega arith) in
    rw (
      byte (entry_at i) (omega arith),
      byte (entry_at i + 1) (omega arith),
      byte (entry_at i + 1 + 1) (omega arith),
      byte (entry_at i + 1 + 2) (omega arith),
      byte (entry_at i + 1 + 3) (omega arith),
    )

-- ── a store that was written, read back ─────────────────────────────────────────────────────

pub store_length_lem : (σ : Store Mark) (fields : ℕ) → length (store_bytes σ fields) ≡ store_length fields
unfolding store_bytes
store_length_lem σ fields = omega (arith, entries-length σ fields)

-- its count, if the count fits a byte
pub count_back : (σ : Store Mark) (fields : ℕ) → fields < 256 → word_at (store_bytes σ fields) 0 ≡ fields
unfolding store_bytes
count_back σ fields h = omega (arith, mod-eq_of_lt h)

-- byte j of field i's entry
entries_at : (σ : Store Mark) (k i j : ℕ) → i < k → j < entry_length → get_or (store_entries σ k) (i * entry_length + j) 0 ≡ get_or (entry_of (σ i)) j 0
unfolding store_entries
entries_at σ zero i j h few = absurd (omega arith)
entries_at σ (suc k) i j h few = go (ℕ_discrete i k) (entries_at σ k i j)
  where
    go : Dec (i ≡ k) → (i < k → j < entry_length → get_or (store_entries σ k) (i * entry_length + j) 0 ≡ get_or (entry_of (σ i)) j 0)
        → get_or (store_entries σ k ++ entry_of (σ k)) (i * entry_length + j) 0 ≡ get_or (entry_of (σ i)) j 0
    go (yes e) before =
        let here : i * entry_length + j ≡ length (store_entries σ k) + j = omega (arith, entries-length σ k, e) in
        rw (here, e) (get_or-append-add (store_entries σ k) (entry_of (σ k)) j 0)
    go (no ne) before =
        let less : i < k = omega (arith, ne) in
        get_or-append (store_entries σ k) (entry_of (σ k)) 0 (i * entry_length + j) (omega (arith, entries-length σ k)) ∙ before less few

store_at_lem : (σ : Store Mark) (fields i at j : ℕ) → i < fields → j < entry_length → at ≡ entry_at i + j → get_or (store_bytes σ fields) at 0 ≡ get_or (entry_of (σ i)) j 0
unfolding store_bytes
store_at_lem σ fields i at j h few e =
    let offset : at ≡ 2 + (i * entry_length + j) = omega arith in
    ap (λ (k : ℕ). get_or (store_bytes σ fields) k 0) offset
    ∙ get_or-append-add (fields % 256 ∷ 0 ∷ []) (store_entries σ fields) (i * entry_length + j) 0
    ∙ entries_at σ fields i j h few

-- a field is what its own entry says
pub entry_back : (σ : Store Mark) (fields i : ℕ) → i < fields → cell_at (store_bytes σ fields) i ≡ cell_at (0 ∷ 0 ∷ entry_of (σ i)) 0
unfolding cell_at
entry_back σ fields i h =
    rw (
      store_at_lem σ fields i (entry_at i) 0 h (omega arith) (omega arith),
      store_at_lem σ fields i (entry_at i + 1) 1 h (omega arith) (omega arith),
      store_at_lem σ fields i (entry_at i + 1 + 1) 2 h (omega arith) (omega arith),
      store_at_lem σ fields i (entry_at i + 1 + 2) 3 h (omega arith) (omega arith),
      store_at_lem σ fields i (entry_at i + 1 + 3) 4 h (omega arith) (omega arith),
    )
