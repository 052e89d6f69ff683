-- A work store: filled from a store, and its cells as entries of one.
use Prim.Native.Nat.{ℕ, ◌+◌, ◌-◌, ◌≤◌, ◌<◌}
use native.Mathlib.Omega.{arith}
use native.Mathlib.Decide.{ℕ_discrete}
use mathlib.Core.Path.{◌≡◌, sym, ap, ◌∙◌, fun_ext}
use mathlib.Core.List.{List, ◌∷◌, ◌++◌}
use borrow.Author.Tests.{ltb-true, ltb-false}
use lib.Dec.{ltb}
use lib.ListN.{length, get_or, set, replicate, length-append, length-replicate, get_or-append, get_or-replicate, get_or-eq_default}
use lib.Seq.{get_or-set_same, get_or-set_other, get_or-append-add}
use Rattle.basis.proofs.Tests.{split}
use Rattle.value.specs.Bytes.{of_bits, bytes_of}
use Rattle.store.specs.Cells.{Store}
use Rattle.store.specs.Marks.{Mark, mark_of, byte_of}
use Rattle.store.specs.Stores.{entry_at, store_length, mark_at, cell_at, entry_of}
use Rattle.store.proofs.Marks.{byte_back}
use Rattle.store.proofs.Entries.{past-fields}
use Rattle.marks.specs.Inside.Words.{blank, cell_of, work_at}
use Rattle.marks.specs.declared.Cell.{Cell as Held}
use Rattle.flow.specs.Inside.Tasks.{Fetched}

-- the entry of a cell in a store
pub cell_entry : (held : Held) → held.mark ∷ bytes_of held.value.n ≡ entry_of (cell_of mark_of held)
unfolding entry_of
cell_entry held = ap (λ (b : ℕ). b ∷ bytes_of held.value.n) (sym (byte_back held.mark))

-- the fields below i are filled
abbrev pub Filled : List ℕ → List Held → ℕ → Type 0
Filled store held i = (j : ℕ) → j < i → work_at mark_of held j ≡ cell_at store j

-- one more field
pub filled_more : (store : List ℕ) (held : List Held) (i : ℕ) (one : Held) → i < length held → Filled store held i → cell_of mark_of one ≡ cell_at store i
    → Filled store (set held i one) (i + 1)
unfolding work_at
filled_more store held i one inside before is j h = go (ℕ_discrete j i)
  where
    go : Dec (j ≡ i) → work_at mark_of (set held i one) j ≡ cell_at store j
    go (yes e) = rw (e, get_or-set_same held i one blank inside) is
    go (no ne) = rw (get_or-set_other held i j one blank ne) (before j (omega (arith, ne)))

blanks : (m k : ℕ) → get_or (replicate m blank) k blank ≡ blank
blanks m k =
    split (ltb k m)
    (λ less. get_or-replicate m k blank blank (ltb-true k m less))
    (λ more. get_or-eq_default (replicate m blank) blank (omega (arith, ltb-false k m more, length-replicate m blank)))

-- beyond its fields a store reads as zeros, and so does a work store
beyond : (store : List ℕ) (work : List Held) (i : ℕ) → length store ≤ entry_at i → get_or work i blank ≡ blank → work_at mark_of work i ≡ cell_at store i
unfolding work_at cell_at of_bits
beyond store work i h e = rw (e, past-fields store i h)

-- the cells of all fields, then blank ones
pub fetched : (store : List ℕ) (held : List Held) (fields : ℕ) → fields ≤ 64 → length store ≡ store_length fields → length held ≡ fields → Filled store held fields
    → Fetched store (held ++ replicate (64 - fields) blank)
unfolding work_at
fetched store held fields few long size filled = record {
  is = fun_ext (λ i. split (ltb i fields)
      (λ less. let inside = ltb-true i fields less in rw (get_or-append held (replicate (64 - fields) blank) blank i (omega arith)) (filled i inside))
      (λ more.
      let past = ltb-false i fields more in
      let at : i ≡ length held + (i - fields) = omega arith in
      beyond store _ i (omega arith) (ap (λ (k : ℕ). get_or (held ++ replicate (64 - fields) blank) k blank) at ∙ get_or-append-add held (replicate (64 - fields) blank) (i - fields) blank ∙ blanks (64 - fields) (i - fields))));
  long = omega (arith, length-append held (replicate (64 - fields) blank), length-replicate (64 - fields) blank);
}

-- a field's cell has the field's mark byte
pub same-mark : (store : List ℕ) (i : ℕ) (held : Held) → cell_of mark_of held ≡ cell_at store i → held.mark ≡ mark_at store i
unfolding cell_at
same-mark store i held here =
    let same : mark_of held.mark ≡ mark_of (mark_at store i) = cc in
    sym (byte_back held.mark) ∙ ap byte_of same ∙ byte_back (mark_at store i)

pub fetched_mark : {store : List ℕ} {work : List Held} → Fetched store work → (i : ℕ) → (get_or work i blank).mark ≡ mark_at store i
unfolding work_at
fetched_mark {store} {work} fetched i = same-mark store i (get_or work i blank) (ap (λ (σ : Store Mark). σ i) fetched.is)
