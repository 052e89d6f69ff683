-- When two stores agree for reader level R: document 01's paragraph, clause by clause. The relation isn't transitive.
use Rattle.std.specs.Prelude.{ℕ, ◌<◌, ◌≡◌, true, false, List, ◌⊎◌}
use Rattle.basis.specs.Bytes.{word_at}
use Rattle.value.specs.declared.Value.{Value}
use Rattle.levels.specs.Lattice.{Lattice}
use Rattle.store.specs.Cells.{Cell, cell}
use Rattle.store.specs.Marks.{Mark, whole, partial}
use Rattle.store.specs.Stores.{store_of}

module _ (𝓛 : Lattice) (R : ℕ) where
  -- for each field one of:
  pub data Agree : Cell Mark → Cell Mark → Type 0 where
    -- both whole at one level at or below R, values equal;
    shown : {v : Value} {A : ℕ} → 𝓛.le A R ≡ true → Agree (cell v (whole A)) (cell v (whole A))
    -- both whole at levels not at or below R;
    hidden : {v w : Value} {A B : ℕ} → 𝓛.le A R ≡ false → 𝓛.le B R ≡ false → Agree (cell v (whole A)) (cell w (whole B))
    -- both partial;
    both_partial : {v w : Value} {A B : ℕ} → Agree (cell v (partial A)) (cell w (partial B))
    -- one partial at A, the other whole at B, with B not at or below R, or A at or below B.
    first_partial : {v w : Value} {A B : ℕ} → (𝓛.le B R ≡ false) ⊎ (𝓛.le A B ≡ true) → Agree (cell v (partial A)) (cell w (whole B))
    second_partial : {v w : Value} {A B : ℕ} → (𝓛.le B R ≡ false) ⊎ (𝓛.le A B ≡ true) → Agree (cell w (whole B)) (cell v (partial A))

  -- Same field count, and for each field one of these. A store begins with its count.
  pub record StoresAgree (s t : List ℕ) : Type 0 where
    pub count : word_at s 0 ≡ word_at t 0
    pub fields : (i : ℕ) → i < word_at s 0 → Agree (store_of s i) (store_of t i)
