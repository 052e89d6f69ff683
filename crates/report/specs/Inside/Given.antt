-- What functions of `report` are given.
use Rattle.std.specs.Prelude.{ℕ, ◌/◌, ◌≤◌, List, length}
use Rattle.store.specs.Stores.{store_length}

-- the names of some fields, and a store with an entry for each
abbrev pub Entries : List ℕ → List ℕ → Type 0
Entries fields store = store_length (length fields / 8) ≤ length store

-- at most 64 of them
pub record Final (fields store : List ℕ) : Type 0 where
  pub few : length fields ≤ 512
  pub entries : Entries fields store
