-- What the functions of a hand-out may rely on once all checks have passed.
use Rattle.std.specs.Prelude.{ℕ, ◌<◌, ◌≡◌, true, List, length}
use Rattle.levels.specs.Levels.{count}
use Rattle.levels.specs.Lattice.{lattice}
use Rattle.store.specs.declared.Mode.TheVariants.{Permissive}
use Rattle.store.specs.Stores.{store_length, store_of, marks_right}
use Rattle.handout.specs.Answers.{answer_over}

-- a reader who stands at one of the levels, and a store of so many fields with marks that they know
pub record AsksAs (rows store : List ℕ) (fields reader : ℕ) : Type 0 where
  pub long : length store ≡ store_length fields
  pub reader-known : reader < count rows
  pub marks : marks_right Permissive (count rows) fields store ≡ true

-- what stands in the lent answer then, by the bytes that came in
abbrev pub answer_given : (rows store : List ℕ) (reader : ℕ) (request answer : List ℕ) → List ℕ
answer_given rows store reader request answer = answer_over (lattice rows) reader (store_of store) request answer
