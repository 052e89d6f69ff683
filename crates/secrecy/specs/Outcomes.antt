-- Demand 1, over the bytes of the exported calls: what each tells, by number, place and units, and what it leaves in the lent output. `proofs/Outcomes.antt`
-- proves the statements. `Earned` has an input for each number.
use Rattle.std.specs.Prelude.{ℕ, ◌≤◌, ◌≡◌, Bool, true, false, ◌||◌, List, [], ◌∷◌, ◌++◌, ◌⊎◌, length, take, drop, eqb}
use Rattle.basis.specs.Numbers as numbers
use Rattle.basis.specs.declared.answer.Answer.{Answer}
use Rattle.basis.specs.Answer.{Outcome}
use Rattle.levels.specs.Lattice.{lattice}
use Rattle.sections.specs.Sections.{levels_of}
use Rattle.sheet.specs.Load.{field_count}
use Rattle.store.specs.Cells.{Store}
use Rattle.store.specs.Marks.{Mark}
use Rattle.store.specs.Stores.{store_length, store_of, store_bytes}
use Rattle.handout.specs.Answers.{answer_length, answer_bytes}
use Rattle.beltuqash.specs.Calls.{load, run, hand_out}

unfoldable pub among : List ℕ → ℕ → Bool
among [] n = false
among (m ∷ rest) n = eqb m n || among rest n

-- ── what is told ────────────────────────────────────────────────────────────────────────────

-- Load gives 1 to 4, 6, 7 and 19 to 22;
abbrev pub load_numbers : List ℕ
load_numbers =
    numbers.sheet_length
    ∷ numbers.count_outside
    ∷ numbers.levels_wrong
    ∷ numbers.name_wrong
    ∷ numbers.not_used_once
    ∷ numbers.too_deep
    ∷ numbers.node_unknown
    ∷ numbers.node_unused
    ∷ numbers.node_range
    ∷ numbers.node_sort
    ∷ []

-- run all but 17 and 18;
abbrev pub run_numbers : List ℕ
run_numbers =
    load_numbers
    ++ (numbers.store_misfit ∷ numbers.mark_wrong ∷ numbers.mode_or_fuel ∷ numbers.out_short ∷ [])
    ++ (numbers.fuel_spent ∷ numbers.out_of_range ∷ numbers.divisor_zero ∷ numbers.not_below ∷ numbers.partial_test ∷ [])

-- hand-out 1 to 9, 17, 11, 18.
abbrev pub hand_out_numbers : List ℕ
hand_out_numbers = load_numbers ++ (numbers.store_misfit ∷ numbers.mark_wrong ∷ numbers.reader_or_request ∷ numbers.out_short ∷ numbers.partial_asked ∷ [])

-- the numbers for which the table has a place: 12 to 16, 18, and 19 to 22 for 5
abbrev pub placed : List ℕ
placed =
    (numbers.fuel_spent ∷ numbers.out_of_range ∷ numbers.divisor_zero ∷ numbers.not_below ∷ numbers.partial_test ∷ numbers.partial_asked ∷ [])
    ++ (numbers.node_unknown ∷ numbers.node_unused ∷ numbers.node_range ∷ numbers.node_sort ∷ [])

-- and those whose units are spent: success and 12 to 16
abbrev pub spending : List ℕ
spending = numbers.done ∷ numbers.fuel_spent ∷ numbers.out_of_range ∷ numbers.divisor_zero ∷ numbers.not_below ∷ numbers.partial_test ∷ []

pub record Told (given : List ℕ) (a : Answer) : Type 0 where
  pub number : (a.number ≡ numbers.done) ⊎ (among given a.number ≡ true)
  -- Success is number 0, place 0.
  pub success-place : a.number ≡ numbers.done → a.place ≡ 0
  -- Places are 0 but where the table has one.
  pub no_place : among placed a.number ≡ false → a.place ≡ 0
  -- Units are 0 for 1 to 11 and for 19 to 22,
  pub no_units : among spending a.number ≡ false → a.units ≡ 0

-- ── what is written ─────────────────────────────────────────────────────────────────────────

-- by a call that writes so many bytes, which are as `Is` says
pub record Leaves (long : ℕ) (Is : List ℕ → Type 0) (before : List ℕ) (o : Outcome) : Type 0 where
  -- A refusal writes nothing.
  pub refusal : (o.answer.number ≡ numbers.done → ⊥) → o.out ≡ before
  -- Success writes exactly the store (2 + 5 per field) or the answer (2 + 5 per asked field), for which there is room;
  pub room : o.answer.number ≡ numbers.done → long ≤ length before
  pub written : o.answer.number ≡ numbers.done → Is (take long o.out)
  -- later bytes stay.
  pub later : o.answer.number ≡ numbers.done → drop long o.out ≡ drop long before

-- ── the calls ───────────────────────────────────────────────────────────────────────────────

abbrev pub LoadTells : Type 0
LoadTells =
    (sheet : List ℕ)
    → Told load_numbers (load sheet)
    × ((load sheet).units ≡ 0)  -- for load

abbrev pub RunTells : Type 0
RunTells =
    (sheet store : List ℕ) (mode fuel : ℕ) (out : List ℕ)
    → Told run_numbers (run sheet store mode fuel out).answer
    × Leaves (store_length (field_count sheet)) (λ s. (σ : Store Mark) × (s ≡ store_bytes σ (field_count sheet))) out (run sheet store mode fuel out)

abbrev pub HandOutTells : Type 0
HandOutTells =
    (sheet store : List ℕ) (reader : ℕ) (request out : List ℕ)
    → Told hand_out_numbers (hand_out sheet store reader request out).answer
    × Leaves (answer_length request) (λ a. a ≡ answer_bytes (lattice (levels_of sheet)) reader (store_of store) request) out (hand_out sheet store reader request out)
    × ((hand_out sheet store reader request out).answer.units ≡ 0)  -- and for hand-out
