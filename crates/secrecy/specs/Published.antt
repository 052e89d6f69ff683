-- The published rules, over the bytes of the exported call: a run that finishes, finishes as they say; one that stops has no end there; and what has an end
-- there finishes with it, if the fuel lasts. `proofs/Published.antt` proves the statements.
use Rattle.std.specs.Prelude.{ℕ, ◌≤◌, ◌≡◌, true, List, ◌⊎◌, length}
use Rattle.basis.specs.Numbers as numbers
use Rattle.basis.specs.Checks.{all_hold}
use Rattle.levels.specs.Lattice.{lattice}
use Rattle.sections.specs.Sections.{levels_of}
use Rattle.sheet.specs.Load.{field_count, program_of}
use Rattle.store.specs.Cells.{Store}
use Rattle.store.specs.Marks.{Mark, mode_of}
use Rattle.store.specs.Stores.{store_of, store_bytes}
use Rattle.rules.specs.Ends.{Why, stop_number}
use Rattle.rules.specs.Published.{Executes}
use Rattle.beltuqash.specs.Calls.{run_checks}
use Rattle.secrecy.specs.Secrecy.{Call, outcome, Finishes, final_store}

-- The published rules have this end for the sheet's program, from a start store and context BOT.
abbrev pub Ends : List ℕ → ℕ → List ℕ → Store Mark → Type 0
Ends sheet mode start final = Executes (lattice (levels_of sheet)) (mode_of mode) (program_of sheet) (lattice (levels_of sheet)).bot (store_of start) final

-- A call of run has written it.
abbrev pub Wrote : List ℕ → ℕ → Call → Store Mark → Type 0
Wrote sheet mode c final = final_store sheet mode c ≡ store_bytes final (field_count sheet)

-- A call of run that finishes has written a store that the published rules have.
pub record PublishedEnd (sheet : List ℕ) (mode : ℕ) (c : Call) : Type 0 where
  pub final : Store Mark
  pub executes : Ends sheet mode c.start final
  pub written : Wrote sheet mode c final

abbrev pub FinishesAsPublished : Type 0
FinishesAsPublished = (sheet : List ℕ) (mode : ℕ) (c : Call) → Finishes sheet mode c → PublishedEnd sheet mode c

-- A call that gives 13 to 16 has no published end.
abbrev pub StopsUnpublished : Type 0
StopsUnpublished =
    (sheet : List ℕ) (mode : ℕ) (c : Call) (why : Why) → (outcome sheet mode c).answer.number ≡ stop_number why
    → (final : Store Mark) → Ends sheet mode c.start final → ⊥

-- a call that passes its checks
abbrev pub Passes : List ℕ → ℕ → Call → Type 0
Passes sheet mode c = all_hold (run_checks sheet c.start mode c.fuel (length c.lent)) ≡ true

-- Where the rules have an end, a call that passes its checks finishes with it or gives 12,
abbrev pub ReachesPublished : Type 0
ReachesPublished =
    (sheet : List ℕ) (mode : ℕ) (c : Call) (final : Store Mark) → Passes sheet mode c → Ends sheet mode c.start final
    → (Finishes sheet mode c × Wrote sheet mode c final) ⊎ ((outcome sheet mode c).answer.number ≡ numbers.fuel_spent)

-- and with fuel enough finishes.
abbrev pub FinishesWithEnough : Type 0
FinishesWithEnough =
    (sheet : List ℕ) (mode : ℕ) (start : List ℕ) (final : Store Mark) → Ends sheet mode start final
    → (enough : ℕ) × ((fuel : ℕ) (lent : List ℕ) → let c : Call = record { start = start; fuel = fuel; lent = lent } in
    enough ≤ fuel → Passes sheet mode c → Finishes sheet mode c × Wrote sheet mode c final)
