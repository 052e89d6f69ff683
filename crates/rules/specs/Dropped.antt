-- A while that drops its joined context before the next test and joins the old one with that test instead. It is another monitor by its text, but not
-- by its outcomes: the body ran in a context at or above the test's level, so no field that the test reads is left whole below that level.
-- `proofs/Dropped.antt` proves it. What document 01 rules out is a later round that runs in the old context alone.
use Rattle.std.specs.Prelude.{ℕ, zero, suc, ◌≡◌}
use Rattle.sheet.specs.Trees.{Exp, Cmd}
use Rattle.levels.specs.Lattice.{Lattice, Laws}
use Rattle.rules.specs.Rules.{Marking, tested, exec_by, exec}
use Rattle.store.specs.Cells.{Store}
use Rattle.rules.specs.Ends.{End, done, spent, bind}
use Rattle.store.specs.declared.Mode.{Mode}
use Rattle.rules.specs.LevelMarks.{marking}

module _ {Mark Seen Context : Type 0} (𝓜 : Marking Mark Seen Context) where
  -- as `rounds`, but the next round starts from the old context
  unfoldable pub dropping : ℕ → Exp → (Context → Store Mark → ℕ → End Mark) → ℕ → Context → Store Mark → ℕ → End Mark
  dropping place a body zero context σ fuel = spent place
  dropping place a body (suc bound) context σ fuel =
      tested 𝓜 place a context σ fuel (λ c left. bind (body c σ left) (dropping place a body bound context)) (λ c left. done σ left)

  -- as `exec`, with every while so
  abbrev pub exec_dropping : Cmd → Context → Store Mark → ℕ → End Mark
  exec_dropping = exec_by 𝓜 (λ place a body context σ fuel. dropping place a body fuel context σ fuel)

abbrev pub DroppingSame : Type 0
DroppingSame = (𝓛 : Lattice) → Laws 𝓛 → (mode : Mode) (c : Cmd) → exec_dropping (marking 𝓛 mode) c ≡ exec (marking 𝓛 mode) c
