-- What a call of run that finishes has run is what the published rules have; one that stops has run what has no end there.
use Prim.Native.Nat.{ℕ}
use mathlib.Core.Path.{◌≡◌, refl, sym, ap, ◌∙◌}
use mathlib.Core.Bool.{true≢false}
use mathlib.Core.List.{List}
use mathlib.Core.Logic.{◌⊎◌, inl, inr}
use Rattle.basis.specs.Numbers as numbers
use Rattle.basis.specs.Answer.{Outcome}
use Rattle.basis.proofs.Tests.{split}
use Rattle.levels.specs.Levels.{right}
use Rattle.levels.specs.Lattice.{Laws, lattice}
use Rattle.levels.proofs.Laws.{laws}
use Rattle.sections.specs.Sections.{levels_of}
use Rattle.sheet.specs.Load.{program_of}
use Rattle.store.specs.Cells.{Store}
use Rattle.store.specs.Marks.{Mark, mode_of}
use Rattle.store.specs.Stores.{store_of}
use Rattle.rules.specs.Ends.{End, done}
use Rattle.rules.specs.Published.{DoneOrSpent, is-done, is-spent}
use Rattle.rules.proofs.Published.{follows, stops_unpublished as tree_stops, reaches_published as tree_reaches}
use Rattle.beltuqash.specs.Calls.{ended}
use Rattle.secrecy.specs.Secrecy.{Call, outcome, Finishes}
use Rattle.secrecy.specs.Published.{Wrote, FinishesAsPublished, StopsUnpublished, ReachesPublished, FinishesWithEnough}
use Rattle.secrecy.proofs.Finished.{Passed, executed, finished, given, outcome-is, written}
use Rattle.secrecy.proofs.Halted.{halted}

-- the levels of a sheet whose call passed are a lattice
ordered : (sheet : List ℕ) (mode : ℕ) (c : Call) → Passed sheet c.start mode c.fuel c.lent → Laws (lattice (levels_of sheet))
ordered sheet mode c passed = laws (levels_of sheet) (given passed).taken.loaded.levels

pub finishes_as_published : FinishesAsPublished
finishes_as_published sheet mode c e =
    let x = finished sheet c.start mode c.fuel c.lent e in
    record {
      final = x.final;
      executes = follows (lattice (levels_of sheet)) (ordered sheet mode c x.checks) (mode_of mode) (program_of sheet) _ (store_of c.start) x.final c.fuel x.left x.ran;
      written = written x;
    }

pub stops_unpublished : StopsUnpublished
stops_unpublished sheet mode c why e final r =
    let x = halted sheet c.start mode c.fuel c.lent why e in
    tree_stops (lattice (levels_of sheet)) (ordered sheet mode c x.checks) (mode_of mode) (program_of sheet) _ (store_of c.start) c.fuel x.why x.place x.left x.ran final r

-- a call that passed and whose run is done finishes with its store
done-finishes : (sheet : List ℕ) (mode : ℕ) (c : Call) (final : Store Mark) (left : ℕ) → Passed sheet c.start mode c.fuel c.lent
    → executed sheet c.start mode c.fuel c.lent ≡ done final left → Finishes sheet mode c × Wrote sheet mode c final
unfolding ended
done-finishes sheet mode c final left passed e =
    (ap (λ (o : Outcome). o.answer.number) (outcome-is passed e), written (record { checks = passed; final = final; left = left; ran = e }))

-- a run that is done with this store, or whose fuel is used up
reached : (sheet : List ℕ) (mode : ℕ) (c : Call) (final : Store Mark) → Passed sheet c.start mode c.fuel c.lent → (x : End Mark)
    → executed sheet c.start mode c.fuel c.lent ≡ x → DoneOrSpent final x
    → (Finishes sheet mode c × Wrote sheet mode c final) ⊎ ((outcome sheet mode c).answer.number ≡ numbers.fuel_spent)
unfolding ended
reached sheet mode c final passed x e is-done = inl (done-finishes sheet mode c final _ passed e)
reached sheet mode c final passed x e is-spent = inr (ap (λ (o : Outcome). o.answer.number) (outcome-is passed e))

pub reaches_published : ReachesPublished
reaches_published sheet mode c final passes r =
    let passed : Passed sheet c.start mode c.fuel c.lent = record { hold = passes } in
    let there = tree_reaches (lattice (levels_of sheet)) (ordered sheet mode c passed) (mode_of mode) (program_of sheet) _ (store_of c.start) final r in
    reached sheet mode c final passed _ refl (there.reached c.fuel)

pub finishes-with-enough : FinishesWithEnough
finishes-with-enough sheet mode start final r =
    split (right (levels_of sheet))
    (λ t.
    let reached = tree_reaches (lattice (levels_of sheet)) (laws (levels_of sheet) t) (mode_of mode) (program_of sheet) _ (store_of start) final r in (
      reached.enough,
      λ fuel lent h passes.
          let (left, e) = reached.finishes fuel h in
          done-finishes sheet mode (record { start = start; fuel = fuel; lent = lent }) final left (record { hold = passes }) e,
    ))
    (λ f. (
      0,
      λ fuel lent h passes.
          let passed : Passed sheet start mode fuel lent = record { hold = passes } in
          absurd (true≢false (sym (given passed).taken.loaded.levels ∙ f)),
    ))
