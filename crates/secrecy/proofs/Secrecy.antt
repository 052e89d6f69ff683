-- Demand 3 holds: what number 0 means, noninterference over trees, and agreement of what is written, put together.
use Prim.Native.Nat.{ℕ, ◌<◌}
use native.Mathlib.Nat.{le_trans}
use native.Mathlib.Omega.{arith}
use mathlib.Core.Path.{◌≡◌, sym, ◌∙◌}
use mathlib.Core.Bool.{false}
use mathlib.Core.List.{List}
use mathlib.Core.Logic.{◌⊎◌, inl, inr}
use Rattle.levels.specs.Lattice.{Laws, lattice}
use Rattle.levels.proofs.Laws.{laws}
use Rattle.sections.specs.Sections.{levels_of}
use Rattle.sheet.specs.Load.{field_count, program_of}
use Rattle.store.specs.Marks.{mode_of}
use Rattle.store.specs.Stores.{store_of}
use Rattle.beltuqash.proofs.Checking.{few-fields}
use Rattle.secrecy.specs.Secrecy.{final_store, BelowHighest, NoneHalfClosed, FinalStoresAgree, AnswersSame, StrictInsidePermissive}
use Rattle.secrecy.proofs.Readers.{Whole, agreeing}
use Rattle.secrecy.proofs.Written.{level_in, levels_stay, written-agree}
use Rattle.secrecy.proofs.Finished.{Finished, finished, given, outcome-is, written, permissive_passes, permissive_ran}
use Rattle.secrecy.proofs.Answered.{same_bytes}
use Rattle.secrecy.proofs.Starting.{below_highest, few-levels, start-levels, start-whole, start-agree}

module _ {sheet store : List ℕ} {mode fuel : ℕ} {out : List ℕ} (x : Finished sheet store mode fuel out) where
  ordered : Laws (lattice (levels_of sheet))
  ordered = laws (levels_of sheet) (given x.checks).taken.loaded.levels

  final-levels : (i : ℕ) → level_in (x.final i) < 16
  final-levels i =
      le_trans
      (levels_stay _ ordered (mode_of mode) (program_of sheet) _ (store_of store) x.final fuel x.left x.ran (start-levels (given x.checks).taken) i)
      (few-levels (levels_of sheet) (given x.checks).taken.loaded.levels)

pub final_stores_agree : FinalStoresAgree
final_stores_agree sheet mode first second R two =
    let (e₁, e₂) = two.finish in
    let x = finished sheet first.start mode first.fuel first.lent e₁ in
    let y = finished sheet second.start mode second.fuel second.lent e₂ in
    let fields = field_count sheet in
    let few : fields < 256 = omega (arith, few-fields sheet (given x.checks).taken.loaded) in
    rw (written x, written y)
    (written-agree (lattice (levels_of sheet)) R fields x.final y.final few (final-levels x) (final-levels y)
    (agreeing (lattice (levels_of sheet)) (ordered x) R (mode_of mode) (program_of sheet) (lattice (levels_of sheet)).bot first.fuel second.fuel
    (store_of first.start) (store_of second.start) (start-agree (given x.checks).taken R (given y.checks).taken two.agree) (placed x y two.stands)
    x.final y.final x.left y.left x.ran y.ran))
  where
    placed : (x : Finished sheet first.start mode first.fuel first.lent) (y : Finished sheet second.start mode second.fuel second.lent)
        → BelowHighest sheet R ⊎ (NoneHalfClosed first.start × NoneHalfClosed second.start)
        → ((lattice (levels_of sheet)).le (lattice (levels_of sheet)).top R ≡ false) ⊎ (Whole (store_of first.start) × Whole (store_of second.start))
    placed x y (inl below) = inl (below_highest (levels_of sheet) (given x.checks).taken.loaded.levels R two.reader below)
    placed x y (inr (p, q)) = inr (start-whole (given x.checks).taken p, start-whole (given y.checks).taken q)

pub answers_same : AnswersSame
answers_same sheet mode first second R two request lent₁ lent₂ (e₁, e₂) =
    same_bytes sheet R request (final_store sheet mode first) (final_store sheet mode second) lent₁ lent₂ (final_stores_agree sheet mode first second R two) e₁ e₂

pub strict_inside_permissive : StrictInsidePermissive
strict_inside_permissive sheet c e =
    let x = finished sheet c.start 0 c.fuel c.lent e in
    outcome-is (permissive_passes x.checks) (permissive_ran x) ∙ sym (outcome-is x.checks x.ran)
