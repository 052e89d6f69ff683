-- Checks in order: what passes, and what is told first.
use mathlib.Core.Path.{◌≡◌, refl, sym, ap}
use mathlib.Core.Bool.{Bool, true, false, ◌&&◌, true≢false}
use Prim.Native.Nat.{ℕ, ◌<◌}
use Rattle.std.specs.Prelude.{Ok, Err, is_ok}
use Rattle.sections.specs.Verdict.{Verdict, error_place, verdict_number, verdict_place, ◌then◌, told}
use Rattle.basis.specs.Numbers as numbers
use native.Mathlib.Omega.{arith}
use Rattle.sections.specs.declared.verdict.SheetError.{SheetError}
use Rattle.sections.specs.declared.verdict.SheetError.TheVariants.{Length, Count, Levels, Name, Node, Uses, Depth}
use Rattle.sections.specs.declared.verdict.Fault.TheVariants.{Unknown, Unused, Range, Sort}

pub passes-is : (v : Verdict) → is_ok v ≡ true → v ≡ Ok tt
passes-is (Ok none) e = refl
passes-is (Err d) e = absurd (true≢false (sym e))

-- nothing that is wrong has number 0
pub number-some : (v : Verdict) → is_ok v ≡ false → verdict_number v ≡ numbers.done → ⊥
number-some (Ok none) f e = absurd (true≢false f)
number-some (Err Length) f e = omega arith
number-some (Err Count) f e = omega arith
number-some (Err Levels) f e = omega arith
number-some (Err Name) f e = omega arith
number-some (Err (Node Unknown n)) f e = omega arith
number-some (Err (Node Unused n)) f e = omega arith
number-some (Err (Node Range n)) f e = omega arith
number-some (Err (Node Sort n)) f e = omega arith
number-some (Err Uses) f e = omega arith
number-some (Err Depth) f e = omega arith

pub then_next : (v w : Verdict) → v ≡ Ok tt → (v then w) ≡ w
unfolding ◌then◌
then_next v w e = rw e

pub then_first : (v w : Verdict) → is_ok v ≡ false → (v then w) ≡ v
unfolding ◌then◌
then_first (Ok none) w e = absurd (true≢false e)
then_first (Err d) w e = refl

pub both_pass : (v w : Verdict) → (v then w) ≡ Ok tt → (v ≡ Ok tt) × (w ≡ Ok tt)
unfolding ◌then◌
both_pass (Ok none) w e = (refl, e)
both_pass (Err d) w e = absurd (true≢false (sym (ap is_ok e)))

-- a check that passes
pub told-right : (right : Bool) (d : SheetError) → told right d ≡ Ok tt → right ≡ true
told-right true d e = refl
told-right false d e = absurd (true≢false (sym (ap is_ok e)))

-- checks in order pass where each does
pub told_then : (right : Bool) (d : SheetError) (w : Verdict) → is_ok (told right d then w) ≡ (right && is_ok w)
unfolding ◌then◌
told_then true d w = refl
told_then false d w = refl

pub told_last : (right : Bool) (d : SheetError) → is_ok (told right d) ≡ right
told_last true d = refl
told_last false d = refl

-- what is told has a place below a number, if each check has
module _ (few : ℕ) where
  abbrev pub Placed : Verdict → Type 0
  Placed v = verdict_place v < few

  pub told-placed : (right : Bool) (d : SheetError) → 0 < few → error_place d < few → Placed (told right d)
  told-placed true d some h = some
  told-placed false d some h = h

  pub then_placed : (v w : Verdict) → Placed v → (v ≡ Ok tt → Placed w) → Placed (v then w)
  unfolding ◌then◌
  then_placed (Ok none) w h next = next refl
  then_placed (Err d) w h next = h
