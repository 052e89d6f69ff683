-- A read puts what it gives behind what was read before.
use Rattle.std.proofs.Common.{arith, ℕ, List, length, take, ◌++◌, ◌+◌, ◌≤◌, ◌≡◌, ap, subst, ◌∙◌}
use Rattle.std.proofs.KnownBytes.{Consumes-trans}
use Rattle.std.proofs.lemmas.Grind.{common_steps}
use Rattle.std.proofs.lemmas.List.{length-take-le, take-append-le}
use Rattle.std.proofs.Math.Seq.{take-append-add}
use borrow.Rule.Slice.PartMut.{put_mid, post_of}
use Rattle.input.proofs.read_full.Goals as goal

front_of : (a k n : ℕ) (xs ys : List ℕ) → a ≤ length xs → n ≤ length ys → take (a + n) (put_mid a k xs ys) ≡ take a xs ++ take n ys
front_of a k n xs ys h m =
    let zs = ys ++ post_of a k xs in
    subst (λ (b : ℕ). take (b + n) (take a xs ++ zs) ≡ take a xs ++ take n zs) (length-take-le a xs h) (take-append-add (take a xs) zs n)
    ∙ ap (λ (l : List ℕ). take a xs ++ l) (take-append-le n ys (post_of a k xs) m)

pub loop-done-preserved : goal.loop-done-preserved
loop-done-preserved g c =
    let inv = c.loop-done.invariant in
    let read = c.in_ok-n.ensures in
    record {
      within = grind (arith, common_steps, read.bound);
      front = rw (front_of _ _ _ _ _ inv.within read.bound.0) (Consumes-trans _ _ _ _ _ inv.front read.bytes.0);
    }
