-- What is found only goes up, and stays at the summit once it is there.
use Prim.Native.Nat.{◌<◌}
use native.Mathlib.Omega.{arith}
use Rattle.levels.specs.Levels.{count}
use Rattle.levels.proofs.Climbing.{goes_up, stays-beside, stays-unpassed}
use Rattle.levels.proofs.Levels.climb.Goals as goal
use Rattle.levels.proofs.Levels.climb.Goals.{then-at_or_below+then-passes, else-at_or_below, else-at_or_below-via-then-at_or_below+else-passes, else-at_or_below-via-else-at_or_below}

pub loop-k-preserved : goal.loop-k-preserved
loop-k-preserved g c =
    let inside : c.loop-k.k < count c.args.self.rows.now = omega arith in
    let order = c.args.self.order in
    let so_far = c.loop-k.invariant in
    elim c.if-at_or_below.branch [
      | then-at_or_below+then-passes w ↦ rw w.found-is (record {
        level = inside;
        under = λ m t. goes_up _ order _ _ m t _ _ (so_far.under m t) inside (rw c.at_or_below.ensures at w.if-at_or_below.true) (rw w.if-passes.true at w.passes.ensures);
      })
      | else-at_or_below w ↦ rw w.found-is (record {
        level = so_far.level;
        under = λ m t. elim w.else-at_or_below.branch [
          | else-at_or_below-via-then-at_or_below+else-passes v ↦ stays-unpassed _ order _ _ m t _ _ (so_far.under m t) (rw v.if-passes.false at v.passes.ensures)
          | else-at_or_below-via-else-at_or_below v ↦ stays-beside _ order _ _ m t _ _ (so_far.under m t) (rw c.at_or_below.ensures at v.if-at_or_below.false)
        ];
      })
    ]
