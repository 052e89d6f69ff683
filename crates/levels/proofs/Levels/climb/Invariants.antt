-- What the climb knows of the level found so far, for any summit.
use Prim.Native.Nat.{ℕ, ◌<◌}
use Rattle.levels.specs.Levels.{count}
use Rattle.levels.specs.Inside.Climbing.{IsSummit}
use Rattle.levels.proofs.Climbing.{Found}
use Rattle.levels.proofs.Levels.climb.Given as goal

abbrev pub invariant-loop-k : goal.invariant-loop-k
invariant-loop-k g l = record {
  level : l.found < count l.self.rows.now;
  under : (m : ℕ) → IsSummit l.self.rows.now l.from (goal.F-post g l.passes) m → Found l.self.rows.now m l.k l.found;
}
