-- The lowest and the highest level of the rows.
use native.Mathlib.Omega.{arith}
use mathlib.Core.Path.{refl}
use Rattle.levels.proofs.Facts.{facts}
use Rattle.marks.proofs.Run.new.Goals as goal

pub overflow_cast-result : goal.overflow_cast-result
overflow_cast-result c = omega (arith, c.lowest.ensures.1, (facts c.args.parts.levels.now c.requires).few)

pub overflow_cast-result-2 : goal.overflow_cast-result-2
overflow_cast-result-2 c = omega (arith, c.highest.ensures.1, (facts c.args.parts.levels.now c.requires).few)

pub returns : goal.returns
returns c = record {
  parts-are = refl;
  mode-is = c.from.ensures;
  level-run = record { order = c.requires; lowest = c.lowest.ensures.0; highest = c.highest.ensures.0 };
}
