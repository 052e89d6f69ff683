-- Bit j of row i is what the definition asks; right rows have few enough levels for the shift.
use native.Mathlib.Omega.{arith}
use Rattle.levels.specs.Levels.{below}
use Rattle.levels.proofs.Facts.{facts}
use Rattle.levels.proofs.Levels.at_or_below.Goals as goal

pub has-requires : goal.has-requires
has-requires c = omega (arith, (facts c.args.self.rows.now c.args.self.order).few)

pub returns : goal.returns
unfolding below
returns c = rw (c.has.ensures, c.row.ensures)
