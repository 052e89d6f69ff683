-- The lowest level's row has every level, and no other row does.
use native.Mathlib.Omega.{arith}
use mathlib.Core.Path.{◌≡◌}
use Rattle.levels.specs.Levels.{lowest_of}
use Rattle.levels.proofs.Facts.{facts}
use Rattle.levels.proofs.Bounds.{lowest_is}
use Rattle.levels.proofs.Rows.{lowest-found}
use Rattle.levels.proofs.Levels.lowest.Goals as goal

pub full-requires : goal.full-requires
full-requires c = omega (arith, (facts _ c.args.self.order).few)

pub unwrap-requires : goal.unwrap-requires
unwrap-requires c = rw (lowest-found _ c.args.self.order (rw (c.full.ensures, c.count.ensures) at c.with_row.ensures))

pub returns : goal.returns
returns c =
    let h = c.args.self.order in
    let is : c.unwrap.result ≡ lowest_of c.args.self.rows.now = cc (lowest-found _ h (rw (c.full.ensures, c.count.ensures) at c.with_row.ensures), c.unwrap.ensures) in
    (is, rw is (lowest_is _ h).level)
