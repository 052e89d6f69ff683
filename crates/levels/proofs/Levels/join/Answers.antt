-- The join's row is the intersection of both rows, and no other level has that row.
use mathlib.Core.Path.{◌≡◌}
use Rattle.levels.specs.Levels.{join_of}
use Rattle.levels.proofs.Bounds.{join_is}
use Rattle.levels.proofs.Rows.{join-found}
use Rattle.levels.proofs.Levels.join.Goals as goal

pub unwrap-requires : goal.unwrap-requires
unwrap-requires c = rw (join-found _ c.args.self.order _ _ c.requires.0 c.requires.1 c.with_common_row.ensures)

pub returns : goal.returns
returns c =
    let h = c.args.self.order in
    let (a, b) = c.requires in
    let is : c.unwrap.result ≡ join_of c.args.self.rows.now c.args.i c.args.j = cc (join-found _ h _ _ a b c.with_common_row.ensures, c.unwrap.ensures) in
    (is, rw is (join_is _ h _ _ a b).level)
