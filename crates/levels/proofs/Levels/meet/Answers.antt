-- The meet is the summit of the levels at or below both.
use borrow.Author.Rules.{rules}
use Rattle.levels.proofs.Bounds.{meet-is}
use Rattle.levels.proofs.Climbing.{meet-summit}
use Rattle.levels.proofs.Levels.meet.Goals as goal

pub returns : goal.returns
returns c =
    let is =
    c.climb.ensures _ (rw c.lowest.ensures.0 (meet-summit _ c.args.self.order _ _ _ c.requires.0 c.requires.1 (λ k b e. search rules)))
    in
    (is, rw is (meet-is _ c.args.self.order _ _ c.requires.0 c.requires.1).level)
