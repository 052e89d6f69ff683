-- The highest level is the summit if every level passes.
use borrow.Author.Rules.{rules}
use Rattle.levels.proofs.Facts.{facts}
use Rattle.levels.proofs.Bounds.{highest_is}
use Rattle.levels.proofs.Climbing.{highest-summit}
use Rattle.levels.proofs.Levels.highest.Goals as goal

pub climb-requires : goal.climb-requires
climb-requires c = record { level = (facts _ c.args.self.order).up.some_level; asks = λ k d. tt }

pub returns : goal.returns
returns c =
    let is = c.climb.ensures _ (highest-summit _ c.args.self.order _ (λ k b e. search rules)) in
    (is, rw is (highest_is _ c.args.self.order).level)
