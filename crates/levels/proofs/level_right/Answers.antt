-- Every pair is asked.
use borrow.Author.Rules.{rules}
use borrow.Author.Tests.{tests}
use Rattle.levels.specs.Inside.Judging.{level_right}
use Rattle.basis.proofs.Iterators.{range-all}
use Rattle.levels.proofs.level_right.Goals as goal

pub returns : goal.returns
unfolding level_right
returns c = range-all _ _ _ c.all.ensures.ran (λ j b q h. search (rules, tests))
