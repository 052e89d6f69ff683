-- By the test of each mark.
use borrow.Author.Rules.{rules}
use borrow.Author.Tests.{tests}
use Rattle.basis.proofs.Iterators.{range-all}
use Rattle.store.specs.Stores.{marks_right}
use Rattle.store.proofs.marks_right.Goals as goal

pub returns : goal.returns
unfolding marks_right
returns c = range-all _ _ _ c.all.ensures.ran (λ i b q h. search (rules, tests))
