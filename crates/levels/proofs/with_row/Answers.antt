-- What `find` says of the numbers below the count.
use borrow.Author.Rules.{rules}
use borrow.Author.Tests.{tests}
use Rattle.basis.proofs.Iterators.{range-find}
use Rattle.levels.proofs.Rows.{found_row}
use Rattle.levels.proofs.with_row.Goals as goal

pub returns : goal.returns
returns c = found_row c.args.rows.now c.args.wanted _ (range-find _ _ _ _ c.find.ensures.ran (λ k b q h. search (rules, tests)))
