-- The first field that refuses is told; past the last position none does.
use mathlib.Core.Path.{sym}
use borrow.Author.Tests.{tests}
use Rattle.std.proofs.Common.{rules}
use Rattle.basis.proofs.Iterators.{range-find}
use Rattle.handout.specs.Answers.{first_refusing}
use Rattle.handout.proofs.answers.HandOut.first_refusing.Goals as goal

pub returns : goal.returns
unfolding first_refusing
returns c = rw (sym c.count.ensures.asked) (range-find _ _ _ _ c.find.ensures.ran (λ i b q h. search (rules, tests)))
