-- By the test of each name, beside those before it.
use mathlib.Core.Path.{◌∙◌}
use mathlib.Core.List.{[]}
use borrow.Author.Rules.{rules}
use borrow.Author.Tests.{tests}
use Rattle.std.proofs.lemmas.Iterator.{YieldsList-from_slice}
use Rattle.std.proofs.lemmas.Iterator.Consumers.{YieldsList-from_enumerate}
use Rattle.basis.proofs.Iterators.{yields-all}
use Rattle.names.proofs.Cut.{is_right, names_lem}
use Rattle.names.proofs.names_right.Goals as goal

pub returns : goal.returns
returns c =
    let same =
    yields-all (is_right c.as_chunks.result.0.now) _ (0, []) c.all.result
    (YieldsList-from_enumerate (YieldsList-from_slice c.as_chunks.result.0.now (cc)) c.enumerate.ensures.count) c.all.ensures.ran
    (λ x b q k. search (rules, tests))
    in
    rw c.as_chunks.ensures.front at same ∙ names_lem c.args.fields.now
