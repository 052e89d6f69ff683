-- The size, the count, then each field number: what fails contradicts a right request.
use native.Mathlib.Omega.{arith}
use mathlib.Core.Path.{sym, ◌∙◌}
use borrow.Author.Tests.{tests}
use lib.Dec.{ltb}
use Rattle.std.proofs.Common.{rules}
use Rattle.basis.proofs.Iterators.{range-all}
use Rattle.handout.specs.Requests.{field_asked}
use Rattle.handout.proofs.Requesting.{right_by_fields, is_wrong}
use Rattle.handout.proofs.requests.right.Goals as goal

pub returns-then-bytes-lt2 : goal.returns-then-bytes-lt2
returns-then-bytes-lt2 c = sym (is_wrong _ _ (λ r. omega (arith, r.size)))

pub returns-then-bytes-count : goal.returns-then-bytes-count
returns-then-bytes-count c = sym (is_wrong _ _ (λ r. omega (arith, r.size, r.few)))

pub returns : goal.returns
returns c =
    range-all _ (λ i. ltb (field_asked c.args.bytes.now i) c.args.fields) _ c.all.ensures.ran (λ i b q h. search (rules, tests))
    ∙ (let count = c.count-count.ensures.asked in rw count (sym (right_by_fields _ _ (omega arith) (omega arith))))
