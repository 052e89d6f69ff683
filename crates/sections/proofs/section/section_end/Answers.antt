-- The count is two bytes, so the end fits.
use borrow.Author.Rules.{rules}
use Prim.Native.Nat.{ℕ, ◌+◌, ◌*◌, ◌<◌}
use native.Mathlib.Omega.{arith}
use mathlib.Core.Path.{ap}
use Rattle.sections.specs.Sections.{section_end}
use Rattle.sections.proofs.Cuts.{few_bytes}
use Rattle.sections.proofs.section.section_end.Goals as goal

pub overflow_mul-result : goal.overflow_mul-result
overflow_mul-result c =
    let few : c.word.result * c.args.size < 16777216 = few_bytes c.word.result c.args.size (search rules) (search rules) in
    omega arith

pub overflow_add-result : goal.overflow_add-result
overflow_add-result c =
    let few : c.word.result * c.args.size < 16777216 = few_bytes c.word.result c.args.size (search rules) (search rules) in
    omega arith

pub returns : goal.returns
unfolding section_end
returns c = ap (λ (count : ℕ). 2 + count * c.args.size) c.word.ensures.0
