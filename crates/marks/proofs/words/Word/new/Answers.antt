-- The bits and the mark's number stand apart in the word.
use borrow.Author.Rules.{rules}
use native.Mathlib.Omega.{arith}
use Rattle.marks.proofs.Results.{bits_few, value_back}
use Rattle.marks.proofs.words.Word.new.Goals as goal

pub returns : goal.returns
returns c =
    let bits = c.bits.ensures in
    let few = bits_few c.args.v.n (search rules) in
    record { value = value_back c.args.v.n c.bits.result c.args.mark (search rules) bits; mark-is = omega arith }
