-- The line's parts, one after another, and there is room for them.
use borrow.Author.Rules.{rules}
use native.Mathlib.Omega.{arith}
use Rattle.report.specs.Text.{refused_text}
use Rattle.report.proofs.Putting.{◌then◌, put_begins}
use Rattle.report.proofs.Printing.{refused-length}
use Rattle.report.proofs.outcome.print_refused.Goals as goal

pub returns : goal.returns
unfolding refused_text
returns c =
    put_begins
    (c.put_text-refused.ensures then rw c.from.ensures at c.put_part-number.ensures then rw c.from-2.ensures at c.put_part-place.ensures then c.put_part-units.ensures then c.put_byte.ensures)
    (omega (arith, c.requires, refused-length c.args.answer (search rules) (search rules) (search rules)))
