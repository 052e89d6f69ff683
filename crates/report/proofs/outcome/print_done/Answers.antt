-- The head line's parts, one after another, then the fields' lines; and there is room for those of 64 fields.
use borrow.Author.Rules.{rules}
use native.Mathlib.Omega.{arith}
use Rattle.report.specs.Inside.Putting.{Put}
use Rattle.report.specs.Text.{done_text}
use Rattle.report.proofs.Putting.{◌then◌, put_begins}
use Rattle.report.proofs.Printing.{done-length}
use Rattle.report.proofs.outcome.print_done.Goals as goal

pub returns : goal.returns
unfolding done_text
returns c =
    let args = c.args in
    let said : Put args.out.now c.put_lines.new.out 0 (done_text args.units args.fields.now args.store.now) c.put_lines.result =
    c.put_text-done.ensures then c.put_part-spent.ensures then c.put_byte-head.ensures then c.put_lines.ensures in
    let long = done-length args.units args.fields.now args.store.now (search rules) c.requires.0.few (λ k. omega (arith, c.type_inv.store k)) in
    put_begins said (omega (arith, c.requires.1, long))
