-- The lines of the fields passed are put.
use Rattle.report.specs.Inside.Putting.{Put}
use Rattle.report.specs.Text.{each, field_line}
use Rattle.report.proofs.field.put_lines.Given as goal

abbrev pub invariant-loop-i : goal.invariant-loop-i
invariant-loop-i l = Put l.initial.out l.out l.at (each l.i (field_line l.fields l.store)) l.end
