-- The parts of a line, one after another.
use Rattle.report.specs.Text.{field_line}
use Rattle.report.proofs.Putting.{◌then◌}
use Rattle.report.proofs.field.put_line.Goals as goal

pub returns : goal.returns
unfolding field_line
returns c = c.put_name-name.ensures then c.put_cell-cell.ensures then c.put_byte.ensures
