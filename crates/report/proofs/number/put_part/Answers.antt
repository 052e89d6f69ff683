-- A blank, then the digits.
use Rattle.report.specs.Text.{part}
use Rattle.report.proofs.Putting.{◌then◌}
use Rattle.report.proofs.number.put_part.Goals as goal

pub returns : goal.returns
unfolding part
returns c = c.put_byte-digits.ensures then c.put_decimal.ensures
