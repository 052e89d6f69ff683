-- The mark, a blank and the value, one after another.
use Rattle.store.specs.Stores.{cell_at}
use Rattle.report.specs.Text.{cell_text}
use Rattle.report.proofs.Putting.{◌then◌}
use Rattle.report.proofs.field.put_cell.Goals as goal

pub returns : goal.returns
unfolding cell_text cell_at
returns c =
    rw c.mark_at.ensures.0 at c.put_mark-mark.ensures
    then c.put_byte-blank.ensures
    then rw c.value_at.ensures at c.put_signed.ensures
