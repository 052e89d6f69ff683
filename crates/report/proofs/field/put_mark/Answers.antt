-- The level as a part of the line, then the word that the mark asks for.
use Rattle.report.specs.Text.{mark_text}
use Rattle.report.proofs.Putting.{◌then◌}
use Rattle.report.proofs.field.put_mark.Goals as goal

pub returns : goal.returns
unfolding mark_text
returns c =
    rw c.level_said.ensures at c.put_part-level.ensures
    then (c.put_byte-blank.ensures then rw c.mark_word.ensures at c.put_text.ensures)
