-- The part from the count to the section's end.
use Rattle.sections.proofs.Cuts.{entries-is}
use Rattle.sections.proofs.section.entries.Goals as goal

pub returns : goal.returns
returns c = rw c.min.ensures (entries-is _ _ _ c.part_end-end.ensures)
