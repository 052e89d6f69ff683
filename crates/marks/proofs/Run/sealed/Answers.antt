-- The run names it.
use Rattle.marks.specs.Inside.Meanings.{meaning}
use Rattle.marks.proofs.LevelMarks.{sealed-level}
use Rattle.marks.proofs.Run.sealed.Goals as goal

pub returns : goal.returns
unfolding meaning
returns c = sealed-level _ c.requires
