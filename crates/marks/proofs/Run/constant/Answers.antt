-- The run names it.
use Rattle.marks.specs.Inside.Meanings.{meaning}
use Rattle.marks.proofs.LevelMarks.{constant-level}
use Rattle.marks.proofs.Run.constant.Goals as goal

pub returns : goal.returns
unfolding meaning
returns c = constant-level _ c.requires
