-- By the rows.
use Rattle.marks.specs.Inside.Meanings.{meaning}
use Rattle.marks.proofs.LevelMarks.{join-level}
use Rattle.marks.proofs.Run.join.Goals as goal

pub join-requires : goal.join-requires
unfolding meaning
join-requires c =
    let p = c.requires in
    rw c.levels.ensures (record { first = p.first; second = p.second })

pub returns : goal.returns
returns c = join-level _ c.args.m c.args.k (rw c.levels.ensures at c.join.ensures)
