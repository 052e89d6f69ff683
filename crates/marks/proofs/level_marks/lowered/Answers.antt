-- The meet is a level, and the mark is partial there.
use native.Mathlib.Omega.{arith}
use mathlib.Core.Path.{sym, ap, ◌∙◌}
use Rattle.levels.proofs.Facts.{facts}
use Rattle.store.specs.Marks.{partial}
use Rattle.store.proofs.Marks.{known_is, known_at}
use Rattle.marks.proofs.Marking.{meet-level}
use Rattle.marks.proofs.level_marks.lowered.Goals as goal

pub returns : goal.returns
returns c =
    let p = c.requires in
    let is = rw c.level_of.ensures.0 at c.meet.ensures.0 in
    let (made, few) = c.partial_at.ensures in
    (made ∙ ap partial (is ∙ sym (meet-level _ _ _ p.mark p.context-known)), known_at _ _ made few c.meet.ensures.1)

pub level_of-requires : goal.level_of-requires
level_of-requires c = (known_is _ _ c.requires.mark).0

pub meet-requires : goal.meet-requires
meet-requires c =
    let p = c.requires in
    (p.context-known, rw c.level_of.ensures.0 (known_is _ _ p.mark).1)

pub partial_at-requires : goal.partial_at-requires
partial_at-requires c = omega (arith, c.meet.ensures.1, (facts c.args.levels.rows.now c.args.levels.order).few)
