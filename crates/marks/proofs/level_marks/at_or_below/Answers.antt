-- The order's own answer, asked about the context and the level of the old mark.
use mathlib.Core.Path.{sym, ◌∙◌}
use Rattle.store.proofs.Marks.{known_is}
use Rattle.marks.proofs.Marking.{order-at}
use Rattle.marks.proofs.level_marks.at_or_below.Goals as goal

pub level_of-requires : goal.level_of-requires
level_of-requires c = (known_is _ _ c.requires.mark).0

pub at_or_below-requires : goal.at_or_below-requires
at_or_below-requires c =
    let p = c.requires in
    (p.context-known, rw c.level_of.ensures.0 (known_is _ _ p.mark).1)

pub returns : goal.returns
returns c =
    let p = c.requires in
    (rw c.level_of.ensures.0 at c.at_or_below.ensures) ∙ sym (order-at _ _ _ p.mark p.context-known)
