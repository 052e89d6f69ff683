-- A test at the context's own level leaves the context; a partial test is a stop; else the context is joined with the test's level.
use mathlib.Core.Path.{sym, ◌∙◌}
use Rattle.marks.specs.Inside.Meanings.{meaning}
use Rattle.marks.proofs.Marking.{level-mark}
use Rattle.marks.proofs.LevelMarks.{enter-same, enter_partial, enter-whole}
use Rattle.marks.proofs.Run.enter.Goals as goal

pub returns : goal.returns
unfolding meaning
returns c =
    let p = c.requires in
    enter-whole c.args.self.now _ _ _ p.askable.order p.context-known (sym c.is_partial.ensures ∙ c.if-is_partial.false) (rw c.levels.ensures at c.join.ensures)

pub returns-then-m-context : goal.returns-then-m-context
unfolding meaning
returns-then-m-context c =
    let p = c.requires in
    enter-same c.args.self.now _ _ _ p.askable.order p.context-known c.if-m-context.true

pub returns-then-is_partial : goal.returns-then-is_partial
unfolding meaning
returns-then-is_partial c =
    let p = c.requires in
    enter_partial c.args.self.now _ _ _ p.askable.order p.context-known (sym c.is_partial.ensures ∙ c.if-is_partial.true)

pub join-requires : goal.join-requires
unfolding meaning
join-requires c =
    let p = c.requires in
    rw c.levels.ensures (record { first = (level-mark _ p.askable.order _ p.context-known).1; second = p.seen })
