-- Where the context is the field's own mark, or lies at or below its level by the rows, the mark is joined; else a strict run stops, and any other lowers
-- the field.
use mathlib.Core.Path.{◌≡◌, sym, ◌∙◌}
use mathlib.Core.Bool.{true}
use Rattle.levels.specs.Lattice.{lattice}
use Rattle.store.specs.Marks.{level_of, mark_of}
use Rattle.marks.specs.Inside.Meanings.{rows_in, meaning}
use Rattle.marks.proofs.Marking.{level-mark}
use Rattle.marks.proofs.LevelMarks.{same-below, store_below, store_kept, store-strict, store_lowered}
use Rattle.marks.proofs.Run.store.Goals as goal
use Rattle.marks.proofs.Run.store.Goals.{then-old-context-via-then-old-context, then-old-context-via-else-old-context+then-at_or_below}

pub at_or_below-requires : goal.at_or_below-requires
unfolding meaning
at_or_below-requires c =
    let p = c.requires in
    rw c.levels-levels.ensures (record { context-known = p.context-known; mark = p.mark })

pub returns-then-m-old : goal.returns-then-m-old
unfolding meaning
returns-then-m-old c =
    let p = c.requires in
    let below =
    elim c.then-old-context.branch as (λ _. (lattice (rows_in c.args.self.now)).le c.args.context (level_of (mark_of c.args.old)) ≡ true) [
      | then-old-context-via-then-old-context w ↦
          same-below c.args.self.now c.args.n _ c.args.m p.askable.order p.context-known c.args.old w.if-old-context.true
      | then-old-context-via-else-old-context+then-at_or_below w ↦
          sym (rw c.levels-levels.ensures at w.at_or_below.ensures) ∙ w.if-at_or_below.true
    ] in
    store_kept c.args.self.now c.args.n _ c.args.m p.askable.order p.context-known c.args.old below c.if-m-old.true p.mark

pub join-requires : goal.join-requires
unfolding meaning
join-requires c =
    let p = c.requires in
    rw c.levels-levels.ensures (record { first = p.seen; second = (level-mark _ p.askable.order _ p.context-known).1 })

pub returns-then-old-context : goal.returns-then-old-context
unfolding meaning
returns-then-old-context c =
    let p = c.requires in
    let below =
    elim c.then-old-context.branch as (λ _. (lattice (rows_in c.args.self.now)).le c.args.context (level_of (mark_of c.args.old)) ≡ true) [
      | then-old-context-via-then-old-context w ↦
          same-below c.args.self.now c.args.n _ c.args.m p.askable.order p.context-known c.args.old w.if-old-context.true
      | then-old-context-via-else-old-context+then-at_or_below w ↦
          sym (rw c.levels-levels.ensures at w.at_or_below.ensures) ∙ w.if-at_or_below.true
    ] in
    store_below c.args.self.now c.args.n _ c.args.m p.askable.order p.context-known c.args.old _ below (rw c.levels-levels.ensures at c.join.ensures)

pub returns-in-Strict : goal.returns-in-Strict
unfolding meaning
returns-in-Strict c =
    let p = c.requires in
    store-strict c.args.self.now _ _ _ p.askable.order p.context-known c.args.old
    (sym (rw c.levels-levels.ensures at c.at_or_below.ensures) ∙ c.if-at_or_below.false) c.in-Strict.is

pub lowered-requires : goal.lowered-requires
unfolding meaning
lowered-requires c =
    let p = c.requires in
    rw c.levels-levels.ensures (record { context-known = p.context-known; mark = p.mark })

pub returns-in-Permissive : goal.returns-in-Permissive
unfolding meaning
returns-in-Permissive c =
    let p = c.requires in
    store_lowered c.args.self.now _ _ _ p.askable.order p.context-known c.args.old _
    (sym (rw c.levels-levels.ensures at c.at_or_below.ensures) ∙ c.if-at_or_below.false) c.in-Permissive.is (rw c.levels-levels.ensures at c.lowered.ensures)
