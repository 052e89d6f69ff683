-- A slot with the fault decides; past the last one all are free of it.
use native.Mathlib.Omega.{arith}
use mathlib.Core.Path.{◌≡◌, sym, ◌∙◌}
use Rattle.basis.proofs.Tests.{all_none, all_more, all-fails}
use Rattle.nodes.specs.Nodes.{slots_right}
use Rattle.nodes.proofs.slots_right.Goals as goal

pub loop-k-init : goal.loop-k-init
loop-k-init c = (c.kind_of-kind.ensures, all_none _)

pub returns-then-not-slot_right : goal.returns-then-not-slot_right
unfolding slots_right
returns-then-not-slot_right c =
    let wrong = sym (rw (c.held_in.ensures, c.loop-k.invariant.0, c.slot-w.ensures.0) at c.slot_right.ensures) ∙ c.if-not-slot_right.true in
    sym (all-fails _ 3 _ c.loop-k-test.true wrong)

pub loop-k-preserved : goal.loop-k-preserved
loop-k-preserved c =
    let inv = c.loop-k.invariant in
    let right = sym (rw (c.held_in.ensures, inv.0, c.slot-w.ensures.0) at c.slot_right.ensures) ∙ c.if-not-slot_right.false in
    (inv.0, all_more _ _ inv.1 right)

pub returns : goal.returns
unfolding slots_right
returns c =
    let last : c.loop-k.k ≡ 3 = omega arith in
    sym (rw last at c.loop-k.invariant.1)
