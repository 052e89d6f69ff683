-- The first node at fault is told; past the last one all are free of faults, and their children are counted.
use Prim.Native.Nat.{◌≤◌}
use native.Mathlib.Omega.{arith}
use Rattle.nodes.specs.Nodes.{node_count}
use mathlib.Core.Path.{◌≡◌, refl, sym, ap, ◌∙◌}
use mathlib.Core.Bool.{true≢false}
use lib.ListN.{length}
use Rattle.std.specs.Prelude.{is_ok}
use Rattle.sections.proofs.Verdicts.{passes-is}
use Rattle.nodes.proofs.Judged.{none_below, one_more, first-told, child_lower}
use Rattle.nodes.proofs.Counted.{slots_length, node-counted, none-counted}
use Rattle.nodes.proofs.judge_nodes.Goals as goal

pub loop-n-init : goal.loop-n-init
loop-n-init c = (refl, refl, none_below _ _ _, none-counted _ _ c.requires.1)

pub take_node-requires : goal.take_node-requires
take_node-requires c =
    let inv = c.loop-n.invariant in
    let long = c.requires.0 in
    let count = inv.0 in
    let same = inv.1 in
    (omega arith, omega arith)

pub returns-then-not-take_node : goal.returns-then-not-take_node
returns-then-not-take_node c =
    let refuses = sym c.take_node.ensures.0 ∙ c.if-not-take_node.true in (
      c.judge_node.ensures ∙ sym (first-told _ _ _ _ _ (omega (arith, c.loop-n.invariant.0)) c.loop-n.invariant.2 refuses),
      λ e. absurd (true≢false (sym e ∙ ap is_ok c.judge_node.ensures ∙ refuses)),
    )

pub loop-n-preserved : goal.loop-n-preserved
loop-n-preserved c =
    let s = c.args.nodes.now in
    let n = c.loop-n.n in
    let used = c.loop-n.used in
    let inv = c.loop-n.invariant in
    let taken = c.if-not-take_node.false in
    let passes = sym c.take_node.ensures.0 ∙ taken in
    let counted = c.take_node.ensures.1 taken in
    let long : n ≤ length used = omega (arith, c.requires.0) in (
      inv.0,
      ap length counted ∙ slots_length s n 3 used ∙ inv.1,
      one_more _ _ _ _ inv.2 (passes-is _ passes),
      rw counted (node-counted s n used long (child_lower _ _ _ _ passes) inv.3),
    )

pub returns : goal.returns
returns c =
    let inv = c.loop-n.invariant in
    let last : c.loop-n.n ≡ node_count c.args.nodes.now = omega (arith, inv.0) in
    (sym (rw last at inv.2), λ e. rw last at inv.3)
