-- Each return has the checks that lead to it, and each check speaks of the sheet's own section.
use Rattle.std.proofs.Common.{ℕ, ◌≡◌, ◌≤◌, ◌<◌, length, true, not, refl, sym, ap, ◌∙◌, arith}
use Rattle.std.proofs.lemmas.Result.{err_from_is_err_and}
use borrow.Author.Tests.{le-ltb, lt-ltb, leb-true, leb-false}
use lib.Dec.{leb}
use Rattle.sections.specs.Sections.{constants_of, nodes_of}
use Rattle.nodes.specs.Nodes.{In, node_count, kind_at}
use Rattle.nodes.specs.Uses.{used_once}
use Rattle.sheet.specs.Load.{last_of, program_of}
use Rattle.sheet.specs.Depth.{cmd_depth}
use Rattle.sheet.specs.Inside.Depth.{depth_at}
use Rattle.sheet.proofs.Depths.{cmd_depth_lem}
use Rattle.nodes.proofs.Counted.{all-counted, zeros}
use Rattle.sheet.proofs.Loading.{nodes-length, NodesPass, layout_told, levels-told, names-told, nodes-told, unused_told, expression_told, depth-told, none_told, formed}
use Rattle.sheet.proofs.load.Goals as goal
use Rattle.sheet.proofs.load.Goals.{In_ok-judge_nodes, Else-not-all_once, Else-is_expression}

-- the checks up to the nodes have passed
passed : (c : In_ok-judge_nodes) → NodesPass c.args.sheet.now
passed c = record {
  layout = sym c.in_ok-judge_sections.ensures;
  levels = sym (rw c.of-parts.ensures.levels at c.new.ensures.judged) ∙ c.is_none.ensures ∙ ap not c.if-is_none.false;
  names = rw c.of-parts.ensures.fields at (sym c.if-not-names_right.ensures);
  nodes = sym (rw (c.of-parts.ensures.nodes, c.of-parts.ensures.constants, c.of-parts.ensures.fields) at c.in_ok-judge_nodes.ensures.0);
}

-- the nodes' part has a last node
last_in : (c : In_ok-judge_nodes) → (1 ≤ node_count c.of-parts.result.nodes.now) × In c.of-parts.result.nodes.now (last_of c.of-parts.result.nodes.now) × (node_count c.of-parts.result.nodes.now ≤ 1024)
last_in c =
    let some : 8 ≤ length c.of-parts.result.nodes.now = rw c.of-parts.ensures.nodes (formed _ (passed c)).some-node in
    let few : length c.of-parts.result.nodes.now ≤ 8192 = rw c.of-parts.ensures.nodes (formed _ (passed c)).few in
    (omega arith, omega arith, omega arith)

-- each node but the last is a child once, and the last is a command
once : (c : Else-not-all_once) → used_once (nodes_of c.args.sheet.now) ≡ true
once c = sym (c.if-not-all_once.ensures ∙ all-counted (c.in_ok-judge_nodes.ensures.1 refl) ∙ ap used_once c.of-parts.ensures.nodes)

command : (c : Else-is_expression) → 4 < kind_at (nodes_of c.args.sheet.now) (last_of (nodes_of c.args.sheet.now))
command c = leb-false _ 4 (sym (rw c.of-parts.ensures.nodes at c.is_expression.ensures) ∙ c.if-is_expression.false)

-- how deep the last node's tree is
depth_is : (c : Else-is_expression) → leb (depth_at (constants_of c.args.sheet.now) (nodes_of c.args.sheet.now) (last_of (nodes_of c.args.sheet.now))) 64 ≡ leb (cmd_depth (program_of c.args.sheet.now)) 64
depth_is c = ap (λ (depth : ℕ). leb depth 64) (cmd_depth_lem _ _ _ (command c))

pub returns-in_err-judge_sections : goal.returns-in_err-judge_sections
returns-in_err-judge_sections c =
    let p = err_from_is_err_and c.from_residual.result c.from_residual.ensures.1 in
    rw (p.1, p.2) (layout_told _ (sym c.in_err-judge_sections.ensures))

pub returns-then-is_none : goal.returns-then-is_none
returns-then-is_none c = levels-told _ (sym c.in_ok-judge_sections.ensures) (sym (rw c.of-parts.ensures.levels at c.new.ensures.judged) ∙ c.is_none.ensures ∙ ap not c.if-is_none.true)

pub returns-then-not-names_right : goal.returns-then-not-names_right
returns-then-not-names_right c =
    names-told _ (sym c.in_ok-judge_sections.ensures) (sym (rw c.of-parts.ensures.levels at c.new.ensures.judged) ∙ c.is_none.ensures ∙ ap not c.if-is_none.false) (rw c.of-parts.ensures.fields at (sym c.if-not-names_right.ensures))

pub judge_nodes-requires : goal.judge_nodes-requires
judge_nodes-requires c =
    let few : length c.of-parts.result.nodes.now ≤ 8192 = rw c.of-parts.ensures.nodes (nodes-length _ (sym c.in_ok-judge_sections.ensures)).1 in
    (omega arith, zeros 1024)

pub returns-in_err-judge_nodes : goal.returns-in_err-judge_nodes
returns-in_err-judge_nodes c =
    let told = sym (rw (c.of-parts.ensures.nodes, c.of-parts.ensures.constants, c.of-parts.ensures.fields) at c.in_err-judge_nodes.ensures.0) in
    let p = err_from_is_err_and c.from_residual-in_err-judge_nodes.result c.from_residual-in_err-judge_nodes.ensures.1 in
    rw (p.1, p.2)
    (nodes-told _ (sym c.in_ok-judge_sections.ensures) (sym (rw c.of-parts.ensures.levels at c.new.ensures.judged) ∙ c.is_none.ensures ∙ ap not c.if-is_none.false) (rw c.of-parts.ensures.fields at (sym c.if-not-names_right.ensures)) told)

pub overflow_sub-last : goal.overflow_sub-last
overflow_sub-last c = (last_in (goal.at.overflow_sub-last c).In_ok-judge_nodes).0

pub all_once-requires : goal.all_once-requires
all_once-requires c = omega (arith, (last_in (goal.at.all_once-requires c).In_ok-judge_nodes).2)

pub returns-then-not-all_once : goal.returns-then-not-all_once
returns-then-not-all_once c =
    let once = sym (c.if-not-all_once.ensures ∙ all-counted (c.in_ok-judge_nodes.ensures.1 refl) ∙ ap used_once c.of-parts.ensures.nodes) in
    unused_told _ (passed (goal.at.returns-then-not-all_once c).In_ok-judge_nodes) once

pub is_expression-requires : goal.is_expression-requires
is_expression-requires c = (last_in (goal.at.is_expression-requires c).In_ok-judge_nodes).1

pub returns-then-is_expression : goal.returns-then-is_expression
returns-then-is_expression c =
    let at = goal.at.returns-then-is_expression c in
    expression_told _ (passed at.In_ok-judge_nodes) (once at.Else-not-all_once) (le-ltb 4 _ (leb-true _ 4 (sym (rw c.of-parts.ensures.nodes at c.is_expression.ensures) ∙ c.if-is_expression.true)))

pub fits-requires : goal.fits-requires
fits-requires c =
    let ok = (goal.at.fits-requires c).In_ok-judge_nodes in
    record { formed = rw c.of-parts.ensures.nodes (formed _ (passed ok)); inside = (last_in ok).1 }

pub returns-then-not-fits : goal.returns-then-not-fits
returns-then-not-fits c =
    let at = goal.at.returns-then-not-fits c in
    let depth = rw c.of-parts.ensures.nodes at (c.if-not-fits.ensures (constants_of c.args.sheet.now)) in
    depth-told _ (passed at.In_ok-judge_nodes) (once at.Else-not-all_once) (lt-ltb 4 _ (command at.Else-is_expression)) (sym (depth ∙ depth_is at.Else-is_expression))

pub returns : goal.returns
returns c =
    let at = goal.at.returns c in
    let depth = rw c.of-parts.ensures.nodes at (c.if-not-fits.ensures (constants_of c.args.sheet.now)) in
    none_told _ (passed at.In_ok-judge_nodes) (once at.Else-not-all_once) (lt-ltb 4 _ (command at.Else-is_expression)) (sym (depth ∙ depth_is at.Else-is_expression))
