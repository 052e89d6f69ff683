-- Each return is what the node's kind gives, from what its children gave.
use Prim.Native.Nat.{ℕ, ◌≤◌, ◌<◌}
use native.Mathlib.Omega.{arith}
use mathlib.Core.Path.{◌≡◌, sym, ap, ◌∙◌}
use mathlib.Core.List.{List}
use Rattle.value.specs.Values.{not_of}
use Rattle.nodes.specs.Nodes.{kind_at, slot_at}
use Rattle.marks.specs.Inside.Words.{Goes}
use Rattle.marks.specs.declared.Cell.{Cell as Held}
use Rattle.marks.specs.declared.Run.{Run}
use Rattle.flow.specs.Inside.Tasks.{ExpIn, Evaluated}
use Rattle.marks.proofs.Results.{stops_so, goes_so}
use borrow.Author.Tests.{ltb-true, ltb-false}
use Rattle.nodes.specs.declared.kinds.Kind.TheVariants.{Operator, Not}
use Rattle.flow.proofs.Numbered.{is_kind, no_kind}
use Rattle.flow.proofs.Expressions.{left_below, right-below, child_in_lem, left_stop_word, not_word, seal_word, right_stop_word, operator_word}
use Rattle.flow.proofs.eval.+eval_expression.Goals as goal
use Rattle.flow.proofs.eval.+eval_expression.Goals.{eval-then-is_leaf, eval-else-is_leaf+else-is_stop, eval-then-is_leaf-2, eval-else-is_leaf-2+else-is_stop-2}

-- the children are lower expressions
module _ {run : Run} {work : List Held} {n : ℕ} (p : ExpIn run work n) where
  first_child : {a : ℕ} → a ≡ slot_at run.parts.nodes.now n 0 → 2 ≤ kind_at run.parts.nodes.now n → (a < n) × ExpIn run work a
  first_child is kind = rw is (child_in_lem p (left_below p.ready.formed _ p.inside kind p.sort))

  second_child : {b : ℕ} → b ≡ slot_at run.parts.nodes.now n 1 → kind_at run.parts.nodes.now n ≡ 2 → (b < n) × ExpIn run work b
  second_child is kind = rw is (child_in_lem p (right-below p.ready.formed _ p.inside kind))

-- ── by its parts ────────────────────────────────────────────────────────────────────────────

pub eval-known_kind-requires : goal.eval-known_kind-requires
eval-known_kind-requires t c =
    let two = sym c.known_kind-kind.ensures ∙ is_kind _ Operator c.if-eq.ensures in
    let upto : 2 ≤ kind_at c.args.run.now.parts.nodes.now c.args.n = omega (arith, two) in
    let child = first_child c.requires c.slot-a.ensures.0 upto in
    (child.1.inside, omega (arith, child.1.sort))

pub eval-leaf-left-requires : goal.eval-leaf-left-requires
eval-leaf-left-requires t c =
    let two = sym c.known_kind-kind.ensures ∙ is_kind _ Operator c.if-eq.ensures in
    let upto : 2 ≤ kind_at c.args.run.now.parts.nodes.now c.args.n = omega (arith, two) in
    let child = first_child c.requires c.slot-a.ensures.0 upto in
    (child.1, omega (arith, c.known_kind.ensures, ltb-true _ _ (sym c.if-is_leaf.ensures)))

pub eval-expression-x-requires : goal.eval-expression-x-requires
eval-expression-x-requires t c =
    let two = sym c.known_kind-kind.ensures ∙ is_kind _ Operator c.if-eq.ensures in
    let upto : 2 ≤ kind_at c.args.run.now.parts.nodes.now c.args.n = omega (arith, two) in
    let child = first_child c.requires c.slot-a.ensures.0 upto in
    (omega (arith, c.decreases, child.0), child.1)

pub eval-returns-then-is_stop : goal.eval-returns-then-is_stop
eval-returns-then-is_stop t c =
    let two = sym c.known_kind-kind.ensures ∙ is_kind _ Operator c.if-eq.ensures in
    let upto : 2 ≤ kind_at c.args.run.now.parts.nodes.now c.args.n = omega (arith, two) in
    left_stop_word c.requires upto (rw c.slot-a.ensures.0 at c.expression-x.ensures) (stops_so c.if-is_stop.ensures)

pub eval-known_kind-requires-then-eq : goal.eval-known_kind-requires-then-eq
eval-known_kind-requires-then-eq t c =
    let two = sym c.known_kind-kind.ensures ∙ is_kind _ Operator c.if-eq.ensures in
    let child = second_child c.requires c.slot-b.ensures.0 two in
    (child.1.inside, omega (arith, child.1.sort))

pub eval-leaf-right-requires : goal.eval-leaf-right-requires
eval-leaf-right-requires t c =
    let two = sym c.known_kind-kind.ensures ∙ is_kind _ Operator c.if-eq.ensures in
    let child = second_child c.requires c.slot-b.ensures.0 two in
    (child.1, omega (arith, c.known_kind-then-eq.ensures, ltb-true _ _ (sym c.if-is_leaf-2.ensures)))

pub eval-expression-y-requires : goal.eval-expression-y-requires
eval-expression-y-requires t c =
    let two = sym c.known_kind-kind.ensures ∙ is_kind _ Operator c.if-eq.ensures in
    let child = second_child c.requires c.slot-b.ensures.0 two in
    (omega (arith, c.decreases, child.0), child.1)

pub eval-returns-then-is_stop-2 : goal.eval-returns-then-is_stop-2
eval-returns-then-is_stop-2 t c =
    let two = sym c.known_kind-kind.ensures ∙ is_kind _ Operator c.if-eq.ensures in
    let left : Evaluated c.args.run.now c.args.work.now (slot_at c.args.run.now.parts.nodes.now c.args.n 0) c.if-is_leaf.left × Goes c.if-is_leaf.left =
    elim c.if-is_leaf.branch [
      | eval-then-is_leaf w ↦ rw w.left-is (rw c.slot-a.ensures.0 at w.leaf-left.ensures)
      | eval-else-is_leaf+else-is_stop w ↦ rw w.left-is (rw c.slot-a.ensures.0 at w.expression-x.ensures, (goes_so w.if-is_stop.ensures))
    ] in
    right_stop_word c.requires left.0 left.1 two (rw c.slot-b.ensures.0 at c.expression-y.ensures) (stops_so c.if-is_stop-2.ensures)

pub eval-operate-requires : goal.eval-operate-requires
eval-operate-requires t c =
    let left : Evaluated c.args.run.now c.args.work.now (slot_at c.args.run.now.parts.nodes.now c.args.n 0) c.if-is_leaf.left × Goes c.if-is_leaf.left =
    elim c.if-is_leaf.branch [
      | eval-then-is_leaf w ↦ rw w.left-is (rw c.slot-a.ensures.0 at w.leaf-left.ensures)
      | eval-else-is_leaf+else-is_stop w ↦ rw w.left-is (rw c.slot-a.ensures.0 at w.expression-x.ensures, (goes_so w.if-is_stop.ensures))
    ] in
    let right : Evaluated c.args.run.now c.args.work.now (slot_at c.args.run.now.parts.nodes.now c.args.n 1) c.if-is_leaf-2.right × Goes c.if-is_leaf-2.right =
    elim c.if-is_leaf-2.branch [
      | eval-then-is_leaf-2 w ↦ rw w.right-is (rw c.slot-b.ensures.0 at w.leaf-right.ensures)
      | eval-else-is_leaf-2+else-is_stop-2 w ↦ rw w.right-is (rw c.slot-b.ensures.0 at w.expression-y.ensures, (goes_so w.if-is_stop-2.ensures))
    ] in
    let few = c.requires.ready.few-nodes in
    let inside = c.requires.inside in
    (record { askable = c.requires.ready.askable; first = left.0.known left.1; second = right.0.known right.1 }, inside, omega arith)

pub eval-returns-then-eq : goal.eval-returns-then-eq
eval-returns-then-eq t c =
    let two = sym c.known_kind-kind.ensures ∙ is_kind _ Operator c.if-eq.ensures in
    let left : Evaluated c.args.run.now c.args.work.now (slot_at c.args.run.now.parts.nodes.now c.args.n 0) c.if-is_leaf.left × Goes c.if-is_leaf.left =
    elim c.if-is_leaf.branch [
      | eval-then-is_leaf w ↦ rw w.left-is (rw c.slot-a.ensures.0 at w.leaf-left.ensures)
      | eval-else-is_leaf+else-is_stop w ↦ rw w.left-is (rw c.slot-a.ensures.0 at w.expression-x.ensures, (goes_so w.if-is_stop.ensures))
    ] in
    let right : Evaluated c.args.run.now c.args.work.now (slot_at c.args.run.now.parts.nodes.now c.args.n 1) c.if-is_leaf-2.right × Goes c.if-is_leaf-2.right =
    elim c.if-is_leaf-2.branch [
      | eval-then-is_leaf-2 w ↦ rw w.right-is (rw c.slot-b.ensures.0 at w.leaf-right.ensures)
      | eval-else-is_leaf-2+else-is_stop-2 w ↦ rw w.right-is (rw c.slot-b.ensures.0 at w.expression-y.ensures, (goes_so w.if-is_stop-2.ensures))
    ] in
    operator_word c.requires left.0 left.1 two right.0 right.1 c.operate.ensures

pub eval-eval-z-requires : goal.eval-eval-z-requires
eval-eval-z-requires t c =
    let kind : 2 ≤ kind_at c.args.run.now.parts.nodes.now c.args.n = omega (arith, c.known_kind-kind.ensures, ltb-false _ _ (sym c.if-is_leaf-3.ensures)) in
    let child = first_child c.requires c.slot-a.ensures.0 kind in
    (omega (arith, c.decreases, child.0), child.1)

pub eval-returns-then-is_stop-3 : goal.eval-returns-then-is_stop-3
eval-returns-then-is_stop-3 t c =
    let kind : 2 ≤ kind_at c.args.run.now.parts.nodes.now c.args.n = omega (arith, c.known_kind-kind.ensures, ltb-false _ _ (sym c.if-is_leaf-3.ensures)) in
    let given = rw c.slot-a.ensures.0 at c.eval-z.ensures in
    left_stop_word c.requires kind given (stops_so c.if-is_stop-3.ensures)

pub eval-returns-then-eq-2 : goal.eval-returns-then-eq-2
eval-returns-then-eq-2 t c =
    let given = rw c.slot-a.ensures.0 at c.eval-z.ensures in
    let kind = sym c.known_kind-kind.ensures ∙ is_kind _ Not c.if-eq-2.ensures in
    let value = c.not.ensures ∙ ap not_of c.value.ensures in
    not_word c.requires given (goes_so c.if-is_stop-3.ensures) kind value c.mark.ensures c.new.ensures

pub eval-returns : goal.eval-returns
eval-returns t c =
    let given = rw c.slot-a.ensures.0 at c.eval-z.ensures in
    let sort = c.requires.sort in
    let four : kind_at c.args.run.now.parts.nodes.now c.args.n ≡ 4 = omega (arith, c.known_kind-kind.ensures, ltb-false _ _ (sym c.if-is_leaf-3.ensures), no_kind _ Operator c.if-eq.ensures, no_kind _ Not c.if-eq-2.ensures) in
    seal_word c.requires given (goes_so c.if-is_stop-3.ensures) four c.value-2.ensures c.sealed.ensures c.new-2.ensures

-- ── an operator on two leaves ───────────────────────────────────────────────────────────────

pub expression-known_kind-requires-then-eq : goal.expression-known_kind-requires-then-eq
expression-known_kind-requires-then-eq t c =
    let two = sym c.known_kind.ensures ∙ is_kind _ Operator c.if-eq.ensures in
    let upto : 2 ≤ kind_at c.args.run.now.parts.nodes.now c.args.n = omega (arith, two) in
    let child = first_child c.requires c.slot-a.ensures.0 upto in
    (child.1.inside, omega (arith, child.1.sort))

pub expression-leaf-left-requires : goal.expression-leaf-left-requires
expression-leaf-left-requires t c =
    let two = sym c.known_kind.ensures ∙ is_kind _ Operator c.if-eq.ensures in
    let upto : 2 ≤ kind_at c.args.run.now.parts.nodes.now c.args.n = omega (arith, two) in
    let child = first_child c.requires c.slot-a.ensures.0 upto in
    (child.1, omega (arith, c.known_kind-then-eq.ensures, ltb-true _ _ (sym c.if-is_leaf.ensures)))

pub expression-known_kind-requires-then-is_leaf : goal.expression-known_kind-requires-then-is_leaf
expression-known_kind-requires-then-is_leaf t c =
    let two = sym c.known_kind.ensures ∙ is_kind _ Operator c.if-eq.ensures in
    let child = second_child c.requires c.slot-b.ensures.0 two in
    (child.1.inside, omega (arith, child.1.sort))

pub expression-leaf-right-requires : goal.expression-leaf-right-requires
expression-leaf-right-requires t c =
    let two = sym c.known_kind.ensures ∙ is_kind _ Operator c.if-eq.ensures in
    let child = second_child c.requires c.slot-b.ensures.0 two in
    (child.1, omega (arith, c.known_kind-then-is_leaf.ensures, ltb-true _ _ (sym c.if-is_leaf-2.ensures)))

pub expression-operate-requires : goal.expression-operate-requires
expression-operate-requires t c =
    let left = c.leaf-left.ensures in
    let right = c.leaf-right.ensures in
    let few = c.requires.ready.few-nodes in
    let inside = c.requires.inside in
    (record { askable = c.requires.ready.askable; first = left.0.known left.1; second = right.0.known right.1 }, inside, omega arith)

pub expression-returns-then-is_leaf-2 : goal.expression-returns-then-is_leaf-2
expression-returns-then-is_leaf-2 t c =
    let two = sym c.known_kind.ensures ∙ is_kind _ Operator c.if-eq.ensures in
    let left = rw c.slot-a.ensures.0 at c.leaf-left.ensures in
    let right = rw c.slot-b.ensures.0 at c.leaf-right.ensures in
    operator_word c.requires left.0 left.1 two right.0 right.1 c.operate.ensures
