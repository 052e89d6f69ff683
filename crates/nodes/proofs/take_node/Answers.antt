-- The arm of each kind looks at the node's operator and slots for what that kind has in them.
use Prim.Native.Nat.{ℕ}
use mathlib.Core.List.{List}
use mathlib.Core.Path.{◌≡◌, refl, sym, ap, ◌∙◌}
use mathlib.Core.Bool.{true≢false}
use Rattle.nodes.specs.Nodes.{kind_at, op_at, slot_at, kinds, held_in, known, operator_zero}
use Rattle.nodes.proofs.Taken.{Read, an_operator, no_child, taken}
use Rattle.nodes.proofs.Judged.{told_kind}
use Rattle.std.specs.Prelude.{is_ok}
use Rattle.nodes.proofs.take_node.Goals as goal

-- what the code has read, in the arm of a kind
read : {s : List ℕ} {n kind got op a b c : ℕ} → kind ≡ got → got ≡ kind_at s n → op ≡ op_at s n → a ≡ slot_at s n 0 → b ≡ slot_at s n 1 → c ≡ slot_at s n 2
    → Read s n kind op a b c
read e k o x y z = record { kind-is = e ∙ k; op_is = o; a_is = x; b_is = y; c_is = z }

pub returns-in-Constant : goal.returns-in-Constant
unfolding known operator_zero held_in kinds
returns-in-Constant c =
    taken _ _ _ _ _ (read (rw c.in-Constant.is at c.in-Ok.ensures) c.kind_of.ensures c.op_of-op.ensures c.slot-a.ensures.0 c.slot-b.ensures.0 c.slot-c.ensures.0) refl no_child no_child no_child

pub returns-in-Field : goal.returns-in-Field
unfolding known operator_zero held_in kinds
returns-in-Field c =
    taken _ _ _ _ _ (read (rw c.in-Field.is at c.in-Ok.ensures) c.kind_of.ensures c.op_of-op.ensures c.slot-a.ensures.0 c.slot-b.ensures.0 c.slot-c.ensures.0) refl no_child no_child no_child

pub returns-in-Operator : goal.returns-in-Operator
unfolding held_in kinds
returns-in-Operator c =
    taken _ _ _ _ _ (read (rw c.in-Operator.is at c.in-Ok.ensures) c.kind_of.ensures c.op_of-op.ensures c.slot-a.ensures.0 c.slot-b.ensures.0 c.slot-c.ensures.0) (an_operator _) c.take_child.ensures c.take_child-in-Operator.ensures no_child

pub returns-in-Not : goal.returns-in-Not
unfolding known operator_zero held_in kinds
returns-in-Not c =
    taken _ _ _ _ _ (read (rw c.in-Not.is at c.in-Ok.ensures) c.kind_of.ensures c.op_of-op.ensures c.slot-a.ensures.0 c.slot-b.ensures.0 c.slot-c.ensures.0) refl c.take_child-in-Not.ensures no_child no_child

pub returns-in-Seal : goal.returns-in-Seal
unfolding known operator_zero held_in kinds
returns-in-Seal c =
    taken _ _ _ _ _ (read (rw c.in-Seal.is at c.in-Ok.ensures) c.kind_of.ensures c.op_of-op.ensures c.slot-a.ensures.0 c.slot-b.ensures.0 c.slot-c.ensures.0) refl c.take_child-in-Seal.ensures no_child no_child

pub returns-in-Skip : goal.returns-in-Skip
unfolding known operator_zero held_in kinds
returns-in-Skip c =
    taken _ _ _ _ _ (read (rw c.in-Skip.is at c.in-Ok.ensures) c.kind_of.ensures c.op_of-op.ensures c.slot-a.ensures.0 c.slot-b.ensures.0 c.slot-c.ensures.0) refl no_child no_child no_child

pub returns-in-Assign : goal.returns-in-Assign
unfolding known operator_zero held_in kinds
returns-in-Assign c =
    taken _ _ _ _ _ (read (rw c.in-Assign.is at c.in-Ok.ensures) c.kind_of.ensures c.op_of-op.ensures c.slot-a.ensures.0 c.slot-b.ensures.0 c.slot-c.ensures.0) refl no_child c.take_child-in-Assign.ensures no_child

pub returns-in-Sequence : goal.returns-in-Sequence
unfolding known operator_zero held_in kinds
returns-in-Sequence c =
    taken _ _ _ _ _ (read (rw c.in-Sequence.is at c.in-Ok.ensures) c.kind_of.ensures c.op_of-op.ensures c.slot-a.ensures.0 c.slot-b.ensures.0 c.slot-c.ensures.0) refl c.take_child-in-Sequence.ensures c.take_child-in-Sequence-2.ensures no_child

pub returns-in-If : goal.returns-in-If
unfolding known operator_zero held_in kinds
returns-in-If c =
    taken _ _ _ _ _ (read (rw c.in-If.is at c.in-Ok.ensures) c.kind_of.ensures c.op_of-op.ensures c.slot-a.ensures.0 c.slot-b.ensures.0 c.slot-c.ensures.0) refl c.take_child-in-If.ensures c.take_child-in-If-2.ensures c.take_child-in-If-3.ensures

pub returns-in-While : goal.returns-in-While
unfolding known operator_zero held_in kinds
returns-in-While c =
    taken _ _ _ _ _ (read (rw c.in-While.is at c.in-Ok.ensures) c.kind_of.ensures c.op_of-op.ensures c.slot-a.ensures.0 c.slot-b.ensures.0 c.slot-c.ensures.0) refl c.take_child-in-While.ensures c.take_child-in-While-2.ensures no_child

pub returns-in_default : goal.returns-in_default
returns-in_default c = (ap is_ok (told_kind _ _ _ _ (rw c.kind_of.ensures at c.in_default.ensures.1)), λ e. absurd (true≢false (sym e)))
