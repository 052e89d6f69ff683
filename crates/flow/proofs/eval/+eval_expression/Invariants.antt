-- An expression's own parts come after it, and each child has a lower node number.
use Prim.Native.Nat.{◌+◌, ◌*◌}
use Rattle.flow.proofs.eval.+eval_expression.Given as goal

abbrev pub decreases-eval : goal.decreases-eval
decreases-eval l = l.n * 2

abbrev pub decreases-expression : goal.decreases-expression
decreases-expression l = l.n * 2 + 1
