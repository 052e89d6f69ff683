-- The bytes are those of a right request.
use native.Mathlib.Omega.{arith}
use Rattle.handout.proofs.Requesting.{right_has}
use Rattle.handout.proofs.requests.Request.field.Goals as goal

pub field_at-requires : goal.field_at-requires
field_at-requires c = omega (arith, (right_has _ _ c.args.self.now.right).size)

pub returns-clause-known : goal.returns-clause-known
returns-clause-known c = rw c.field_at.ensures.asked ((right_has _ _ c.args.self.now.right).known _ c.requires)
