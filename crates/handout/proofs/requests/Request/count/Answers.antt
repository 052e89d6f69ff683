-- The bytes are those of a right request.
use native.Mathlib.Omega.{arith}
use Rattle.handout.proofs.Requesting.{right_has}
use Rattle.handout.proofs.requests.Request.count.Goals as goal

pub count-requires : goal.count-requires
count-requires c = omega (arith, (right_has _ _ c.args.self.now.right).size)

pub returns-clause-few : goal.returns-clause-few
returns-clause-few c = omega (arith, (right_has _ _ c.args.self.now.right).few)
