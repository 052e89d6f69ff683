-- Each turn of the loop leaves to do what gives what the whole command gives. The node number falls at each call, and in the loop it or the fuel.
use Prim.Native.Nat.{◌+◌}
use Rattle.flow.proofs.Running.{Going}
use Rattle.flow.proofs.commands.+execute.Given as goal

abbrev pub invariant-loop-kind : goal.invariant-loop-kind
invariant-loop-kind l = Going l.run l.initial.work l.first l.start l.fuel l.work l.n l.context l.left

abbrev pub decreases-loop-kind : goal.decreases-loop-kind
decreases-loop-kind l = l.left + l.n

abbrev pub decreases-execute : goal.decreases-execute
decreases-execute l = l.first
