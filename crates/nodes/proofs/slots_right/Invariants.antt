-- The slots passed are free of the fault.
use mathlib.Core.Path.{◌≡◌}
use mathlib.Core.Bool.{true}
use Rattle.basis.specs.Tests.{all}
use Rattle.nodes.specs.Nodes.{kind_at, slot_at, held_in, slot_right}
use Rattle.nodes.proofs.slots_right.Given as goal

abbrev pub invariant-loop-k : goal.invariant-loop-k
invariant-loop-k l = (l.kind ≡ kind_at l.nodes l.n) × (all l.k (λ j. slot_right l.nodes l.limits.fields l.limits.constants l.n l.fault (held_in (kind_at l.nodes l.n) j) (slot_at l.nodes l.n j)) ≡ true)
