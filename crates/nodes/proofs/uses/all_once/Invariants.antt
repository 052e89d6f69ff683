-- Whether the counts passed are all 1.
use mathlib.Core.Path.{◌≡◌}
use lib.Dec.{eqb}
use lib.ListN.{get_or}
use Rattle.basis.specs.Tests.{all}
use Rattle.nodes.proofs.uses.all_once.Given as goal

abbrev pub invariant-loop-uses : goal.invariant-loop-uses
invariant-loop-uses l = l.once ≡ all l.uses-index (λ k. eqb (get_or l.used k 0) 1)
