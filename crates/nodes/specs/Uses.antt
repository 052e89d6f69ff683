-- How often each node is a child: document 01, "every other node is a child exactly once".
use Rattle.std.specs.Prelude.{ℕ, zero, suc, ◌+◌, ◌-◌, Bool, cond, ◌&&◌, List, eqb}
use Rattle.basis.specs.Tests.{all}
use Rattle.nodes.specs.Nodes.{node_count, kind_at, slot_at, held_in, is_child}

-- node c is the child in slot k of node n
abbrev pub child_in : List ℕ → ℕ → ℕ → ℕ → Bool
child_in s n k c = is_child (held_in (kind_at s n) k) && eqb (slot_at s n k) c

-- how often it is one in the first k slots of node n
unfoldable pub uses_in : List ℕ → ℕ → ℕ → ℕ → ℕ
uses_in s n zero c = 0
uses_in s n (suc k) c = uses_in s n k c + cond (child_in s n k c) 1 0

-- how often it is one of the nodes below n
unfoldable pub uses_below : List ℕ → ℕ → ℕ → ℕ
uses_below s zero c = 0
uses_below s (suc n) c = uses_below s n c + uses_in s n 3 c

-- every node but the last is a child exactly once
unfoldable pub used_once : List ℕ → Bool
used_once s = all (node_count s - 1) (λ c. eqb (uses_below s (node_count s) c) 1)
