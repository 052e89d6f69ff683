-- How deep the tree at a node is, for the search by node number.
use Rattle.std.specs.Prelude.{ℕ, cond, List, leb}
use Rattle.nodes.specs.Nodes.{In, kind_at, slot_at, held_in, is_child}
use Rattle.nodes.specs.Inside.Formed.{Formed}
use Rattle.sheet.specs.Trees.{exp_at, cmd_at}
use Rattle.sheet.specs.Depth.{exp_depth, cmd_depth}

-- of the tree at node n, whichever its sort
unfoldable pub depth_at : List ℕ → List ℕ → ℕ → ℕ
depth_at constants s n = cond (leb (kind_at s n) 4) (exp_depth (exp_at constants s n)) (cmd_depth (cmd_at constants s n))

-- of the tree in slot k of node n, 0 where the slot holds no child
unfoldable pub depth_in : List ℕ → List ℕ → ℕ → ℕ → ℕ
depth_in constants s n k = cond (is_child (held_in (kind_at s n) k)) (depth_at constants s (slot_at s n k)) 0

-- a node of well-formed ones
pub record NodeIn (s : List ℕ) (n : ℕ) : Type 0 where
  pub formed : Formed s
  pub inside : In s n
