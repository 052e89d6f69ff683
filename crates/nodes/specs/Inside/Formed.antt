-- What nodes have that pass.
use Rattle.std.specs.Prelude.{ℕ, ◌≤◌, ◌<◌, ◌≡◌, List, length}
use Rattle.nodes.specs.Nodes.{In, kind_at, op_at, slot_at, held_in}
use Rattle.nodes.specs.declared.Held.{Held}
use Rattle.nodes.specs.declared.Held.TheVariants.{Nothing, Constant, Field, Expression, Command}

-- w is a lower node than n, and an expression
pub record ExpBelow (s : List ℕ) (n w : ℕ) : Type 0 where
  pub lower : w < n
  pub sort : kind_at s w ≤ 4

-- w is a lower node than n, and a command
pub record CmdBelow (s : List ℕ) (n w : ℕ) : Type 0 where
  pub lower : w < n
  pub least : 5 ≤ kind_at s w
  pub most : kind_at s w ≤ 9

-- what a slot of node n holds is there
abbrev pub Holds : List ℕ → ℕ → ℕ → ℕ → Held → ℕ → Type 0
Holds s fields constants n Nothing w = w ≡ 0
Holds s fields constants n Constant w = w < constants
Holds s fields constants n Field w = w < fields
Holds s fields constants n Expression w = ExpBelow s n w
Holds s fields constants n Command w = CmdBelow s n w

pub record WellFormed (s : List ℕ) (fields constants : ℕ) : Type 0 where
  pub kind : (n : ℕ) → In s n → kind_at s n ≤ 9
  pub operator : (n : ℕ) → In s n → kind_at s n ≡ 2 → op_at s n ≤ 9
  pub slots : (n k : ℕ) → In s n → k < 3 → Holds s fields constants n (held_in (kind_at s n) k) (slot_at s n k)

-- 1 to 1,024 nodes, well formed for the counts of some sheet
pub record Formed (s : List ℕ) : Type 0 where
  pub fields : ℕ
  pub constants : ℕ
  pub nodes : WellFormed s fields constants
  pub some-node : 8 ≤ length s
  pub few : length s ≤ 8192
