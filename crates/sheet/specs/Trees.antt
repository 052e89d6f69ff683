-- The trees that nodes stand for. A tree holds the values of its constants; `constants` and `s` are the parts of the sheet that hold the
-- constants and the nodes.
use Rattle.std.specs.Prelude.{ℕ, zero, suc, ◌*◌, true, false, cond, List, pos, eqb, ltb}
use Rattle.value.specs.Bytes.{value_at}
use Rattle.value.specs.declared.Value.{Value}
use Rattle.nodes.specs.Nodes.{kind_at, op_at, slot_at}

-- expressions; an operator has its place, the number of its node
pub data Exp : Type 0 where
  constant : Value → Exp
  field : ℕ → Exp
  operator : ℕ → ℕ → Exp → Exp → Exp
  not : Exp → Exp
  seal : Exp → Exp

-- commands, each but a sequence with its place
pub data Cmd : Type 0 where
  skip : ℕ → Cmd
  assign : ℕ → ℕ → Exp → Cmd
  sequence : Cmd → Cmd → Cmd
  if_else : ℕ → Exp → Cmd → Cmd → Cmd
  while : ℕ → Exp → Cmd → Cmd

-- A child's number is lower than its parent's: the tree at w where w is lower than n, else one that stands for none.
unfoldable pub lower : {A : Type 0} → ℕ → (ℕ → A) → A → ℕ → A
lower n tree none w = cond (ltb w n) (tree w) none

-- 4 bytes, signed
abbrev pub constant_at : List ℕ → ℕ → Value
constant_at s a = value_at s (a * 4)

-- stands where there is no expression
abbrev pub zero_value : Exp
zero_value = constant (record { n = pos 0 })

module _ (constants s : List ℕ) where
  -- the expression at node n of a kind, where `child` gives its children's
  unfoldable pub exp_node : (ℕ → Exp) → ℕ → ℕ → Exp
  exp_node child n kind =
      elim (eqb kind 0) [
        | true ↦ constant (constant_at constants (slot_at s n 0))
        | false ↦ elim (eqb kind 1) [
          | true ↦ field (slot_at s n 0)
          | false ↦ elim (eqb kind 2) [
            | true ↦ operator n (op_at s n) (child (slot_at s n 0)) (child (slot_at s n 1))
            | false ↦ elim (eqb kind 3) [
              | true ↦ not (child (slot_at s n 0))
              | false ↦ seal (child (slot_at s n 0))
            ]
          ]
        ]
      ]

  -- the same, going down at most d nodes
  unfoldable pub exp_below : ℕ → ℕ → Exp
  exp_below zero n = zero_value
  exp_below (suc d) n = exp_node (lower n (exp_below d) zero_value) n (kind_at s n)

  unfoldable pub exp_at : ℕ → Exp
  exp_at n = exp_below (suc n) n

  unfoldable pub cmd_node : (ℕ → Cmd) → ℕ → ℕ → Cmd
  cmd_node child n kind =
      elim (eqb kind 5) [
        | true ↦ skip n
        | false ↦ elim (eqb kind 6) [
          | true ↦ assign n (slot_at s n 0) (exp_at (slot_at s n 1))
          | false ↦ elim (eqb kind 7) [
            | true ↦ sequence (child (slot_at s n 0)) (child (slot_at s n 1))
            | false ↦ elim (eqb kind 8) [
              | true ↦ if_else n (exp_at (slot_at s n 0)) (child (slot_at s n 1)) (child (slot_at s n 2))
              | false ↦ while n (exp_at (slot_at s n 0)) (child (slot_at s n 1))
            ]
          ]
        ]
      ]

  unfoldable pub cmd_below : ℕ → ℕ → Cmd
  cmd_below zero n = skip 0
  cmd_below (suc d) n = cmd_node (lower n (cmd_below d) (skip 0)) n (kind_at s n)

  unfoldable pub cmd_at : ℕ → Cmd
  cmd_at n = cmd_below (suc n) n
