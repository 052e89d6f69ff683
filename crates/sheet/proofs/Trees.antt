-- The tree at a node, by the node's kind.
use Prim.Native.Nat.{ℕ, zero, suc, ◌<◌}
use native.Mathlib.Omega.{arith}
use mathlib.Core.Path.{◌≡◌, refl, ap, ◌∙◌}
use mathlib.Core.Bool.{Bool, true, false, cond}
use mathlib.Core.List.{List}
use lib.Dec.{ltb}
use borrow.Author.Tests.{ltb-true, lt-ltb}
use Rattle.nodes.specs.Nodes.{In, kind_at, op_at, slot_at, kinds, held_in}
use Rattle.nodes.specs.Inside.Formed.{Holds, WellFormed}
use Rattle.nodes.specs.declared.Held.TheVariants.{Expression, Command}
use Rattle.sheet.specs.Trees.{Exp, constant, field, operator, not, seal, Cmd, skip, assign, sequence, if_else, while}
use Rattle.sheet.specs.Trees.{lower, constant_at, zero_value, exp_node, exp_below, exp_at, cmd_node, cmd_below, cmd_at}

-- only lower children count
lower-same : {A : Type 0} (f g : ℕ → A) (none : A) (n : ℕ) → ((w : ℕ) → w < n → f w ≡ g w) → lower n f none ≡ lower n g none
unfolding lower
lower-same {A} f g none n h = λ i w. at w (ltb w n) refl i
  where
    at : (w : ℕ) (b : Bool) → ltb w n ≡ b → cond b (f w) none ≡ cond b (g w) none
    at w true e = h w (ltb-true w n e)
    at w false e = refl

lower-is : {A : Type 0} (f : ℕ → A) (none : A) (n w : ℕ) → w < n → lower n f none w ≡ f w
unfolding lower
lower-is f none n w h = rw (lt-ltb w n h)

module _ (constants s : List ℕ) where
  -- how far the decoding goes down does not matter, once it reaches the node
  exp_reach : (d e n : ℕ) → n < d → n < e → exp_below constants s d n ≡ exp_below constants s e n
  unfolding exp_below
  exp_reach zero e n p q = absurd (omega arith)
  exp_reach (suc d) zero n p q = absurd (omega arith)
  exp_reach (suc d) (suc e) n p q =
      ap (λ (child : ℕ → Exp). exp_node constants s child n (kind_at s n))
      (lower-same (exp_below constants s d) (exp_below constants s e) zero_value n (λ w l. exp_reach d e w (omega arith) (omega arith)))

  cmd_reach : (d e n : ℕ) → n < d → n < e → cmd_below constants s d n ≡ cmd_below constants s e n
  unfolding cmd_below
  cmd_reach zero e n p q = absurd (omega arith)
  cmd_reach (suc d) zero n p q = absurd (omega arith)
  cmd_reach (suc d) (suc e) n p q =
      ap (λ (child : ℕ → Cmd). cmd_node constants s child n (kind_at s n))
      (lower-same (cmd_below constants s d) (cmd_below constants s e) (skip 0) n (λ w l. cmd_reach d e w (omega arith) (omega arith)))

  -- a node, with the trees at its children
  exp_node_lem : (n : ℕ) → exp_at constants s n ≡ exp_node constants s (lower n (exp_at constants s) zero_value) n (kind_at s n)
  unfolding exp_at exp_below
  exp_node_lem n =
      ap (λ (child : ℕ → Exp). exp_node constants s child n (kind_at s n))
      (lower-same (exp_below constants s n) (exp_at constants s) zero_value n (λ w l. exp_reach n (suc w) w l (omega arith)))

  cmd_node_lem : (n : ℕ) → cmd_at constants s n ≡ cmd_node constants s (lower n (cmd_at constants s) (skip 0)) n (kind_at s n)
  unfolding cmd_at cmd_below
  cmd_node_lem n =
      ap (λ (child : ℕ → Cmd). cmd_node constants s child n (kind_at s n))
      (lower-same (cmd_below constants s n) (cmd_at constants s) (skip 0) n (λ w l. cmd_reach n (suc w) w l (omega arith)))

-- what place k of a node of this kind holds is there
pub held_there : {s : List ℕ} {fields constants : ℕ} → WellFormed s fields constants → (n : ℕ) → In s n → (kind k : ℕ) → kind_at s n ≡ kind → k < 3
    → Holds s fields constants n (held_in kind k) (slot_at s n k)
held_there {s} {fields} {constants} nodes n i kind k e h = rw e at (nodes.slots n k i h)

-- one law a kind
module _ (values : List ℕ) {s : List ℕ} {fields constants : ℕ} (nodes : WellFormed s fields constants) (n : ℕ) (i : In s n) where
  -- a child that is an expression, and one that is a command
  exp_child : (kind k : ℕ) → kind_at s n ≡ kind → k < 3 → held_in kind k ≡ Expression → lower n (exp_at values s) zero_value (slot_at s n k) ≡ exp_at values s (slot_at s n k)
  exp_child kind k e h held = lower-is _ _ n _ (rw held at (held_there nodes n i kind k e h)).lower

  cmd_child : (kind k : ℕ) → kind_at s n ≡ kind → k < 3 → held_in kind k ≡ Command → lower n (cmd_at values s) (skip 0) (slot_at s n k) ≡ cmd_at values s (slot_at s n k)
  cmd_child kind k e h held = lower-is _ _ n _ (rw held at (held_there nodes n i kind k e h)).lower

  pub exp_at-constant : kind_at s n ≡ 0 → exp_at values s n ≡ constant (constant_at values (slot_at s n 0))
  unfolding exp_node
  exp_at-constant h = exp_node_lem values s n ∙ rw h

  pub exp_at-field : kind_at s n ≡ 1 → exp_at values s n ≡ field (slot_at s n 0)
  unfolding exp_node
  exp_at-field h = exp_node_lem values s n ∙ rw h

  pub exp_at-operator : kind_at s n ≡ 2 → exp_at values s n ≡ operator n (op_at s n) (exp_at values s (slot_at s n 0)) (exp_at values s (slot_at s n 1))
  unfolding exp_node held_in kinds
  exp_at-operator h = exp_node_lem values s n ∙ rw (h, exp_child 2 0 h (omega arith) refl, exp_child 2 1 h (omega arith) refl)

  pub exp_at-not : kind_at s n ≡ 3 → exp_at values s n ≡ not (exp_at values s (slot_at s n 0))
  unfolding exp_node held_in kinds
  exp_at-not h = exp_node_lem values s n ∙ rw (h, exp_child 3 0 h (omega arith) refl)

  pub exp_at-seal : kind_at s n ≡ 4 → exp_at values s n ≡ seal (exp_at values s (slot_at s n 0))
  unfolding exp_node held_in kinds
  exp_at-seal h = exp_node_lem values s n ∙ rw (h, exp_child 4 0 h (omega arith) refl)

  pub cmd_at-skip : kind_at s n ≡ 5 → cmd_at values s n ≡ skip n
  unfolding cmd_node
  cmd_at-skip h = cmd_node_lem values s n ∙ rw h

  pub cmd_at-assign : kind_at s n ≡ 6 → cmd_at values s n ≡ assign n (slot_at s n 0) (exp_at values s (slot_at s n 1))
  unfolding cmd_node
  cmd_at-assign h = cmd_node_lem values s n ∙ rw h

  pub cmd_at-sequence : kind_at s n ≡ 7 → cmd_at values s n ≡ sequence (cmd_at values s (slot_at s n 0)) (cmd_at values s (slot_at s n 1))
  unfolding cmd_node held_in kinds
  cmd_at-sequence h = cmd_node_lem values s n ∙ rw (h, cmd_child 7 0 h (omega arith) refl, cmd_child 7 1 h (omega arith) refl)

  pub cmd_at_if : kind_at s n ≡ 8 → cmd_at values s n ≡ if_else n (exp_at values s (slot_at s n 0)) (cmd_at values s (slot_at s n 1)) (cmd_at values s (slot_at s n 2))
  unfolding cmd_node held_in kinds
  cmd_at_if h = cmd_node_lem values s n ∙ rw (h, cmd_child 8 1 h (omega arith) refl, cmd_child 8 2 h (omega arith) refl)

  pub cmd_at-while : kind_at s n ≡ 9 → cmd_at values s n ≡ while n (exp_at values s (slot_at s n 0)) (cmd_at values s (slot_at s n 1))
  unfolding cmd_node held_in kinds
  cmd_at-while h = cmd_node_lem values s n ∙ rw (h, cmd_child 9 1 h (omega arith) refl)
