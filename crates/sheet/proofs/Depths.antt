-- A node is one deeper than the deepest of its children.
use Prim.Native.Nat.{ℕ, zero, suc, max, ◌-◌, ◌≤◌, ◌<◌}
use native.Mathlib.Omega.{arith}
use mathlib.Core.Path.{◌≡◌, refl, sym, ap, ◌∙◌}
use mathlib.Core.Bool.{true, false, false≢true}
use mathlib.Core.List.{List}
use borrow.Author.Tests.{le-leb, lt-leb, leb-true, leb-false}
use lib.Dec.{leb}
use Rattle.basis.proofs.Tests.{split}
use Rattle.nodes.specs.Nodes.{In, kind_at, slot_at, kinds, held_in, is_child}
use Rattle.nodes.specs.Inside.Formed.{Holds, WellFormed}
use Rattle.sheet.specs.Trees.{exp_at, cmd_at}
use Rattle.sheet.specs.Depth.{exp_depth, cmd_depth}
use Rattle.sheet.specs.Inside.Depth.{depth_at, depth_in, NodeIn}
use Rattle.nodes.specs.declared.Held.{Held}
use Rattle.nodes.specs.declared.Held.TheVariants.{Nothing, Constant, Field, Expression, Command}
use Rattle.sheet.proofs.Trees.{held_there, exp_at-constant, exp_at-field, exp_at-operator, exp_at-not, exp_at-seal, cmd_at-skip, cmd_at-assign, cmd_at-sequence, cmd_at_if, cmd_at-while}

-- the kinds, one by one
data Kind : ℕ → Type 0 where
  is-constant : Kind 0
  is_field : Kind 1
  is-operator : Kind 2
  is-not : Kind 3
  is-seal : Kind 4
  is-skip : Kind 5
  is-assign : Kind 6
  is-sequence : Kind 7
  is_if : Kind 8
  is-while : Kind 9

kind-is : (kind : ℕ) → kind ≤ 9 → Kind kind
kind-is zero h = is-constant
kind-is (suc zero) h = is_field
kind-is (suc (suc zero)) h = is-operator
kind-is (suc (suc (suc zero))) h = is-not
kind-is (suc (suc (suc (suc zero)))) h = is-seal
kind-is (suc (suc (suc (suc (suc zero))))) h = is-skip
kind-is (suc (suc (suc (suc (suc (suc zero)))))) h = is-assign
kind-is (suc (suc (suc (suc (suc (suc (suc zero))))))) h = is-sequence
kind-is (suc (suc (suc (suc (suc (suc (suc (suc zero)))))))) h = is_if
kind-is (suc (suc (suc (suc (suc (suc (suc (suc (suc zero))))))))) h = is-while
kind-is (suc (suc (suc (suc (suc (suc (suc (suc (suc (suc kind)))))))))) h = absurd (omega arith)

module _ (values s : List ℕ) where
  -- the depth at a node, by its sort
  exp_depth_lem : (n : ℕ) → kind_at s n ≤ 4 → depth_at values s n ≡ exp_depth (exp_at values s n)
  unfolding depth_at
  exp_depth_lem n h = simp (le-leb _ _ h)

  pub cmd_depth_lem : (n : ℕ) → 5 ≤ kind_at s n → depth_at values s n ≡ cmd_depth (cmd_at values s n)
  unfolding depth_at
  cmd_depth_lem n h = simp (lt-leb (kind_at s n) 4 h)

  pub no_child : (n k : ℕ) → is_child (held_in (kind_at s n) k) ≡ false → depth_in values s n k ≡ 0
  unfolding depth_in
  no_child n k e = rw e

  pub a_child : (n k : ℕ) → is_child (held_in (kind_at s n) k) ≡ true → depth_in values s n k ≡ depth_at values s (slot_at s n k)
  unfolding depth_in
  a_child n k e = rw e

  module _ {fields constants : ℕ} (nodes : WellFormed s fields constants) (n : ℕ) (i : In s n) where
    -- the depth in slot k of a node of a kind, which holds no child, an expression or a command
    none_in : (kind k : ℕ) → kind_at s n ≡ kind → is_child (held_in kind k) ≡ false → depth_in values s n k ≡ 0
    none_in kind k e h = no_child n k (rw e h)

    exp_in : (kind k : ℕ) → kind_at s n ≡ kind → k < 3 → held_in kind k ≡ Expression → depth_in values s n k ≡ exp_depth (exp_at values s (slot_at s n k))
    exp_in kind k e h held = a_child n k (rw e (ap is_child held)) ∙ exp_depth_lem _ (rw held at (held_there nodes n i kind k e h)).sort

    cmd_in : (kind k : ℕ) → kind_at s n ≡ kind → k < 3 → held_in kind k ≡ Command → depth_in values s n k ≡ cmd_depth (cmd_at values s (slot_at s n k))
    cmd_in kind k e h held = a_child n k (rw e (ap is_child held)) ∙ cmd_depth_lem _ (rw held at (held_there nodes n i kind k e h)).least

    abbrev deepest : ℕ
    deepest = max (depth_in values s n 0) (max (depth_in values s n 1) (depth_in values s n 2))

    by_kind : (kind : ℕ) → Kind kind → kind_at s n ≡ kind → depth_at values s n ≡ suc deepest
    unfolding held_in kinds exp_depth cmd_depth
    by_kind kind is-constant h = omega (arith, exp_depth_lem n (omega arith), ap exp_depth (exp_at-constant values nodes n i h), none_in 0 0 h refl, none_in 0 1 h refl, none_in 0 2 h refl)
    by_kind kind is_field h = omega (arith, exp_depth_lem n (omega arith), ap exp_depth (exp_at-field values nodes n i h), none_in 1 0 h refl, none_in 1 1 h refl, none_in 1 2 h refl)
    by_kind kind is-operator h =
        omega (arith, exp_depth_lem n (omega arith), ap exp_depth (exp_at-operator values nodes n i h), exp_in 2 0 h (omega arith) refl, exp_in 2 1 h (omega arith) refl, none_in 2 2 h refl)
    by_kind kind is-not h = omega (arith, exp_depth_lem n (omega arith), ap exp_depth (exp_at-not values nodes n i h), exp_in 3 0 h (omega arith) refl, none_in 3 1 h refl, none_in 3 2 h refl)
    by_kind kind is-seal h = omega (arith, exp_depth_lem n (omega arith), ap exp_depth (exp_at-seal values nodes n i h), exp_in 4 0 h (omega arith) refl, none_in 4 1 h refl, none_in 4 2 h refl)
    by_kind kind is-skip h = omega (arith, cmd_depth_lem n (omega arith), ap cmd_depth (cmd_at-skip values nodes n i h), none_in 5 0 h refl, none_in 5 1 h refl, none_in 5 2 h refl)
    by_kind kind is-assign h = omega (arith, cmd_depth_lem n (omega arith), ap cmd_depth (cmd_at-assign values nodes n i h), none_in 6 0 h refl, exp_in 6 1 h (omega arith) refl, none_in 6 2 h refl)
    by_kind kind is-sequence h =
        omega (arith, cmd_depth_lem n (omega arith), ap cmd_depth (cmd_at-sequence values nodes n i h), cmd_in 7 0 h (omega arith) refl, cmd_in 7 1 h (omega arith) refl, none_in 7 2 h refl)
    by_kind kind is_if h =
        omega (arith, cmd_depth_lem n (omega arith), ap cmd_depth (cmd_at_if values nodes n i h), exp_in 8 0 h (omega arith) refl, cmd_in 8 1 h (omega arith) refl, cmd_in 8 2 h (omega arith) refl)
    by_kind kind is-while h =
        omega (arith, cmd_depth_lem n (omega arith), ap cmd_depth (cmd_at-while values nodes n i h), exp_in 9 0 h (omega arith) refl, cmd_in 9 1 h (omega arith) refl, none_in 9 2 h refl)

    one_deeper : depth_at values s n ≡ suc deepest
    one_deeper = by_kind (kind_at s n) (kind-is _ (nodes.kind n i)) refl

    -- a tree is at least 1 deep
    pub some-depth : leb (depth_at values s n) 0 ≡ false
    some-depth = lt-leb (depth_at values s n) 0 (omega (arith, one_deeper))

    -- a tree fits where each child's fits with one less
    module _ (most : ℕ) (some : 0 < most) where
      pub too_deep_lem : (k : ℕ) → k < 3 → leb (depth_in values s n k) (most - 1) ≡ false → leb (depth_at values s n) most ≡ false
      too_deep_lem k h e = go k h (leb-false _ _ e)
        where
          go : (k : ℕ) → k < 3 → most - 1 < depth_in values s n k → leb (depth_at values s n) most ≡ false
          go zero h over = lt-leb (depth_at values s n) most (omega (arith, one_deeper))
          go (suc zero) h over = lt-leb (depth_at values s n) most (omega (arith, one_deeper))
          go (suc (suc zero)) h over = lt-leb (depth_at values s n) most (omega (arith, one_deeper))
          go (suc (suc (suc k))) h over = absurd (omega arith)

      -- where those in two places do, the third decides
      pub one_decides : leb (depth_in values s n 0) (most - 1) ≡ true → leb (depth_in values s n 2) (most - 1) ≡ true
          → leb (depth_in values s n 1) (most - 1) ≡ leb (depth_at values s n) most
      one_decides first third =
          let a : depth_in values s n 0 ≤ most - 1 = leb-true _ _ first in
          let c : depth_in values s n 2 ≤ most - 1 = leb-true _ _ third in
          split (leb (depth_in values s n 1) (most - 1))
          (λ e. let b : depth_in values s n 1 ≤ most - 1 = leb-true _ _ e in e ∙ sym (le-leb (depth_at values s n) most (omega (arith, one_deeper))))
          (λ e. e ∙ sym (too_deep_lem 1 (omega arith) e))

-- a child is a node with a lower number
pub child_node : {s : List ℕ} {n : ℕ} → NodeIn s n → (k : ℕ) → k < 3 → is_child (held_in (kind_at s n) k) ≡ true → (slot_at s n k < n) × NodeIn s (slot_at s n k)
child_node {s} {n} node k h child = go (held_in (kind_at s n) k) child (node.formed.nodes.slots n k node.inside h)
  where
    below : slot_at s n k < n → (slot_at s n k < n) × NodeIn s (slot_at s n k)
    below l = let inside = node.inside in (l, record { formed = node.formed; inside = omega arith })

    go : (held : Held) → is_child held ≡ true → Holds s node.formed.fields node.formed.constants n held (slot_at s n k) → (slot_at s n k < n) × NodeIn s (slot_at s n k)
    go Nothing e holds = absurd (false≢true e)
    go Constant e holds = absurd (false≢true e)
    go Field e holds = absurd (false≢true e)
    go Expression e holds = below holds.lower
    go Command e holds = below holds.lower
