-- A node taken by its kind: it passes if its operator and slots are free of faults, and its children are counted.
use Prim.Native.Nat.{ℕ}
use mathlib.Core.Path.{◌≡◌, refl, sym, ◌∙◌}
use mathlib.Core.Bool.{Bool, true, cond, ◌&&◌, and-true, and_assoc}
use mathlib.Core.List.{List}
use lib.Dec.{leb}
use Rattle.basis.proofs.Tests.{both, all_three}
use Rattle.std.specs.Prelude.{is_ok}
use Rattle.nodes.specs.Nodes.{kind_at, op_at, slot_at, held_in, is_child, known, operator_zero, node_verdict}
use Rattle.nodes.specs.Inside.Counting.{counted, counted_slots}
use Rattle.nodes.specs.declared.Held.{Held}
use Rattle.nodes.proofs.Judged.{free, passes-node}

-- kind 2 has an operator
pub an_operator : (op : ℕ) → leb op 9 ≡ (known 2 op && operator_zero 2 op)
unfolding known operator_zero
an_operator op = sym (and-true (leb op 9))

-- a slot that holds no child is only tested
pub no_child : {r : Bool} {used : List ℕ} → (r ≡ r) × (r ≡ true → used ≡ used)
no_child = (refl, λ e. refl)

-- what the code has read of node n
pub record Read (s : List ℕ) (n kind op a b c : ℕ) : Type 0 where
  pub kind-is : kind ≡ kind_at s n
  pub op_is : op ≡ op_at s n
  pub a_is : a ≡ slot_at s n 0
  pub b_is : b ≡ slot_at s n 1
  pub c_is : c ≡ slot_at s n 2

module _ (s : List ℕ) (fields constants n : ℕ) where
  -- r tells whether w may stand in a slot; if it may, and is a child there, it is counted
  abbrev Taken : Held → ℕ → Bool → List ℕ → List ℕ → Type 0
  Taken held w r used after = (r ≡ free s fields constants n held w) × (r ≡ true → after ≡ cond (is_child held) (counted w used) used)

  pub taken : {kind op a b c : ℕ} {o x y z : Bool} {used₁ used₂ used₃ : List ℕ} (used : List ℕ) → Read s n kind op a b c → o ≡ (known kind op && operator_zero kind op)
      → Taken (held_in kind 0) a x used used₁ → Taken (held_in kind 1) b y used₁ used₂ → Taken (held_in kind 2) c z used₂ used₃
      → ((o && x && y && z) ≡ is_ok (node_verdict s fields constants n)) × ((o && x && y && z) ≡ true → used₃ ≡ counted_slots s n 3 used)
  unfolding counted_slots
  taken {o = o} {x} {y} {z} used node e p q r = (
    rw (e, p.0, q.0, r.0, node.kind-is, node.op_is, node.a_is, node.b_is, node.c_is) (sym (passes-node s fields constants n ∙ rw (all_three _) (simp and_assoc))),
    λ e.
        let third = both (o && x && y) z e in
        let second = both (o && x) y third.0 in
        let first = both o x second.0 in
        rw (r.1 third.1, q.1 second.1, p.1 first.1, node.kind-is, node.a_is, node.b_is, node.c_is),
  )
