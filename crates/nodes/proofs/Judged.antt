-- Nodes that pass: the first fault is told, and where none is told the nodes are well formed.
use Prim.Native.Nat.{ℕ, zero, suc, ◌+◌, ◌≤◌, ◌<◌}
use native.Mathlib.Omega.{arith}
use native.Mathlib.Numerals.{add-one}
use native.Mathlib.Nat.{eq-or-lt_of_le}
use mathlib.Core.Path.{◌≡◌, refl, sym, ap, ◌∙◌}
use mathlib.Core.Bool.{Bool, true, false, not, ◌&&◌, ◌||◌, or-true, and-true, and_assoc, false≢true}
use mathlib.Core.Logic.{⊎_elim}
use mathlib.Core.List.{List}
use borrow.Author.Tests.{leb-true, ltb-true, eqb-true, eq-eqb, lt-leb}
use lib.Dec.{eqb, leb, ltb}
use Rattle.basis.specs.Tests.{all}
use Rattle.basis.proofs.Tests.{both, split, all-at, all_same, all_both}
use Rattle.std.specs.Prelude.{Ok, Err, is_ok}
use Rattle.sections.specs.Verdict.{◌then◌}
use Rattle.nodes.specs.Nodes.{In, node_count, kind_at, op_at, slot_at, held_in, is_child, known, operator_zero, zero_in, range_right, sort_right, slot_right, slots_right, node_verdict, verdict_below, nodes_verdict}
use Rattle.nodes.specs.Inside.Formed.{Holds, WellFormed}
use Rattle.nodes.specs.declared.Held.{Held}
use Rattle.nodes.specs.declared.Held.TheVariants.{Nothing, Constant, Field, Expression, Command}
use Rattle.sections.specs.declared.verdict.Fault.TheVariants.{Unknown, Unused, Range, Sort}
use Rattle.sections.specs.declared.verdict.SheetError.TheVariants.{Node}
use Rattle.sections.proofs.Verdicts.{then_next, then_first, both_pass, told_then, told_last, Placed, told-placed, then_placed}

-- a kind and an operator that are known
known_is : (kind op : ℕ) → known kind op ≡ true → (kind ≤ 9) × (kind ≡ 2 → op ≤ 9)
unfolding known
known_is kind op e =
    let h = both (leb kind 9) (not (eqb kind 2) || leb op 9) e in
    (leb-true kind 9 h.0, λ two. leb-true op 9 (rw (eq-eqb kind 2 two) at h.1))

module _ (s : List ℕ) (fields constants : ℕ) where
  -- ── a node judged ─────────────────────────────────────────────────────────────────────────

  module _ (n : ℕ) where
    pub told_unknown : known (kind_at s n) (op_at s n) ≡ false → Err (Node Unknown n) ≡ node_verdict s fields constants n
    unfolding node_verdict ◌then◌
    told_unknown e = simp e

    pub told_kind : 9 < kind_at s n → Err (Node Unknown n) ≡ node_verdict s fields constants n
    unfolding known
    told_kind h = told_unknown (simp (lt-leb (kind_at s n) 9 h))

    module _ (kn : known (kind_at s n) (op_at s n) ≡ true) where
      pub told_operator : operator_zero (kind_at s n) (op_at s n) ≡ false → Err (Node Unused n) ≡ node_verdict s fields constants n
      unfolding node_verdict ◌then◌
      told_operator e = simp (kn, e)

      module _ (op : operator_zero (kind_at s n) (op_at s n) ≡ true) where
        pub told_unused : slots_right s fields constants n Unused ≡ false → Err (Node Unused n) ≡ node_verdict s fields constants n
        unfolding node_verdict ◌then◌
        told_unused e = simp (kn, op, e)

        module _ (unused : slots_right s fields constants n Unused ≡ true) where
          pub told_range : slots_right s fields constants n Range ≡ false → Err (Node Range n) ≡ node_verdict s fields constants n
          unfolding node_verdict ◌then◌
          told_range e = simp (kn, op, unused, e)

          module _ (range : slots_right s fields constants n Range ≡ true) where
            pub told_sort : slots_right s fields constants n Sort ≡ false → Err (Node Sort n) ≡ node_verdict s fields constants n
            unfolding node_verdict ◌then◌
            told_sort e = simp (kn, op, unused, range, e)

            pub told_none : slots_right s fields constants n Sort ≡ true → Ok tt ≡ node_verdict s fields constants n
            unfolding node_verdict ◌then◌
            told_none e = simp (kn, op, unused, range, e)

    -- a slot is free of every fault
    abbrev pub free : Held → ℕ → Bool
    free Nothing w = eqb w 0
    free Constant w = ltb w constants
    free Field w = ltb w fields
    free Expression w = ltb w n && leb (kind_at s w) 4
    free Command w = ltb w n && ltb 4 (kind_at s w)

    lower-first : (w : ℕ) (sort : Bool) → (ltb w n && sort) ≡ (ltb w n && (leb n w || sort))
    lower-first w sort = split (ltb w n) (λ e. rw (lt-leb n w (ltb-true w n e))) (λ e. rw e)

    free_is : (h : Held) (w : ℕ) → free h w ≡ (zero_in h w && (range_right fields constants n h w && sort_right s n h w))
    free_is Nothing w = simp (or-true, and-true)
    free_is Constant w = simp (or-true, and-true)
    free_is Field w = simp (or-true, and-true)
    free_is Expression w = lower-first w _
    free_is Command w = lower-first w _

    -- a node passes whose kind and operator are right, and whose slots are free
    abbrev slots_free : Bool
    slots_free = all 3 (λ k. free (held_in (kind_at s n) k) (slot_at s n k))

    free_of_each : slots_free ≡ (slots_right s fields constants n Unused && (slots_right s fields constants n Range && slots_right s fields constants n Sort))
    unfolding slots_right slot_right
    free_of_each =
        all_same 3 _ _ (λ k l. free_is (held_in (kind_at s n) k) (slot_at s n k))
        ∙ all_both 3 _ _
        ∙ ap (λ (b : Bool). slots_right s fields constants n Unused && b) (all_both 3 _ _)

    pub passes-node : is_ok (node_verdict s fields constants n) ≡ (known (kind_at s n) (op_at s n) && operator_zero (kind_at s n) (op_at s n) && slots_free)
    unfolding node_verdict
    passes-node =
        rw (told_then _ (Node Unknown n) _, told_then _ (Node Unused n) _, told_then _ (Node Range n) _, told_last _ (Node Sort n), free_of_each)
        (simp and_assoc)

    pub right : is_ok (node_verdict s fields constants n) ≡ true
        → (known (kind_at s n) (op_at s n) ≡ true) × ((k : ℕ) → k < 3 → free (held_in (kind_at s n) k) (slot_at s n k) ≡ true)
    right e =
        let h = both (known (kind_at s n) (op_at s n) && operator_zero (kind_at s n) (op_at s n)) slots_free (sym passes-node ∙ e) in
        ((both (known (kind_at s n) (op_at s n)) (operator_zero (kind_at s n) (op_at s n)) h.0).0, all-at 3 _ h.1)

    -- its children are lower
    pub child_lower : is_ok (node_verdict s fields constants n) ≡ true → (k : ℕ) → k < 3 → is_child (held_in (kind_at s n) k) ≡ true → slot_at s n k < n
    child_lower e k l = go (held_in (kind_at s n) k) ((right e).1 k l)
      where
        go : (h : Held) → free h (slot_at s n k) ≡ true → is_child h ≡ true → slot_at s n k < n
        go Nothing f child = absurd (false≢true child)
        go Constant f child = absurd (false≢true child)
        go Field f child = absurd (false≢true child)
        go Expression f child = ltb-true _ _ (both (ltb (slot_at s n k) n) _ f).0
        go Command f child = ltb-true _ _ (both (ltb (slot_at s n k) n) _ f).0

  -- ── the lowest node first ─────────────────────────────────────────────────────────────────

  pub none_below : verdict_below s fields constants 0 ≡ Ok tt
  unfolding verdict_below
  none_below = refl

  pub one_more : (n : ℕ) → verdict_below s fields constants n ≡ Ok tt → node_verdict s fields constants n ≡ Ok tt → verdict_below s fields constants (n + 1) ≡ Ok tt
  unfolding verdict_below ◌then◌
  one_more n below here = rw (add-one n) (rw (below, here))

  -- where the nodes below n pass and n does not, n is told, however many follow
  pub first-told : (count n : ℕ) → n < count → verdict_below s fields constants n ≡ Ok tt → is_ok (node_verdict s fields constants n) ≡ false
      → verdict_below s fields constants count ≡ node_verdict s fields constants n
  unfolding verdict_below
  first-told zero n h below here = absurd (omega arith)
  first-told (suc count) n h below here =
      let at_most : n ≤ count = omega arith in
      ⊎_elim
      (λ same. ap (λ (k : ℕ). verdict_below s fields constants (suc k)) (sym same) ∙ then_next _ _ below)
      (λ lower. let told = first-told count n lower below here in then_first _ _ (ap is_ok told ∙ here) ∙ told)
      (eq-or-lt_of_le at_most)

  -- where all pass, each does
  each-passes : (count : ℕ) → verdict_below s fields constants count ≡ Ok tt → (n : ℕ) → n < count → node_verdict s fields constants n ≡ Ok tt
  unfolding verdict_below
  each-passes zero e n h = absurd (omega arith)
  each-passes (suc count) e n h =
      let at_most : n ≤ count = omega arith in
      let p = both_pass _ _ e in
      ⊎_elim (λ same. ap (node_verdict s fields constants) same ∙ p.1) (λ lower. each-passes count p.0 n lower) (eq-or-lt_of_le at_most)

  -- the place of what is told is the number of one of the nodes
  module _ (few : ℕ) (some : 0 < few) where
    node-placed : (n : ℕ) → n < few → Placed few (node_verdict s fields constants n)
    unfolding node_verdict
    node-placed n h =
        then_placed few _ _ (told-placed few (known (kind_at s n) (op_at s n)) (Node Unknown n) some h)
        (λ _. then_placed few _ _ (told-placed few (operator_zero (kind_at s n) (op_at s n) && slots_right s fields constants n Unused) (Node Unused n) some h)
        (λ _. then_placed few _ _ (told-placed few (slots_right s fields constants n Range) (Node Range n) some h)
        (λ _. told-placed few (slots_right s fields constants n Sort) (Node Sort n) some h)))

    pub nodes-placed : (count : ℕ) → count ≤ few → Placed few (verdict_below s fields constants count)
    unfolding verdict_below
    nodes-placed zero h = some
    nodes-placed (suc n) h = then_placed few _ _ (nodes-placed n (omega arith)) (λ _. node-placed n h)

  -- ── well formed ───────────────────────────────────────────────────────────────────────────

  -- a slot that is free of every fault holds what it should
  holds : (n : ℕ) → ((w : ℕ) → w < n → kind_at s w ≤ 9) → (h : Held) (w : ℕ) → free n h w ≡ true → Holds s fields constants n h w
  holds n kinds Nothing w e = eqb-true w 0 e
  holds n kinds Constant w e = ltb-true w constants e
  holds n kinds Field w e = ltb-true w fields e
  holds n kinds Expression w e =
      let h = both (ltb w n) (leb (kind_at s w) 4) e in
      record { lower = ltb-true w n h.0; sort = leb-true (kind_at s w) 4 h.1 }
  holds n kinds Command w e =
      let h = both (ltb w n) (ltb 4 (kind_at s w)) e in
      let lower = ltb-true w n h.0 in
      record { lower = lower; least = ltb-true 4 (kind_at s w) h.1; most = kinds w lower }

  pub well_formed : nodes_verdict s fields constants ≡ Ok tt → WellFormed s fields constants
  well_formed e =
      let passes : (n : ℕ) → In s n → node_verdict s fields constants n ≡ Ok tt = λ n i. each-passes (node_count s) e n (omega arith) in
      let known-each : (n : ℕ) → In s n → (kind_at s n ≤ 9) × (kind_at s n ≡ 2 → op_at s n ≤ 9) = λ n i. known_is _ _ (right n (ap is_ok (passes n i))).0 in
      record {
        kind = λ n i. (known-each n i).0;
        operator = λ n i. (known-each n i).1;
        slots = λ n k i l. holds n (λ w h. (known-each w (omega arith)).0) (held_in (kind_at s n) k) (slot_at s n k) ((right n (ap is_ok (passes n i))).1 k l);
      }
