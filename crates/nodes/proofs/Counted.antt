-- The array of uses holds what is counted, up to two.
use Prim.Native.Nat.{ℕ, zero, suc, ◌+◌, ◌-◌, ◌≤◌, ◌<◌}
use native.Mathlib.Omega.{arith}
use native.Mathlib.Nat.{add-zero}
use native.Mathlib.Numerals.{add-one}
use mathlib.Core.Path.{◌≡◌, refl, sym, ap, ◌∙◌}
use mathlib.Core.Bool.{Bool, true, false, cond, ◌&&◌}
use mathlib.Core.List.{List}
use borrow.Author.Tests.{eqb-true, eqb-false, ne_eqb}
use lib.Dec.{eqb}
use lib.ListN.{length, get_or, set, replicate, length-set}
use lib.Seq.{get_or-set_same, get_or-set_other}
use Rattle.basis.specs.Tests.{all}
use Rattle.basis.proofs.Tests.{all_same}
use Rattle.nodes.specs.Nodes.{node_count, kind_at, slot_at, held_in, is_child}
use Rattle.nodes.specs.Uses.{uses_in, uses_below, used_once}
use Rattle.nodes.specs.Inside.Counting.{up_to_two, Counts, counted, counted_slots}

-- a count up to two is 1 exactly where the count is
once_up_to_two : (uses : ℕ) → eqb (up_to_two uses) 1 ≡ eqb uses 1
unfolding up_to_two
once_up_to_two zero = refl
once_up_to_two (suc zero) = refl
once_up_to_two (suc (suc uses)) = sym (ne_eqb (suc (suc uses)) 1 (λ h. omega arith))

more : (uses : ℕ) → cond (eqb (up_to_two uses) 0) 1 2 ≡ up_to_two (uses + 1)
unfolding up_to_two
more zero = refl
more (suc zero) = refl
more (suc (suc uses)) = rw (add-one (suc (suc uses)))

-- a node counted once more
pub counted-length : (w : ℕ) (used : List ℕ) → length (counted w used) ≡ length used
unfolding counted
counted-length w used = length-set used w _

counts : (w : ℕ) (used : List ℕ) (c uses : ℕ) → w < length used → get_or used c 0 ≡ up_to_two uses → get_or (counted w used) c 0 ≡ up_to_two (uses + cond (eqb w c) 1 0)
unfolding counted
counts w used c uses inside e = go (eqb w c) refl
  where
    go : (b : Bool) → eqb w c ≡ b → get_or (set used w (cond (eqb (get_or used w 0) 0) 1 2)) c 0 ≡ up_to_two (uses + cond b 1 0)
    go true q =
        let at : c ≡ w = sym (eqb-true w c q) in
        rw at (get_or-set_same used w _ 0 inside ∙ ap (λ (n : ℕ). cond (eqb n 0) 1 2) (rw at at e) ∙ more uses)
    go false q = get_or-set_other used w c _ 0 (λ at. eqb-false w c q (sym at)) ∙ e ∙ ap up_to_two (sym (add-zero uses))

module _ (s : List ℕ) (n : ℕ) where
  -- the children in k slots
  pub slots_length : (k : ℕ) (used : List ℕ) → length (counted_slots s n k used) ≡ length used
  unfolding counted_slots
  slots_length zero used = refl
  slots_length (suc k) used = go (is_child (held_in (kind_at s n) k)) (slots_length k used)
    where
      go : (b : Bool) → length (counted_slots s n k used) ≡ length used → length (cond b (counted (slot_at s n k) (counted_slots s n k used)) (counted_slots s n k used)) ≡ length used
      go true h = counted-length _ _ ∙ h
      go false h = h

  -- node n's children are lower, and the array has room for lower nodes
  module _ (used : List ℕ) (long : n ≤ length used) (lower : (k : ℕ) → k < 3 → is_child (held_in (kind_at s n) k) ≡ true → slot_at s n k < n) where
    slots-count : (k c uses : ℕ) → k ≤ 3 → get_or used c 0 ≡ up_to_two uses → get_or (counted_slots s n k used) c 0 ≡ up_to_two (uses + uses_in s n k c)
    unfolding counted_slots uses_in
    slots-count zero c uses h e = e ∙ ap up_to_two (sym (add-zero uses))
    slots-count (suc k) c uses h e = go (is_child (held_in (kind_at s n) k)) refl (slots-count k c uses (omega arith) e)
      where
        sum : (a b : ℕ) → uses + a + b ≡ uses + (a + b)
        sum a b = omega arith

        go : (b : Bool) → is_child (held_in (kind_at s n) k) ≡ b → get_or (counted_slots s n k used) c 0 ≡ up_to_two (uses + uses_in s n k c)
            → get_or (cond b (counted (slot_at s n k) (counted_slots s n k used)) (counted_slots s n k used)) c 0 ≡ up_to_two (uses + (uses_in s n k c + cond (b && eqb (slot_at s n k) c) 1 0))
        go true child ih =
            counts (slot_at s n k) (counted_slots s n k used) c (uses + uses_in s n k c) (omega (arith, slots_length k used, lower k (omega arith) child)) ih
            ∙ ap up_to_two (sum (uses_in s n k c) _)
        go false child ih = ih ∙ ap (λ (m : ℕ). up_to_two (uses + m)) (sym (add-zero (uses_in s n k c)))

    pub node-counted : Counts s n used → Counts s (n + 1) (counted_slots s n 3 used)
    unfolding uses_below
    node-counted e = record { at = λ c. rw (add-one n) (slots-count 3 c (uses_below s n c) (omega arith) (e.at c)) }

-- before the first node, and after the last
pub none-counted : (s used : List ℕ) → ((c : ℕ) → get_or used c 0 ≡ 0) → Counts s 0 used
unfolding up_to_two uses_below
none-counted s used zeros = record { at = zeros }

pub all-counted : {s used : List ℕ} → Counts s (node_count s) used → all (node_count s - 1) (λ c. eqb (get_or used c 0) 1) ≡ used_once s
unfolding used_once
all-counted e = all_same _ _ _ (λ c l. ap (λ (uses : ℕ). eqb uses 1) (e.at c) ∙ once_up_to_two _)

-- an array of zeros
pub zeros : (n c : ℕ) → ◌≡◌ {A = ℕ} (get_or (replicate n 0) c 0) 0
zeros zero c = refl
zeros (suc n) zero = refl
zeros (suc n) (suc c) = zeros n c
