-- What the methods of iterators answer, as tests of all the places of a list, and of all the numbers below the end of a range.
use Prim.Native.Nat.{ℕ, zero, suc, ◌≤◌, ◌<◌, zero-le}
use native.Mathlib.Nat.{zero-add}
use native.Mathlib.Omega.{arith}
use denote.Param.Members.{Mut}
use mathlib.Core.Path.{◌≡◌, refl, sym, ap, ◌∙◌}
use mathlib.Core.Bool.{Bool, true, false, not, ◌&&◌, ◌||◌}
use mathlib.Core.List.{List, [], ◌∷◌}
use lib.Dec.{eqb}
use lib.ListN.{length, get_or}
use Rattle.std.specs.Prelude.{Option, Some, None, MatchOption}
use Rattle.std.specs.Borrow.{Bor}
use Rattle.std.specs.Fn.{Called, CalledAt}
use Rattle.std.specs.Iterator.{ChecksAll, FindsItem}
use Rattle.std.specs.List.{list_all, list_any, range_with_len}
use Rattle.std.specs.Cmp.Lexicographic.{pointwise}
use Rattle.std.specs.declared.ops.Range.{Range}
use Rattle.std.proofs.iter.Yields.{nat_range_steps}
use Rattle.std.proofs.lemmas.Iterator.{YieldsList, YieldsList-from_range, first_from_Range}
use Rattle.std.proofs.lemmas.Iterator.Search.{all_from_yields_List}
use Rattle.std.proofs.lemmas.List.FromFn.{length-range_with_len, get_or-range_with_len}
use Rattle.basis.specs.Tests.{all, first}
use Rattle.basis.proofs.Tests.{both, and_of_lem, iff, all-at, all_of, all_none, all_same, first-is, first-none}

-- all below n + 1 is the first and all after it
all_front : (n : ℕ) (P : ℕ → Bool) → all (suc n) P ≡ (P 0 && all n (λ i. P (suc i)))
all_front n P =
    iff (all (suc n) P) (P 0 && all n (λ i. P (suc i)))
    (λ h. and_of_lem (all-at (suc n) P h 0 (omega arith)) (all_of n _ (λ i l. all-at (suc n) P h (suc i) (omega arith))))
    (λ h. let (first, rest) = both (P 0) _ h in all_of (suc n) P (go first rest))
  where
    go : P 0 ≡ true → all n (λ i. P (suc i)) ≡ true → (i : ℕ) → i < suc n → P i ≡ true
    go first rest zero l = first
    go first rest (suc i) l = all-at n (λ i. P (suc i)) rest i (omega arith)

not_or : (a b : Bool) → not (a || b) ≡ (not a && not b)
not_or true b = refl
not_or false b = refl

-- std's words of lists
module _ {X : Type 0} (p : X → Bool) where
  list_all_lem : (xs : List X) (d : X) → list_all p xs ≡ all (length xs) (λ i. p (get_or xs i d))
  list_all_lem [] d = sym (all_none _)
  list_all_lem (x ∷ xs) d = ap (λ (b : Bool). p x && b) (list_all_lem xs d) ∙ sym (all_front (length xs) _)

  pub list_any_lem : (xs : List X) (d : X) → not (list_any p xs) ≡ all (length xs) (λ i. not (p (get_or xs i d)))
  list_any_lem [] d = sym (all_none _)
  list_any_lem (x ∷ xs) d = not_or (p x) _ ∙ ap (λ (b : Bool). not (p x) && b) (list_any_lem xs d) ∙ sym (all_front (length xs) _)

-- equal at every place
pub pointwise_lem : (xs ys : List ℕ) → length xs ≡ length ys → pointwise eqb xs ys ≡ all (length xs) (λ i. eqb (get_or xs i 0) (get_or ys i 0))
pointwise_lem [] [] e = sym (all_none _)
pointwise_lem [] (y ∷ ys) e = absurd (cc)
pointwise_lem (x ∷ xs) [] e = absurd (cc)
pointwise_lem (x ∷ xs) (y ∷ ys) e = ap (λ (b : Bool). eqb x y && b) (pointwise_lem xs ys (omega arith)) ∙ sym (all_front (length xs) _)

-- `all`, by a closure that answers the test P of each item: over the items of a list
pub yields-all : {S A B F : Type 0} {steps : S → Option A → S → Type 0} {v : A → B} {g : Mut F (A × Unit {0}) Bool} {s u : S} {f : F}
    → (P : B → Bool) (xs : List B) (d : B) (r : Bool) → YieldsList steps v s xs → ChecksAll steps g s f r u
    → ((x : A) (b : Bool) (q : F) → Called g f (x, tt) b q → (q ≡ f) × (b ≡ P (v x)))
    → r ≡ all (length xs) (λ i. P (get_or xs i d))
yields-all P xs d r yields ran calls = all_from_yields_List P _ _ r ran yields calls ∙ list_all_lem P xs d

-- over the numbers below n
module _ (n : ℕ) (P : ℕ → Bool) where
  pub range-all : {F : Type 0} {g : Mut F (ℕ × Unit {0}) Bool} {u : Range ℕ} {f : F} (r : Bool) → ChecksAll nat_range_steps g (record { start = 0; end = n }) f r u
      → ((i : ℕ) (b : Bool) (q : F) → Called g f (i, tt) b q → (q ≡ f) × (b ≡ P i))
      → r ≡ all n P
  range-all r ran calls =
      yields-all P (range_with_len 0 n) 0 r (YieldsList-from_range 0 n n refl (omega arith)) ran calls
      ∙ rw (length-range_with_len 0 n) (all_same n _ P (λ i l. ap P (get_or-range_with_len 0 n i 0 l ∙ zero-add i)))

  found : (r : Option ℕ)
      → MatchOption r ((k : ℕ) → 0 ≤ k → k < n → P k ≡ false) (λ i. (0 ≤ i) × (i < n) × (P i ≡ true) × ((k : ℕ) → 0 ≤ k → k < i → P k ≡ false))
      → MatchOption r (first n P ≡ n) (λ i. (first n P ≡ i) × (i < n))
  found None h = first-none n P (λ k l. h k zero-le l)
  found (Some i) h = (first-is n P i h.1 (λ k l. h.3 k zero-le l) h.2, h.1)

  -- `find` gives the first
  pub range-find : {F : Type 0} {g : Mut F (Bor ℕ × Unit {0}) Bool} {f : F} (u : Range ℕ) (r : Option ℕ) → FindsItem nat_range_steps g (record { start = 0; end = n }) f r u
      → ((i : ℕ) (b : Bool) (q : F) → CalledAt g f i b q → (q ≡ f) × (b ≡ P i))
      → MatchOption r (first n P ≡ n) (λ i. (first n P ≡ i) × (i < n))
  range-find u r ran calls =
      found r (first_from_Range _ _ _ r (λ k. P k ≡ true) (λ k. P k ≡ false) ran
      (λ k q h. sym (calls k true q h).1) (λ k q h. let (same, fails) = calls k false q h in (same, sym fails)))
