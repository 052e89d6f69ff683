-- Names cut out of the bytes, 8 bytes each: a name and its place say the same.
use Prim.Native.Nat.{ℕ, zero, suc, ◌+◌, ◌*◌, ◌/◌, ◌<◌, ◌≤◌}
use native.Mathlib.Nat.{zero-add, add-zero}
use native.Mathlib.Omega.{arith}
use mathlib.Core.Path.{◌≡◌, refl, sym, ap, ap₂, ◌∙◌}
use mathlib.Core.Bool.{Bool, not, ◌&&◌}
use mathlib.Core.List.{List, []}
use lib.Dec.{eqb}
use lib.ListN.{length, get_or, take, drop}
use Rattle.std.proofs.lemmas.List.{get_or-take, get_or-drop, length-take-le, length-drop, drop-drop}
use Rattle.std.proofs.lemmas.List.FromFn.{length-enumerate_from, get_or-enumerate_from}
use Rattle.std.specs.List.{list_any, enumerate_from}
use Rattle.std.specs.Cmp.Lexicographic.{pointwise}
use Rattle.std.specs.Simd.{first_chunks}
use Rattle.basis.proofs.Tests.{all_same}
use Rattle.basis.specs.Tests.{all}
use Rattle.basis.proofs.Iterators.{list_any_lem, pointwise_lem}
use Rattle.names.specs.Names.{NameIn, is_letter, follows_at, good_name, same_name, new_name, names_right}

-- name i
abbrev name_in : List ℕ → ℕ → List ℕ
name_in s i = take 8 (drop (i * 8) s)

byte_in : (s : List ℕ) (i j : ℕ) → j < 8 → get_or (name_in s i) j 0 ≡ get_or s (i * 8 + j) 0
byte_in s i j h = get_or-take 8 (drop (i * 8) s) j 0 h ∙ get_or-drop (i * 8) s j 0

length_name : (s : List ℕ) (i : ℕ) → NameIn s i → length (name_in s i) ≡ 8
length_name s i h = length-take-le 8 (drop (i * 8) s) (omega (arith, length-drop (i * 8) s))

length-first_chunks : {X : Type 0} (n k : ℕ) (xs : List X) → length (first_chunks n k xs) ≡ k
length-first_chunks n zero xs = refl
length-first_chunks n (suc k) xs = ap suc (length-first_chunks n k (drop n xs))

name_at : (s : List ℕ) (k i : ℕ) → i < k → get_or (first_chunks 8 k s) i [] ≡ name_in s i
name_at s zero i h = absurd (omega arith)
name_at s (suc k) zero h = refl
name_at s (suc k) (suc i) h = name_at (drop 8 s) k i (omega arith) ∙ ap (take 8) (drop-drop (i * 8) 8 s ∙ ap (λ (n : ℕ). drop n s) (omega arith))

good_is : (s : List ℕ) (i : ℕ) → good_name (name_in s i) 0 ≡ good_name s i
unfolding good_name
good_is s i =
    ap₂ (λ (a b : Bool). a && b)
    (ap is_letter (byte_in s i 0 (omega arith) ∙ ap (λ (n : ℕ). get_or s n 0) (add-zero (i * 8))))
    (all_same 7 _ (follows_at s i) (λ j l. rw (zero-add j, zero-add (j + 1), byte_in s i j (omega arith), byte_in s i (j + 1) (omega arith))))

same_is : (s : List ℕ) (k i : ℕ) → NameIn s k → NameIn s i → pointwise eqb (name_in s k) (name_in s i) ≡ same_name s k i
unfolding same_name
same_is s k i one two =
    let long = length_name s k one in
    pointwise_lem (name_in s k) (name_in s i) (long ∙ sym (length_name s i two))
    ∙ rw long (all_same 8 _ _ (λ j l. ap₂ eqb (byte_in s k j l) (byte_in s i j l)))

new_is : (s : List ℕ) (n i : ℕ) → i < n → n ≤ length s / 8 → not (list_any (λ other. pointwise eqb other (name_in s i)) (take i (first_chunks 8 n s))) ≡ new_name s i
unfolding new_name
new_is s n i few most =
    let names = first_chunks 8 n s in
    let long : length (take i names) ≡ i = length-take-le i names (omega (arith, length-first_chunks 8 n s)) in
    list_any_lem _ (take i names) []
    ∙ rw long (all_same i _ _ (λ k l.
    let here = get_or-take i names k [] l ∙ name_at s n k (omega arith) in
    ap not (ap (λ (x : List ℕ). pointwise eqb x (name_in s i)) here ∙ same_is s k i (omega arith) (omega arith))))

-- a name is good and none of those before it
abbrev pub is_right : List (List ℕ) → ℕ × List ℕ → Bool
is_right names p = good_name p.1 0 && not (list_any (λ other. pointwise eqb other p.1) (take p.0 names))

pub names_lem : (s : List ℕ) → let names = first_chunks 8 (length s / 8) s in
    all (length (enumerate_from 0 names)) (λ i. is_right names (get_or (enumerate_from 0 names) i (0, []))) ≡ names_right s
unfolding names_right
names_lem s =
    let n = length s / 8 in
    let names = first_chunks 8 n s in
    let count : length (enumerate_from 0 names) ≡ n = length-enumerate_from 0 names ∙ length-first_chunks 8 n s in
    rw count (all_same n _ _ (λ i l.
    let here = get_or-enumerate_from 0 names i (0, []) (omega (arith, length-first_chunks 8 n s)) in
    let at : get_or (enumerate_from 0 names) i (0, []) ≡ (i, name_in s i) = here ∙ ap₂ (λ (k : ℕ) (x : List ℕ). (k, x)) (zero-add i) (name_at s n i l) in
    rw at (ap₂ (λ (a b : Bool). a && b) (good_is s i) (new_is s n i l (omega arith)))))
