-- A count and what follows it, written from the front: the layout of a store, and of an answer.
use Prim.Native.Nat.{ℕ, ◌+◌, ◌≤◌}
use native.Mathlib.Omega.{arith}
use mathlib.Core.Path.{◌≡◌, refl, sym, ap, ap₂, ◌∙◌}
use mathlib.Core.List.{List, [], ◌∷◌, ◌++◌}
use lib.ListN.{length, drop, set, length-append, length-drop, length-set}
use lib.Seq.{sets, sets-eq, take_at, drop-append-add, drop-drop, drop-set-lt}

-- writes behind what is filled
put_all : (a z vs : List ℕ) (n : ℕ) → length a ≡ n → n + length vs ≤ length z → sets (a ++ drop n z) n vs ≡ (a ++ vs) ++ drop (n + length vs) z
put_all a z vs n e h =
    sets-eq vs (a ++ drop n z) n (omega (arith, length-append a (drop n z), length-drop n z))
    ∙ ap₂ (λ (p q : List ℕ). p ++ vs ++ q) (take_at a (drop n z) n e)
    (ap (λ (k : ℕ). drop (k + length vs) (a ++ drop n z)) (sym e) ∙ drop-append-add a (drop n z) (length vs) ∙ drop-drop (length vs) n z)

module _ (count : ℕ) where
  -- the count and some entries, then what stood there from an offset on
  abbrev pub filled : List ℕ → ℕ → List ℕ → List ℕ
  filled entries at z = (count ∷ 0 ∷ entries) ++ drop at z

  -- the count's two bytes change nothing behind them
  abbrev pub headed : List ℕ → List ℕ
  headed z = set (set z 0 count) 1 0

  pub headed_length : (z : List ℕ) → length (headed z) ≡ length z
  headed_length z = length-set (set z 0 count) 1 0 ∙ length-set z 0 count

  rest : (at : ℕ) (z : List ℕ) → 2 ≤ at → drop at (headed z) ≡ drop at z
  rest at z h = drop-set-lt at (set z 0 count) 1 0 (omega arith) ∙ drop-set-lt at z 0 count (omega arith)

  pub fill_first : (z : List ℕ) → 2 ≤ length z → headed z ≡ filled [] 2 (headed z)
  fill_first z h = put_all [] z (count ∷ 0 ∷ []) 0 refl h ∙ ap (λ (l : List ℕ). count ∷ 0 ∷ l) (sym (rest 2 z (omega arith)))

  pub fill_next : (entries entry : List ℕ) (at next : ℕ) (z : List ℕ) → 2 + length entries ≡ at → at + length entry ≡ next → next ≤ length z
      → sets (filled entries at z) at entry ≡ filled (entries ++ entry) next z
  fill_next entries entry at next z here there h =
      put_all (count ∷ 0 ∷ entries) z entry at (omega arith) (omega arith)
      ∙ ap (λ (k : ℕ). (count ∷ 0 ∷ (entries ++ entry)) ++ drop k z) there

  pub fill_last : (entries : List ℕ) (at : ℕ) (z : List ℕ) → 2 ≤ at → filled entries at (headed z) ≡ (count ∷ 0 ∷ entries) ++ drop at z
  fill_last entries at z h = ap (λ (l : List ℕ). (count ∷ 0 ∷ entries) ++ l) (rest at z h)
