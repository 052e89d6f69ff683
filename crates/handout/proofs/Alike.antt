-- Why an answer tells nothing that its reader may not know: a request that is answered from two stores that agree for him is answered alike. A partial
-- field whose level isn't at or below him is never open to him in the other store, so that withholding it tells nothing. One at or below him may
-- be, and a blank in one run and a price in the other would tell: so it refuses.
use Prim.Native.Nat.{ℕ, zero, suc, ◌%◌, ◌<◌}
use native.Mathlib.Omega.{arith}
use mathlib.Core.Path.{◌≡◌, refl, sym, ap, ap₂, ◌∙◌}
use mathlib.Core.Bool.{true, false, true≢false}
use mathlib.Core.List.{List, ◌∷◌, ◌++◌}
use mathlib.Core.Logic.{inl, inr}
use Rattle.basis.proofs.Tests.{None, is_false}
use Rattle.value.specs.Bytes.{bytes_of}
use Rattle.value.specs.declared.Value.{Value}
use Rattle.levels.specs.Lattice.{Lattice, Laws}
use Rattle.store.specs.Cells.{Cell, cell, Store}
use Rattle.store.specs.Marks.{Mark, whole, partial, level_of}
use Rattle.rules.specs.Agreement as agreement
use Rattle.rules.specs.Agreement.{Agree, hidden, both_partial, first_partial, second_partial}
use Rattle.handout.specs.Requests.{asked_count, field_asked}
use Rattle.handout.specs.Answers.{withheld, shown, all_shown, answer_bytes, refuses, refuses_at}

-- whole or partial, a field whose level isn't at or below the reader is withheld
pub shown_elsewhere : (𝓛 : Lattice) (R : ℕ) (v : Value) (m : Mark) → 𝓛.le (level_of m) R ≡ false → shown 𝓛 R (cell v m) ≡ withheld
unfolding shown
shown_elsewhere 𝓛 R v (whole a) elsewhere = rw elsewhere
shown_elsewhere 𝓛 R v (partial a) elsewhere = rw elsewhere

module _ (𝓛 : Lattice) (𝓘 : Laws 𝓛) (R : ℕ) where
  -- a field partial at A, and whole at B in a store that agrees: if B lay at or below the reader, so would A
  pub never_open : (v w : Value) {A B : ℕ} → Agree 𝓛 R (cell v (partial A)) (cell w (whole B)) → 𝓛.le A R ≡ false → 𝓛.le B R ≡ false
  never_open v w (first_partial (inl elsewhere)) partial_elsewhere = elsewhere
  never_open v w (first_partial (inr above)) partial_elsewhere = is_false _ (λ below. true≢false (sym (𝓘.le_trans above below) ∙ partial_elsewhere))

  -- one at or below him may be open to him there, at its own level and with any price
  pub may_be_open : (v w : Value) {A : ℕ} → 𝓛.le A R ≡ true → Agree 𝓛 R (cell v (partial A)) (cell w (whole A)) × (shown 𝓛 R (cell w (whole A)) ≡ 1 ∷ bytes_of w.n)
  unfolding shown
  may_be_open v w {A} below = (first_partial (inr (𝓘.le_refl A)), rw below)

  -- a partial field that does not refuse is withheld, and so it is where it is whole in the other store
  withheld_alike : (v w : Value) {A B : ℕ} → Agree 𝓛 R (cell v (partial A)) (cell w (whole B)) → refuses 𝓛 R (cell v (partial A)) ≡ false
      → shown 𝓛 R (cell v (partial A)) ≡ shown 𝓛 R (cell w (whole B))
  unfolding refuses
  withheld_alike v w agree passes = shown_elsewhere 𝓛 R v _ passes ∙ sym (shown_elsewhere 𝓛 R w _ (never_open v w agree passes))

  shown_alike : {c d : Cell Mark} → Agree 𝓛 R c d → refuses 𝓛 R c ≡ false → refuses 𝓛 R d ≡ false → shown 𝓛 R c ≡ shown 𝓛 R d
  unfolding refuses
  shown_alike (agreement.shown h) p q = refl
  shown_alike (hidden {v} {w} h k) p q = shown_elsewhere 𝓛 R v _ h ∙ sym (shown_elsewhere 𝓛 R w _ k)
  shown_alike (both_partial {v} {w}) p q = shown_elsewhere 𝓛 R v _ p ∙ sym (shown_elsewhere 𝓛 R w _ q)
  shown_alike (first_partial {v} {w} h) p q = withheld_alike v w (first_partial h) p
  shown_alike (second_partial {v} {w} h) p q = sym (withheld_alike v w (first_partial h) q)

  all_alike : (σ τ : Store Mark) (request : List ℕ) (n : ℕ) → None n (refuses_at 𝓛 R σ request) → None n (refuses_at 𝓛 R τ request)
      → ((i : ℕ) → i < n → Agree 𝓛 R (σ (field_asked request i)) (τ (field_asked request i))) → all_shown 𝓛 R σ request n ≡ all_shown 𝓛 R τ request n
  unfolding all_shown
  all_alike σ τ request zero p q agree = refl
  all_alike σ τ request (suc n) p q agree =
      ap₂ (λ (l m : List ℕ). l ++ m)
      (all_alike σ τ request n (λ i h. p i (omega arith)) (λ i h. q i (omega arith)) (λ i h. agree i (omega arith)))
      (shown_alike (agree n (omega arith)) (p n (omega arith)) (q n (omega arith)))

  pub answers_alike : (σ τ : Store Mark) (request : List ℕ)
      → None (asked_count request) (refuses_at 𝓛 R σ request) → None (asked_count request) (refuses_at 𝓛 R τ request)
      → ((i : ℕ) → i < asked_count request → Agree 𝓛 R (σ (field_asked request i)) (τ (field_asked request i))) → answer_bytes 𝓛 R σ request ≡ answer_bytes 𝓛 R τ request
  unfolding answer_bytes
  answers_alike σ τ request p q agree = ap (λ (l : List ℕ). asked_count request % 256 ∷ 0 ∷ l) (all_alike σ τ request (asked_count request) p q agree)
