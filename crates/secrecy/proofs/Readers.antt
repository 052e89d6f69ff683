-- Noninterference over trees, for every reader: he stands below the highest level, or no field is partial. For the reader at the highest level every
-- level is at or below his, so two stores with no partial field that agree for him are one store, and with any fuel its runs end in one store.
use Prim.Native.Nat.{ℕ}
use mathlib.Core.Path.{◌≡◌, refl, sym, subst, ◌∙◌, fun_ext}
use mathlib.Core.Bool.{true, false, true≢false}
use mathlib.Core.Logic.{◌⊎◌, inl, inr}
use Rattle.basis.proofs.Tests.{split}
use Rattle.sheet.specs.Trees.{Cmd}
use Rattle.levels.specs.Lattice.{Lattice, Laws}
use Rattle.store.specs.Cells.{Cell, Store}
use Rattle.rules.specs.Ends.{done}
use Rattle.rules.specs.Rules.{exec}
use Rattle.store.specs.declared.Mode.{Mode}
use Rattle.store.specs.Marks.{Mark}
use Rattle.rules.specs.LevelMarks.{marking}
use Rattle.rules.specs.Agreement.{Agree, shown, hidden, both_partial, first_partial, second_partial}
use Rattle.secrecy.specs.Secrecy.{HalfClosed, half_closed}
use Rattle.rules.proofs.SafeMarks.{agree_refl, noninterference}
use Rattle.rules.proofs.Within.{done-once}

abbrev pub Whole : Store Mark → Type 0
Whole σ = (i : ℕ) → HalfClosed (σ i) → ⊥

module _ (𝓛 : Lattice) (𝓘 : Laws 𝓛) (R : ℕ) where
  one_cell : {c d : Cell Mark} → 𝓛.le 𝓛.top R ≡ true → Agree 𝓛 R c d → (HalfClosed c → ⊥) → (HalfClosed d → ⊥) → c ≡ d
  one_cell highest (shown h) p q = refl
  one_cell highest (hidden {A} h k) p q = absurd (true≢false (sym (𝓘.le_trans (𝓘.top-greatest A) highest) ∙ h))
  one_cell highest both_partial p q = absurd (p half_closed)
  one_cell highest (first_partial h) p q = absurd (p half_closed)
  one_cell highest (second_partial h) p q = absurd (q half_closed)

  pub agreeing : (mode : Mode) (c : Cmd) (context f g : ℕ) (σ τ : Store Mark) → ((i : ℕ) → Agree 𝓛 R (σ i) (τ i))
      → (𝓛.le 𝓛.top R ≡ false) ⊎ (Whole σ × Whole τ)
      → (σ' τ' : Store Mark) (f' g' : ℕ) → exec (marking 𝓛 mode) c context σ f ≡ done σ' f' → exec (marking 𝓛 mode) c context τ g ≡ done τ' g'
      → (i : ℕ) → Agree 𝓛 R (σ' i) (τ' i)
  agreeing mode c context f g σ τ h (inl below) σ' τ' f' g' d e i = noninterference 𝓛 𝓘 R below mode c context f g σ τ h σ' τ' f' g' d e i
  agreeing mode c context f g σ τ h (inr (p, q)) σ' τ' f' g' d e i =
      split (𝓛.le 𝓛.top R)
      (λ highest.
      let one : τ ≡ σ = fun_ext (λ j. sym (one_cell highest (h j) (p j) (q j))) in
      let again = subst (λ (υ : Store Mark). exec (marking 𝓛 mode) c context υ g ≡ done τ' g') one e in
      subst (λ (υ : Store Mark). Agree 𝓛 R (σ' i) (υ i)) (done-once (marking 𝓛 mode) c context σ f g f' g' σ' τ' d again) (agree_refl 𝓛 R (σ' i)))
      (λ below. noninterference 𝓛 𝓘 R below mode c context f g σ τ h σ' τ' f' g' d e i)
