-- Pupils' errors, as monitors: document 01, "Pupils' errors the proofs must catch", the three that are errors of the run. `KeepsSecrets` is noninterference
-- over trees, said of any monitor: the rules keep it, and the first two do not. `KeepsToRules` says that what is done is the published end: the rules keep to
-- it, and the third does not. `proofs/Pupils.antt` proves it, with runs for each.
use Rattle.std.specs.Prelude.{ℕ, zero, suc, ◌≡◌, Bool, true, false}
use Rattle.sheet.specs.Trees.{Exp, Cmd}
use Rattle.levels.specs.Lattice.{Lattice, Laws}
use Rattle.rules.specs.Ends.{Try, fine, End, done, spent, bind}
use Rattle.rules.specs.Rules.{Marking, tested, Loop, exec_by, exec}
use Rattle.store.specs.Cells.{Store}
use Rattle.store.specs.declared.Mode.{Mode}
use Rattle.store.specs.declared.Mode.TheVariants.{Strict, Permissive}
use Rattle.store.specs.Marks.{Mark, whole, partial}
use Rattle.rules.specs.LevelMarks.{stored, marking_by, leaving, marking}
use Rattle.rules.specs.Agreement.{Agree}
use Rattle.rules.specs.Published.{Executes}

-- what runs a command: in a context, from a store, with fuel
abbrev pub Monitor : Type 0
Monitor = Lattice → Mode → Cmd → ℕ → Store Mark → ℕ → End Mark

-- the rules
abbrev pub rules : Monitor
rules 𝓛 mode = exec (marking 𝓛 mode)

-- Two runs of one command in one context, from stores that agree for a reader whom the highest level does not lie at or below: if both are done, their
-- final stores agree for him.
abbrev pub KeepsSecrets : Monitor → Type 0
KeepsSecrets monitor =
    (𝓛 : Lattice) → Laws 𝓛 → (R : ℕ) → 𝓛.le 𝓛.top R ≡ false
    → (mode : Mode) (c : Cmd) (context f g : ℕ) (σ τ : Store Mark) → ((i : ℕ) → Agree 𝓛 R (σ i) (τ i))
    → (σ' τ' : Store Mark) (f' g' : ℕ) → monitor 𝓛 mode c context σ f ≡ done σ' f' → monitor 𝓛 mode c context τ g ≡ done τ' g'
    → (i : ℕ) → Agree 𝓛 R (σ' i) (τ' i)

-- A command that is done ends as the published rules say.
abbrev pub KeepsToRules : Monitor → Type 0
KeepsToRules monitor =
    (𝓛 : Lattice) → Laws 𝓛 → (mode : Mode) (c : Cmd) (context fuel left : ℕ) (σ σ' : Store Mark)
    → monitor 𝓛 mode c context σ fuel ≡ done σ' left → Executes 𝓛 mode c context σ σ'

-- Keeping A instead of the meet in the permissive store.
module _ (𝓛 : Lattice) where
  unfoldable pub stored_keeping : Mode → Bool → ℕ → ℕ → Mark → Try Mark
  stored_keeping mode true context A m = stored 𝓛 mode true context A m
  stored_keeping Strict false context A m = stored 𝓛 Strict false context A m
  stored_keeping Permissive false context A m = fine (partial A)

abbrev pub a_kept : Monitor
a_kept 𝓛 mode = exec (marking_by 𝓛 (leaving 𝓛 (stored_keeping 𝓛 mode)))

-- Dropping a loop's raised context before the next test: later rounds run in the old one.
module _ {Mark Seen Context : Type 0} (𝓜 : Marking Mark Seen Context) where
  unfoldable pub later_rounds : ℕ → Exp → (Context → Store Mark → ℕ → End Mark) → ℕ → Context → Store Mark → ℕ → End Mark
  later_rounds place a body zero context σ fuel = spent place
  later_rounds place a body (suc bound) context σ fuel =
      tested 𝓜 place a context σ fuel (λ c left. bind (body context σ left) (later_rounds place a body bound context)) (λ c left. done σ left)

  abbrev pub looping_old : Loop 𝓜
  looping_old place a body context σ fuel =
      tested 𝓜 place a context σ fuel (λ c left. bind (body c σ left) (later_rounds place a body left context)) (λ c left. done σ left)

abbrev pub old_context_later : Monitor
old_context_later 𝓛 mode = exec_by (marking 𝓛 mode) (looping_old (marking 𝓛 mode))

-- Treating partial as above TOP, so a partial field could never be overwritten clean: no context lies at or below one.
module _ (𝓛 : Lattice) where
  unfoldable pub stored_above : Mode → ℕ → Mark → Mark → Try Mark
  stored_above mode context (whole A) m = stored 𝓛 mode (𝓛.le context A) context A m
  stored_above mode context (partial A) m = stored 𝓛 mode false context A m

abbrev pub never_clean : Monitor
never_clean 𝓛 mode = exec (marking_by 𝓛 (stored_above 𝓛 mode))

-- the rules keep secrets and end as published; of the pupils' monitors two leak, and the third does not end as published
pub record PupilsCaught : Type 0 where
  pub rules_keep : KeepsSecrets rules
  pub rules_published : KeepsToRules rules
  pub a_kept_leaks : KeepsSecrets a_kept → ⊥
  pub old_context_leaks : KeepsSecrets old_context_later → ⊥
  pub never_clean_unpublished : KeepsToRules never_clean → ⊥
