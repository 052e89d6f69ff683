-- The published rules: document 002, figure 2 with the assignments of figures 3 and 5, as relations whose constructors bear the paper's rule names,
-- and document 01's not and seal beside them. The paper's label A is `whole A`, its A* is `partial A`, and pc is the context.
-- `proofs/Published.antt` proves the statements.
use Rattle.std.specs.Prelude.{ℕ, ◌≤◌, ◌≡◌, true, false, Ok}
use Rattle.value.specs.Values.{operator_of, not_of, is_true}
use Rattle.value.specs.declared.Value.{Value}
use Rattle.levels.specs.Lattice.{Lattice, Laws}
use Rattle.sheet.specs.Trees as tree
use Rattle.sheet.specs.Trees.{Exp, constant, field, operator, Cmd, assign, sequence, if_else, while}
use Rattle.store.specs.Cells.{cell, Store}
use Rattle.rules.specs.Rules.{put, exec}
use Rattle.rules.specs.Ends.{Why, End, done, spent, stopped}
use Rattle.store.specs.declared.Mode.{Mode}
use Rattle.store.specs.declared.Mode.TheVariants.{Strict, Permissive}
use Rattle.store.specs.Marks.{Mark, whole, partial, level_of}
use Rattle.rules.specs.LevelMarks.{joined, marking}

module _ (𝓛 : Lattice) where
  -- ⟨e, σ⟩ ⇓ n^k
  pub data Evaluates (σ : Store Mark) : Exp → Value → Mark → Type 0 where
    const : {n : Value} → Evaluates σ (constant n) n (whole 𝓛.bot)
    var : {x : ℕ} {n : Value} {k : Mark} → σ x ≡ cell n k → Evaluates σ (field x) n k
    oper : {place op : ℕ} {e' e'' : Exp} {n n' n'' : Value} {k' k'' : Mark} → Evaluates σ e' n' k' → Evaluates σ e'' n'' k'' → operator_of op n' n'' ≡ Ok n
        → Evaluates σ (operator place op e' e'') n (joined 𝓛 k' k'')
    -- "Not" keeps the mark.
    not : {e : Exp} {n : Value} {k : Mark} → Evaluates σ e n k → Evaluates σ (tree.not e) (not_of n) k
    -- Seal gives whole TOP, whatever stood there.
    seal : {e : Exp} {n : Value} {k : Mark} → Evaluates σ e n k → Evaluates σ (tree.seal e) n (whole 𝓛.top)

  -- ⟨c, σ⟩ ⇓_pc σ'
  pub data Executes : Mode → Cmd → ℕ → Store Mark → Store Mark → Type 0 where
    skip : {mode : Mode} {place pc : ℕ} {σ : Store Mark} → Executes mode (tree.skip place) pc σ σ
    seq : {mode : Mode} {pc : ℕ} {c₁ c₂ : Cmd} {σ σ'' σ' : Store Mark} → Executes mode c₁ pc σ σ'' → Executes mode c₂ pc σ'' σ'
        → Executes mode (sequence c₁ c₂) pc σ σ'
    if_else_t : {mode : Mode} {place pc A : ℕ} {e : Exp} {c₁ c₂ : Cmd} {σ σ' : Store Mark} {n : Value} → Evaluates σ e n (whole A) → is_true n ≡ true
        → Executes mode c₁ (𝓛.join pc A) σ σ' → Executes mode (if_else place e c₁ c₂) pc σ σ'
    if_else_f : {mode : Mode} {place pc A : ℕ} {e : Exp} {c₁ c₂ : Cmd} {σ σ' : Store Mark} {n : Value} → Evaluates σ e n (whole A) → is_true n ≡ false
        → Executes mode c₂ (𝓛.join pc A) σ σ' → Executes mode (if_else place e c₁ c₂) pc σ σ'
    while_t : {mode : Mode} {place pc A : ℕ} {e : Exp} {c : Cmd} {σ σ'' σ' : Store Mark} {n : Value} → Evaluates σ e n (whole A) → is_true n ≡ true
        → Executes mode c (𝓛.join pc A) σ σ'' → Executes mode (while place e c) (𝓛.join pc A) σ'' σ' → Executes mode (while place e c) pc σ σ'
    while_f : {mode : Mode} {place pc A : ℕ} {e : Exp} {c : Cmd} {σ : Store Mark} {n : Value} → Evaluates σ e n (whole A) → is_true n ≡ false
        → Executes mode (while place e c) pc σ σ
    -- figure 3, for strict mode
    assn_nsu : {place pc x : ℕ} {e : Exp} {σ : Store Mark} {o n : Value} {l m : Mark} → σ x ≡ cell o l → 𝓛.le pc (level_of l) ≡ true → Evaluates σ e n m
        → Executes Strict (assign place x e) pc σ (put x (cell n (joined 𝓛 (whole pc) m)) σ)
    -- figure 5, for permissive mode
    assn_1 : {place pc x : ℕ} {e : Exp} {σ : Store Mark} {o n : Value} {l m : Mark} → σ x ≡ cell o l → Evaluates σ e n m → 𝓛.le pc (level_of l) ≡ true
        → Executes Permissive (assign place x e) pc σ (put x (cell n (joined 𝓛 (whole pc) m)) σ)
    assn_2 : {place pc x : ℕ} {e : Exp} {σ : Store Mark} {o n : Value} {l m : Mark} → σ x ≡ cell o l → Evaluates σ e n m → 𝓛.le pc (level_of l) ≡ false
        → Executes Permissive (assign place x e) pc σ (put x (cell n (partial (𝓛.meet pc (level_of l)))) σ)

  -- the rules' run is done with some fuel
  pub record Runs (mode : Mode) (c : Cmd) (pc : ℕ) (σ σ' : Store Mark) : Type 0 where
    pub fuel : ℕ
    pub left : ℕ
    pub ends : exec (marking 𝓛 mode) c pc σ fuel ≡ done σ' left

-- In any lattice, a command's run is done with some fuel exactly if the published rules have that final store.
abbrev pub RunsAsPublished : Type 0
RunsAsPublished =
    (𝓛 : Lattice) → Laws 𝓛 → (mode : Mode) (c : Cmd) (pc : ℕ) (σ σ' : Store Mark)
    → (Runs 𝓛 mode c pc σ σ' → Executes 𝓛 mode c pc σ σ') × (Executes 𝓛 mode c pc σ σ' → Runs 𝓛 mode c pc σ σ')

-- A run that stops, with whatever fuel, has no published end.
abbrev pub StopsUnpublished : Type 0
StopsUnpublished =
    (𝓛 : Lattice) → Laws 𝓛 → (mode : Mode) (c : Cmd) (pc : ℕ) (σ : Store Mark) (fuel : ℕ) (why : Why) (place left : ℕ)
    → exec (marking 𝓛 mode) c pc σ fuel ≡ stopped why place left
    → (σ' : Store Mark) → Executes 𝓛 mode c pc σ σ' → ⊥

-- a run's end is done with this store, or its fuel is used up
pub data DoneOrSpent (σ' : Store Mark) : End Mark → Type 0 where
  is-done : {left : ℕ} → DoneOrSpent σ' (done σ' left)
  is-spent : {place : ℕ} → DoneOrSpent σ' (spent place)

-- Where the published rules have an end, a run finishes with it or its fuel is used up; with fuel enough it finishes.
pub record PublishedReached (𝓛 : Lattice) (mode : Mode) (c : Cmd) (pc : ℕ) (σ σ' : Store Mark) : Type 0 where
  pub reached : (fuel : ℕ) → DoneOrSpent σ' (exec (marking 𝓛 mode) c pc σ fuel)
  pub enough : ℕ
  pub finishes : (fuel : ℕ) → enough ≤ fuel → (left : ℕ) × (exec (marking 𝓛 mode) c pc σ fuel ≡ done σ' left)

abbrev pub ReachesPublished : Type 0
ReachesPublished =
    (𝓛 : Lattice) → Laws 𝓛 → (mode : Mode) (c : Cmd) (pc : ℕ) (σ σ' : Store Mark) → Executes 𝓛 mode c pc σ σ' → PublishedReached 𝓛 mode c pc σ σ'
