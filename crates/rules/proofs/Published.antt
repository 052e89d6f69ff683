-- The run and the published rules: what a run that is done followed, rule by rule; for what the rules have, fuel enough; and that a run that stops has
-- no end there.
use Prim.Native.Nat.{ℕ, zero, suc, ◌+◌, ◌-◌}
use native.Mathlib.Omega.{arith}
use mathlib.Core.Path.{◌≡◌, refl, subst, ap}
use mathlib.Core.Bool.{Bool, true, false}
use Rattle.std.specs.Prelude.{Ok, Err}
use Rattle.value.specs.Values.{Computed, operator_of, is_true}
use Rattle.value.specs.declared.Value.{Value}
use Rattle.value.specs.declared.ArithmeticError.TheVariants.{OutOfRange, DivisorZero}
use Rattle.levels.specs.Lattice.{Lattice, Laws}
use Rattle.levels.proofs.Joins.{join_comm}
use Rattle.sheet.specs.Trees as tree
use Rattle.sheet.specs.Trees.{Exp, constant, field, operator, Cmd, assign, sequence, if_else, while}
use Rattle.rules.specs.Ends.{Why, Result, gives, stops, End, done, spent, stopped, at, and_then, with, choose, spend, bind}
use Rattle.store.specs.Cells.{Cell, cell, Store}
use Rattle.rules.specs.Rules.{put, computed, reading, operated, inverted, sealing, eval, updated, branch, tested, rounds, exec_by, exec}
use Rattle.store.specs.declared.Mode.{Mode}
use Rattle.store.specs.declared.Mode.TheVariants.{Strict, Permissive}
use Rattle.store.specs.Marks.{Mark, whole, partial, level_of}
use Rattle.rules.specs.LevelMarks.{joined, entered, stored, marking}
use Rattle.rules.proofs.Units.{while_law}
use Rattle.rules.specs.Published.{Evaluates, const, var, oper, not, seal, Executes, skip, seq, if_else_t, if_else_f, while_t, while_f, assn_nsu, assn_1, assn_2}
use Rattle.rules.specs.Published.{Runs, RunsAsPublished, StopsUnpublished, DoneOrSpent, is-done, is-spent, ReachesPublished}
use Rattle.rules.proofs.Within.{more_fuel, done-once, done_or_stopped}

-- what is said of a result, of a done end, where there is one
data Yields {A : Type 0} (P : A → Type 0) : Result A → Type 0 where
  yields : {a : A} → P a → Yields P (gives a)
  no_result : {why : Why} {place : ℕ} → Yields P (stops why place)

data Leads (P : Store Mark → Type 0) : End Mark → Type 0 where
  leads : {τ : Store Mark} {left : ℕ} → P τ → Leads P (done τ left)
  no_fuel : {place : ℕ} → Leads P (spent place)
  no_end : {why : Why} {place left : ℕ} → Leads P (stopped why place left)

then_yields : {A B : Type 0} {P : A → Type 0} {Q : B → Type 0} {x : Result A} {next : A → Result B} → Yields P x → ((a : A) → P a → Yields Q (next a))
    → Yields Q (and_then x next)
unfolding and_then
then_yields (yields {a} h) k = k a h
then_yields no_result k = no_result

computed_yields : (place : ℕ) (x : Computed) → Yields (λ v. x ≡ Ok v) (at place (computed x))
unfolding at computed
computed_yields place (Ok v) = yields refl
computed_yields place (Err (OutOfRange z)) = no_result
computed_yields place (Err DivisorZero) = no_result

spend_leads : (place fuel : ℕ) {P : Store Mark → Type 0} {next : ℕ → End Mark} → ((left : ℕ) → Leads P (next left)) → Leads P (spend place fuel next)
unfolding spend
spend_leads place zero h = no_fuel
spend_leads place (suc left) h = h left

with_leads : {A : Type 0} {Q : A → Type 0} {P : Store Mark → Type 0} {x : Result A} (left : ℕ) {next : A → End Mark} → Yields Q x → ((a : A) → Q a → Leads P (next a))
    → Leads P (with x left next)
unfolding with
with_leads left (yields {a} h) k = k a h
with_leads left no_result k = no_end

bind_leads : {Q P : Store Mark → Type 0} {x : End Mark} {next : Store Mark → ℕ → End Mark} → Leads Q x → ((τ : Store Mark) (left : ℕ) → Q τ → Leads P (next τ left))
    → Leads P (bind x next)
unfolding bind
bind_leads (leads {τ} {left} h) k = k τ left h
bind_leads no_fuel k = no_fuel
bind_leads no_end k = no_end

leads_map : {P Q : Store Mark → Type 0} {x : End Mark} → ((τ : Store Mark) → P τ → Q τ) → Leads P x → Leads Q x
leads_map f (leads {τ} h) = leads (f τ h)
leads_map f no_fuel = no_fuel
leads_map f no_end = no_end

leads_done : {P : Store Mark → Type 0} {τ : Store Mark} {left : ℕ} → Leads P (done τ left) → P τ
leads_done (leads h) = h

module _ (𝓛 : Lattice) (𝓘 : Laws 𝓛) where
  -- pc ⊔ m, and m joined with pc
  joined_comm : (m n : Mark) → joined 𝓛 m n ≡ joined 𝓛 n m
  unfolding joined
  joined_comm (whole a) (whole b) = ap whole (join_comm 𝓛 𝓘 a b)
  joined_comm (whole a) (partial b) = ap partial (join_comm 𝓛 𝓘 a b)
  joined_comm (partial a) (whole b) = ap partial (join_comm 𝓛 𝓘 a b)
  joined_comm (partial a) (partial b) = ap partial (join_comm 𝓛 𝓘 a b)

  -- ── a run that is done follows the rules ──────────────────────────────────────────────────

  data Evaluated (σ : Store Mark) (e : Exp) : Cell Mark → Type 0 where
    evaluated : {n : Value} {k : Mark} → Evaluates 𝓛 σ e n k → Evaluated σ e (cell n k)

  eval_yields : (mode : Mode) (e : Exp) (σ : Store Mark) → Yields (Evaluated σ e) (eval (marking 𝓛 mode) e σ)
  unfolding eval reading operated inverted sealing
  eval_yields mode (constant v) σ = yields (evaluated const)
  eval_yields mode (field x) σ = yields (read (σ x) refl)
    where
      read : (c : Cell Mark) → σ x ≡ c → Evaluated σ (field x) (reading (marking 𝓛 mode) x c)
      read (cell n k) e = evaluated (var e)
  eval_yields mode (operator place op a b) σ = then_yields (eval_yields mode a σ) (λ c h. then_yields (eval_yields mode b σ) (λ d k. apply c d h k))
    where
      apply : (c d : Cell Mark) → Evaluated σ a c → Evaluated σ b d → Yields (Evaluated σ (operator place op a b)) (operated (marking 𝓛 mode) place op c d)
      apply c d (evaluated {n} h) (evaluated {n = n'} k) = then_yields (computed_yields place (operator_of op n n')) (λ u e. yields (evaluated (oper h k e)))
  eval_yields mode (tree.not a) σ = then_yields (eval_yields mode a σ) (λ c h. yields (turn c h))
    where
      turn : (c : Cell Mark) → Evaluated σ a c → Evaluated σ (tree.not a) (inverted (marking 𝓛 mode) c)
      turn c (evaluated h) = evaluated (not h)
  eval_yields mode (tree.seal a) σ = then_yields (eval_yields mode a σ) (λ c h. yields (close c h))
    where
      close : (c : Cell Mark) → Evaluated σ a c → Evaluated σ (tree.seal a) (sealing (marking 𝓛 mode) c)
      close c (evaluated h) = evaluated (seal h)

  -- the context after a test with this outcome
  data After (pc : ℕ) (σ : Store Mark) (e : Exp) (outcome : Bool) : ℕ → Type 0 where
    after : {n : Value} {A : ℕ} → Evaluates 𝓛 σ e n (whole A) → is_true n ≡ outcome → After pc σ e outcome (𝓛.join pc A)

  -- one side of a test leads where it should, in the context after the test
  abbrev Side : (Store Mark → Type 0) → ℕ → Store Mark → Exp → Bool → (ℕ → End Mark) → Type 0
  Side P pc σ e outcome side = (c : ℕ) → After pc σ e outcome c → Leads P (side c)

  choose_leads : {σ : Store Mark} {e : Exp} {n : Value} {A : ℕ} (pc : ℕ) (b : Bool) {P : Store Mark → Type 0} {yes_side no_side : ℕ → End Mark}
      → Evaluates 𝓛 σ e n (whole A) → is_true n ≡ b → Side P pc σ e true yes_side → Side P pc σ e false no_side → Leads P (choose b yes_side no_side (𝓛.join pc A))
  unfolding choose
  choose_leads {A} pc true w t y n = y (𝓛.join pc A) (after w t)
  choose_leads {A} pc false w t y n = n (𝓛.join pc A) (after w t)

  branch_leads : (mode : Mode) (place pc left : ℕ) {P : Store Mark → Type 0} {σ : Store Mark} {e : Exp} {c : Cell Mark} {yes_side no_side : ℕ → End Mark}
      → Evaluated σ e c → Side P pc σ e true yes_side → Side P pc σ e false no_side → Leads P (branch (marking 𝓛 mode) place pc c left yes_side no_side)
  unfolding branch entered with at
  branch_leads mode place pc left (evaluated {n} {k = whole A} w) y z = choose_leads pc (is_true n) w refl y z
  branch_leads mode place pc left (evaluated {k = partial A} w) y z = no_end

  tested_leads : (mode : Mode) (place : ℕ) (e : Exp) (pc : ℕ) (σ : Store Mark) (fuel : ℕ) {P : Store Mark → Type 0} {yes_side no_side : ℕ → ℕ → End Mark}
      → ((left : ℕ) → Side P pc σ e true (λ c. yes_side c left)) → ((left : ℕ) → Side P pc σ e false (λ c. no_side c left))
      → Leads P (tested (marking 𝓛 mode) place e pc σ fuel yes_side no_side)
  unfolding tested
  tested_leads mode place e pc σ fuel y n =
      spend_leads place fuel (λ left. with_leads left (eval_yields mode e σ) (λ c r. branch_leads mode place pc left r (y left) (n left)))

  updated_leads : (mode : Mode) (place x pc left : ℕ) (σ : Store Mark) (e : Exp) (old c : Cell Mark) → σ x ≡ old → Evaluated σ e c
      → Leads (Executes 𝓛 mode (assign place x e) pc σ) (with (updated (marking 𝓛 mode) place pc old c) left (λ k. done (put x k σ) left))
  unfolding updated stored and_then with at
  updated_leads mode place x pc left σ e (cell o l) c is (evaluated {n} {k = m} h) = go mode _ refl
    where
      go : (mode : Mode) (b : Bool) → 𝓛.le pc (level_of l) ≡ b
          → Leads (Executes 𝓛 mode (assign place x e) pc σ)
          (with (and_then (at place (stored 𝓛 mode b pc (level_of l) m)) (λ k. gives (cell n k))) left (λ k. done (put x k σ) left))
      go Strict true i = rw (joined_comm m (whole pc)) (leads (assn_nsu is i h))
      go Strict false i = no_end
      go Permissive true i = rw (joined_comm m (whole pc)) (leads (assn_1 is h i))
      go Permissive false i = leads (assn_2 is h i)

  rounds_leads : (mode : Mode) (place : ℕ) (e : Exp) (c : Cmd) (body : ℕ → Store Mark → ℕ → End Mark)
      → ((pc : ℕ) (σ : Store Mark) (fuel : ℕ) → Leads (Executes 𝓛 mode c pc σ) (body pc σ fuel))
      → (bound pc : ℕ) (σ : Store Mark) (fuel : ℕ) → Leads (Executes 𝓛 mode (while place e c) pc σ) (rounds (marking 𝓛 mode) place e body bound pc σ fuel)
  unfolding rounds
  rounds_leads mode place e c body b zero pc σ fuel = no_fuel
  rounds_leads mode place e c body b (suc bound) pc σ fuel =
      tested_leads mode place e pc σ fuel
      (λ left k t. bind_leads (b _ σ left) (λ τ left s. again t s (rounds_leads mode place e c body b bound k τ left)))
      (λ left k t. leads (over t))
    where
      again : {k : ℕ} {τ : Store Mark} {x : End Mark} → After pc σ e true k → Executes 𝓛 mode c k σ τ → Leads (Executes 𝓛 mode (while place e c) k τ) x
          → Leads (Executes 𝓛 mode (while place e c) pc σ) x
      again (after w t) s h = leads_map (λ υ r. while_t w t s r) h

      over : {k : ℕ} → After pc σ e false k → Executes 𝓛 mode (while place e c) pc σ σ
      over (after w t) = while_f w t

  exec_leads : (mode : Mode) (c : Cmd) (pc : ℕ) (σ : Store Mark) (fuel : ℕ) → Leads (Executes 𝓛 mode c pc σ) (exec (marking 𝓛 mode) c pc σ fuel)
  unfolding exec_by
  exec_leads mode (tree.skip place) pc σ fuel = spend_leads place fuel (λ left. leads skip)
  exec_leads mode (assign place x e) pc σ fuel =
      spend_leads place fuel (λ left. with_leads left (eval_yields mode e σ) (λ c r. updated_leads mode place x pc left σ e (σ x) c refl r))
  exec_leads mode (sequence a b) pc σ fuel = bind_leads (exec_leads mode a pc σ fuel) (λ τ left s. leads_map (λ υ t. seq s t) (exec_leads mode b pc τ left))
  exec_leads mode (if_else place e a b) pc σ fuel =
      tested_leads mode place e pc σ fuel (λ left k t. chosen t (exec_leads mode a k σ left)) (λ left k t. other t (exec_leads mode b k σ left))
    where
      chosen : {k : ℕ} {x : End Mark} → After pc σ e true k → Leads (Executes 𝓛 mode a k σ) x → Leads (Executes 𝓛 mode (if_else place e a b) pc σ) x
      chosen (after w t) h = leads_map (λ υ s. if_else_t w t s) h

      other : {k : ℕ} {x : End Mark} → After pc σ e false k → Leads (Executes 𝓛 mode b k σ) x → Leads (Executes 𝓛 mode (if_else place e a b) pc σ) x
      other (after w t) h = leads_map (λ υ s. if_else_f w t s) h
  exec_leads mode (while place e c) pc σ fuel = rounds_leads mode place e c (exec (marking 𝓛 mode) c) (exec_leads mode c) fuel pc σ fuel

  pub follows : (mode : Mode) (c : Cmd) (pc : ℕ) (σ τ : Store Mark) (fuel left : ℕ) → exec (marking 𝓛 mode) c pc σ fuel ≡ done τ left → Executes 𝓛 mode c pc σ τ
  follows mode c pc σ τ fuel left e = leads_done (rw e at (exec_leads mode c pc σ fuel))

  -- ── what follows the rules is a run that is done ──────────────────────────────────────────

  eval-is : (mode : Mode) {σ : Store Mark} {e : Exp} {n : Value} {k : Mark} → Evaluates 𝓛 σ e n k → eval (marking 𝓛 mode) e σ ≡ gives (cell n k)
  unfolding eval reading operated inverted sealing and_then at computed
  eval-is mode const = refl
  eval-is mode (var e) = rw e
  eval-is mode (oper h k e) = rw (eval-is mode h, eval-is mode k, e)
  eval-is mode (not h) = rw (eval-is mode h)
  eval-is mode (seal h) = rw (eval-is mode h)

  module _ (mode : Mode) where
    abbrev run : Cmd → ℕ → Store Mark → ℕ → End Mark
    run = exec (marking 𝓛 mode)

    -- one run after another, with the fuel of both
    two_runs : (a b : Cmd) (pc : ℕ) (σ σ'' σ' : Store Mark) → Runs 𝓛 mode a pc σ σ'' → Runs 𝓛 mode b pc σ'' σ'
        → (fuel : ℕ) × (left : ℕ) × (bind (run a pc σ fuel) (run b pc) ≡ done σ' left)
    unfolding bind
    two_runs a b pc σ σ'' σ' x y =
        let first = more_fuel (marking 𝓛 mode) a pc σ y.fuel σ'' x.fuel x.left x.ends in
        let order : y.fuel + x.left ≡ x.left + y.fuel = omega arith in
        let second = more_fuel (marking 𝓛 mode) b pc σ'' x.left σ' y.fuel y.left y.ends in
        (x.fuel + y.fuel, y.left + x.left, rw first (rw order at second))

    module _ (place pc : ℕ) {A : ℕ} {e : Exp} {σ : Store Mark} {n : Value} (w : Evaluates 𝓛 σ e n (whole A)) where
      chosen : (a b : Cmd) (τ : Store Mark) → is_true n ≡ true → Runs 𝓛 mode a (𝓛.join pc A) σ τ → Runs 𝓛 mode (if_else place e a b) pc σ τ
      unfolding exec_by tested spend with branch at choose entered
      chosen a b τ t x = record { fuel = suc x.fuel; left = x.left; ends = rw (eval-is mode w, t) x.ends }

      other : (a b : Cmd) (τ : Store Mark) → is_true n ≡ false → Runs 𝓛 mode b (𝓛.join pc A) σ τ → Runs 𝓛 mode (if_else place e a b) pc σ τ
      unfolding exec_by tested spend with branch at choose entered
      other a b τ t x = record { fuel = suc x.fuel; left = x.left; ends = rw (eval-is mode w, t) x.ends }

      round : (c : Cmd) (τ : Store Mark) → is_true n ≡ true
          → (fuel : ℕ) × (left : ℕ) × (bind (run c (𝓛.join pc A) σ fuel) (run (while place e c) (𝓛.join pc A)) ≡ done τ left) → Runs 𝓛 mode (while place e c) pc σ τ
      unfolding tested spend with branch at choose entered
      round c τ t (fuel, left, x) = record {
        fuel = suc fuel;
        left = left;
        ends = rw (while_law (marking 𝓛 mode) place e c pc σ (suc fuel), eval-is mode w, t) x;
      }

      over : (c : Cmd) → is_true n ≡ false → Runs 𝓛 mode (while place e c) pc σ σ
      unfolding tested spend with branch at choose entered
      over c t = record { fuel = 1; left = 0; ends = rw (while_law (marking 𝓛 mode) place e c pc σ 1, eval-is mode w, t) }

  -- an assignment takes one unit
  one_unit : {mode : Mode} {c : Cmd} {pc : ℕ} {σ τ : Store Mark} → exec (marking 𝓛 mode) c pc σ 1 ≡ done τ 0 → Runs 𝓛 mode c pc σ τ
  one_unit e = record { fuel = 1; left = 0; ends = e }

  runs : {mode : Mode} {c : Cmd} {pc : ℕ} {σ τ : Store Mark} → Executes 𝓛 mode c pc σ τ → Runs 𝓛 mode c pc σ τ
  unfolding exec_by spend with and_then updated at stored
  runs skip = one_unit refl
  runs (seq {mode} {pc} {c₁} {c₂} {σ} {σ''} {σ'} s t) =
      let (fuel, left, e) = two_runs mode c₁ c₂ pc σ σ'' σ' (runs s) (runs t) in
      record { fuel = fuel; left = left; ends = e }
  runs (if_else_t {mode} {place} {pc} {c₁} {c₂} {σ'} w t s) = chosen mode place pc w c₁ c₂ σ' t (runs s)
  runs (if_else_f {mode} {place} {pc} {c₁} {c₂} {σ'} w t s) = other mode place pc w c₁ c₂ σ' t (runs s)
  runs (while_t {mode} {place} {pc} {A} {e} {c} {σ} {σ''} {σ'} w t s r) =
      round mode place pc w c σ' t (two_runs mode c (while place e c) (𝓛.join pc A) σ σ'' σ' (runs s) (runs r))
  runs (while_f {mode} {place} {pc} {c} w t) = over mode place pc w c t
  runs (assn_nsu {pc} {m} is i h) = one_unit (rw (eval-is Strict h, is, i, joined_comm (whole pc) m))
  runs (assn_1 {pc} {m} is h i) = one_unit (rw (eval-is Permissive h, is, i, joined_comm (whole pc) m))
  runs (assn_2 is h i) = one_unit (rw (eval-is Permissive h, is, i))

pub runs_as_published : RunsAsPublished
runs_as_published 𝓛 𝓘 mode c pc σ σ' = (λ x. follows 𝓛 𝓘 mode c pc σ σ' x.fuel x.left x.ends, λ r. runs 𝓛 𝓘 r)

-- ── stops ───────────────────────────────────────────────────────────────────────────────────

pub stops_unpublished : StopsUnpublished
stops_unpublished 𝓛 𝓘 mode c pc σ fuel why place left e σ' r =
    let x = runs 𝓛 𝓘 r in
    done_or_stopped (marking 𝓛 mode) c pc σ x.fuel fuel x.left left σ' why place x.ends e

pub reaches_published : ReachesPublished
reaches_published 𝓛 𝓘 mode c pc σ σ' r = record {
  reached = λ fuel. reach fuel (run fuel) refl;
  enough = x.fuel;
  finishes = λ fuel h. let s : x.fuel + (fuel - x.fuel) ≡ fuel = omega arith in (x.left + (fuel - x.fuel), rw s at (more_fuel (marking 𝓛 mode) c pc σ (fuel - x.fuel) σ' x.fuel x.left x.ends));
}
  where
    run : ℕ → End Mark
    run fuel = exec (marking 𝓛 mode) c pc σ fuel

    x : Runs 𝓛 mode c pc σ σ'
    x = runs 𝓛 𝓘 r

    reach : (fuel : ℕ) (end : End Mark) → exec (marking 𝓛 mode) c pc σ fuel ≡ end → DoneOrSpent σ' end
    reach fuel (done τ left) e = subst (λ (υ : Store Mark). DoneOrSpent σ' (done υ left)) (done-once (marking 𝓛 mode) c pc σ x.fuel fuel x.left left σ' τ x.ends e) is-done
    reach fuel (spent place) e = is-spent
    reach fuel (stopped why place left) e = absurd (stops_unpublished 𝓛 𝓘 mode c pc σ fuel why place left e σ' r)
