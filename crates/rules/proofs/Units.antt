-- Units, for every marking: a run never leaves more fuel than it was given, and each command runs as its rule says, a while as its test and then itself.
use Prim.Native.Nat.{ℕ, zero, suc, ◌≤◌}
use native.Mathlib.Nat.{le_refl, le_trans, le-suc}
use native.Mathlib.Omega.{arith}
use mathlib.Core.Path.{◌≡◌, refl, sym, ap, fun_ext}
use mathlib.Core.Bool.{Bool, true, false}
use Rattle.value.specs.Values.{is_true}
use Rattle.sheet.specs.Trees.{Exp, Cmd, skip, assign, sequence, if_else, while}
use Rattle.rules.specs.Ends.{Why, Result, gives, stops, End, done, spent, stopped, at, with, choose, spend, bind}
use Rattle.rules.specs.Rules.{Marking, put, eval, updated, branch, tested, rounds, exec_by, exec}
use Rattle.store.specs.Cells.{Cell, cell, Store}

-- an end leaves at most this fuel
pub data Left {Mark : Type 0} (fuel : ℕ) : End Mark → Type 0 where
  left-done : {σ : Store Mark} {left : ℕ} → left ≤ fuel → Left fuel (done σ left)
  left-spent : {place : ℕ} → Left fuel (spent place)
  left-stopped : {why : Why} {place left : ℕ} → left ≤ fuel → Left fuel (stopped why place left)

-- ── the ways to go on ───────────────────────────────────────────────────────────────────────

module _ {A : Type 0} where
  weaken : {f g : ℕ} {x : End A} → Left f x → f ≤ g → Left g x
  weaken (left-done h) k = left-done (le_trans h k)
  weaken left-spent k = left-spent
  weaken (left-stopped h) k = left-stopped (le_trans h k)

  spend-left : (place fuel : ℕ) {next : ℕ → End A} → ((left : ℕ) → Left left (next left)) → Left fuel (spend place fuel next)
  unfolding spend
  spend-left place zero h = left-spent
  spend-left place (suc left) h = weaken (h left) (le-suc left)

  with-left : {B : Type 0} (x : Result B) (left : ℕ) {next : B → End A} → ((b : B) → Left left (next b)) → Left left (with x left next)
  unfolding with
  with-left (gives b) left h = h b
  with-left (stops why place) left h = left-stopped (le_refl left)

  choose-left : {C : Type 0} (b : Bool) (c : C) {fuel : ℕ} {yes_side no_side : C → End A} → ((c : C) → Left fuel (yes_side c)) → ((c : C) → Left fuel (no_side c))
      → Left fuel (choose b yes_side no_side c)
  unfolding choose
  choose-left true c y n = y c
  choose-left false c y n = n c

  bind_left : {x : End A} {fuel : ℕ} {next : Store A → ℕ → End A} → Left fuel x → ((σ : Store A) (left : ℕ) → Left left (next σ left)) → Left fuel (bind x next)
  unfolding bind
  bind_left (left-done {σ} {left} i) h = weaken (h σ left) i
  bind_left left-spent h = left-spent
  bind_left (left-stopped i) h = left-stopped i

  -- what follows an end is asked only about the fuel that is left
  bind-same : {x : End A} {fuel : ℕ} {f g : Store A → ℕ → End A} → Left fuel x → ((σ : Store A) (left : ℕ) → left ≤ fuel → f σ left ≡ g σ left) → bind x f ≡ bind x g
  unfolding bind
  bind-same (left-done {σ} {left} i) h = h σ left i
  bind-same left-spent h = refl
  bind-same (left-stopped i) h = refl

  done-left : {fuel left : ℕ} {σ : Store A} → Left fuel (done σ left) → left ≤ fuel
  done-left (left-done i) = i

  stopped-left : {why : Why} {fuel place left : ℕ} → Left {Mark = A} fuel (stopped why place left) → left ≤ fuel
  stopped-left (left-stopped i) = i

module _ {Mark Seen Context : Type 0} (𝓜 : Marking Mark Seen Context) where
  -- ── tests ─────────────────────────────────────────────────────────────────────────────────

  branch-left : (place : ℕ) (context : Context) (x : Cell Seen) (fuel : ℕ) {yes_side no_side : Context → End Mark}
      → ((c : Context) → Left fuel (yes_side c)) → ((c : Context) → Left fuel (no_side c)) → Left fuel (branch 𝓜 place context x fuel yes_side no_side)
  unfolding branch
  branch-left place context (cell v m) fuel y n = with-left (at place (𝓜.enter context m)) fuel (λ c. choose-left (is_true v) c y n)

  module _ (place : ℕ) (a : Exp) (context : Context) (σ : Store Mark) where
    tested-left : (fuel : ℕ) {yes_side no_side : Context → ℕ → End Mark}
        → ((c : Context) (left : ℕ) → Left left (yes_side c left)) → ((c : Context) (left : ℕ) → Left left (no_side c left))
        → Left fuel (tested 𝓜 place a context σ fuel yes_side no_side)
    unfolding tested
    tested-left fuel y n = spend-left place fuel (λ left. with-left (eval 𝓜 a σ) left (λ x. branch-left place context x left (λ c. y c left) (λ c. n c left)))

    -- a while's test, once its unit is spent: equal rounds give equal ends
    abbrev onward : ℕ → (Context → End Mark) → End Mark
    onward left side = with (eval 𝓜 a σ) left (λ x. branch 𝓜 place context x left side (λ c. done σ left))

    onward_same : (left : ℕ) {f g : Context → End Mark} → ((c : Context) → f c ≡ g c) → onward left f ≡ onward left g
    onward_same left h = ap (onward left) (fun_ext h)

  -- ── the rounds of a while ─────────────────────────────────────────────────────────────────

  module _ (place : ℕ) (a : Exp) (body : Context → Store Mark → ℕ → End Mark) (body_left : (c : Context) (σ : Store Mark) (fuel : ℕ) → Left fuel (body c σ fuel)) where
    rounds-left : (n : ℕ) (context : Context) (σ : Store Mark) (fuel : ℕ) → Left fuel (rounds 𝓜 place a body n context σ fuel)
    unfolding rounds
    rounds-left zero context σ fuel = left-spent
    rounds-left (suc n) context σ fuel =
        tested-left place a context σ fuel (λ c left. bind_left (body_left _ σ left) (rounds-left n c)) (λ c left. left-done (le_refl left))

    rounds-none : (n : ℕ) (context : Context) (σ : Store Mark) (fuel : ℕ) → fuel ≡ zero → rounds 𝓜 place a body n context σ fuel ≡ spent place
    unfolding rounds tested spend
    rounds-none zero context σ fuel e = refl
    rounds-none (suc n) context σ fuel e = rw e

    -- a bound that is at least the fuel never decides
    rounds_bound : (n m : ℕ) (context : Context) (σ : Store Mark) (fuel : ℕ) → fuel ≤ n → fuel ≤ m
        → rounds 𝓜 place a body n context σ fuel ≡ rounds 𝓜 place a body m context σ fuel
    unfolding rounds tested spend
    rounds_bound zero m context σ fuel i j = sym (rounds-none m context σ fuel (omega arith))
    rounds_bound (suc n) zero context σ fuel i j = rounds-none (suc n) context σ fuel (omega arith)
    rounds_bound (suc n) (suc m) context σ zero i j = refl
    rounds_bound (suc n) (suc m) context σ (suc fuel) i j =
        onward_same place a context σ fuel (λ c. bind-same (body_left _ σ fuel) (λ τ left k. rounds_bound n m c τ left (omega arith) (omega arith)))

  -- ── fuel ──────────────────────────────────────────────────────────────────────────────────

  -- a run leaves at most the fuel that it was given
  pub exec-left : (c : Cmd) (context : Context) (σ : Store Mark) (fuel : ℕ) → Left fuel (exec 𝓜 c context σ fuel)
  unfolding exec_by
  exec-left (skip place) context σ fuel = spend-left place fuel (λ left. left-done (le_refl left))
  exec-left (assign place i b) context σ fuel =
      spend-left place fuel (λ left. with-left (eval 𝓜 b σ) left (λ x. with-left (updated 𝓜 place context (σ i) x) left (λ k. left-done (le_refl left))))
  exec-left (sequence a b) context σ fuel = bind_left (exec-left a context σ fuel) (exec-left b context)
  exec-left (if_else place a b c) context σ fuel = tested-left place a context σ fuel (λ k left. exec-left b k σ left) (λ k left. exec-left c k σ left)
  exec-left (while place a b) context σ fuel = rounds-left place a (exec 𝓜 b) (exec-left b) fuel context σ fuel

  module _ (c : Cmd) (context : Context) (σ : Store Mark) (fuel : ℕ) where
    pub units_done : (τ : Store Mark) (left : ℕ) → exec 𝓜 c context σ fuel ≡ done τ left → left ≤ fuel
    units_done τ left e = done-left (rw e at (exec-left c context σ fuel))

    pub units_stopped : (why : Why) (place left : ℕ) → exec 𝓜 c context σ fuel ≡ stopped why place left → left ≤ fuel
    units_stopped why place left e = stopped-left (rw e at (exec-left c context σ fuel))

  -- ── what each command runs as ─────────────────────────────────────────────────────────────

  pub skip_law : (place : ℕ) (context : Context) (σ : Store Mark) (fuel : ℕ) → exec 𝓜 (skip place) context σ fuel ≡ spend place fuel (λ left. done σ left)
  unfolding exec_by
  skip_law place context σ fuel = refl

  pub assign_law : (place i : ℕ) (b : Exp) (context : Context) (σ : Store Mark) (fuel : ℕ)
      → exec 𝓜 (assign place i b) context σ fuel
      ≡ spend place fuel (λ left. with (eval 𝓜 b σ) left (λ x. with (updated 𝓜 place context (σ i) x) left (λ k. done (put i k σ) left)))
  unfolding exec_by
  assign_law place i b context σ fuel = refl

  pub sequence_law : (a b : Cmd) (context : Context) (σ : Store Mark) (fuel : ℕ)
      → exec 𝓜 (sequence a b) context σ fuel ≡ bind (exec 𝓜 a context σ fuel) (exec 𝓜 b context)
  unfolding exec_by
  sequence_law a b context σ fuel = refl

  pub if_law : (place : ℕ) (a : Exp) (b c : Cmd) (context : Context) (σ : Store Mark) (fuel : ℕ)
      → exec 𝓜 (if_else place a b c) context σ fuel ≡ tested 𝓜 place a context σ fuel (λ k left. exec 𝓜 b k σ left) (λ k left. exec 𝓜 c k σ left)
  unfolding exec_by
  if_law place a b c context σ fuel = refl

  pub while_law : (place : ℕ) (a : Exp) (b : Cmd) (context : Context) (σ : Store Mark) (fuel : ℕ)
      → exec 𝓜 (while place a b) context σ fuel
      ≡ tested 𝓜 place a context σ fuel (λ c left. bind (exec 𝓜 b c σ left) (exec 𝓜 (while place a b) c)) (λ c left. done σ left)
  unfolding exec_by rounds tested spend
  while_law place a b context σ zero = refl
  while_law place a b context σ (suc fuel) =
      onward_same place a context σ fuel (λ c. bind-same (exec-left b c σ fuel)
      (λ τ left k. rounds_bound place a (exec 𝓜 b) (exec-left b) fuel left c τ left k (le_refl left)))
