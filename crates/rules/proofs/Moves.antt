-- How a run may change a store, if it runs in a context of some kind: what is asked of the marks there, and that every run keeps to it.
use Prim.Native.Nat.{ℕ, zero, suc}
use mathlib.Core.Path.{◌≡◌, refl, subst}
use mathlib.Core.Bool.{Bool, true, false}
use lib.Dec.{eqb}
use borrow.Author.Tests.{eqb-true}
use Rattle.basis.proofs.Tests.{split}
use Rattle.value.specs.Values.{is_true}
use Rattle.value.specs.declared.Value.{Value}
use Rattle.sheet.specs.Trees.{Exp, Cmd, skip, assign, sequence, if_else, while}
use Rattle.rules.specs.Ends.{Why, Try, fine, fails, Result, gives, stops, End, done, spent, stopped, at, and_then, with, choose, spend, bind}
use Rattle.rules.specs.Rules.{Marking, put, eval, updated, branch, tested, rounds, exec_by, exec}
use Rattle.store.specs.Cells.{Cell, cell, Store}

-- a cell put at a field, where a relation holds there and everywhere else
pub put-each : {A B : Type 0} (P : Cell A → Cell B → Type 0) (i : ℕ) (σ : Store A) (c : Cell B) (τ : Store B)
    → P (σ i) c → ((j : ℕ) → P (σ j) (τ j)) → (j : ℕ) → P (σ j) (put i c τ j)
unfolding put
put-each P i σ c τ h same j = split (eqb i j) (λ e. rw e (subst (λ (k : ℕ). P (σ k) c) (eqb-true i j e) h)) (λ e. rw e (same j))

-- what is said of an answer, where it is one
pub data Fine {A : Type 0} (P : A → Type 0) : Try A → Type 0 where
  good : {a : A} → P a → Fine P (fine a)
  bad : {why : Why} → Fine P (fails why)

-- contexts of some kind, which a test does not leave, and how an assignment there may move a mark
pub record Moves {Mark Seen Context : Type 0} (𝓜 : Marking Mark Seen Context) : Type 1 where
  pub Inside : Context → Type 0
  pub Moved : Mark → Mark → Type 0
  pub enter-inside : (context : Context) (m : Seen) → Inside context → Fine Inside (𝓜.enter context m)
  pub store-inside : (place : ℕ) (context : Context) (old : Mark) (m : Seen) → Inside context → Fine (Moved old) (𝓜.store place context old m)
  pub moved_trans : (k m n : Mark) → Moved k m → Moved m n → Moved k n

module _ {Mark Seen Context : Type 0} {𝓜 : Marking Mark Seen Context} (𝓢 : Moves 𝓜) where
  pub data Later : Cell Mark → Cell Mark → Type 0 where
    stays : {c : Cell Mark} → Later c c
    moves : {v w : Value} {m n : Mark} → 𝓢.Moved m n → Later (cell v m) (cell w n)

  later_trans : (a b c : Cell Mark) → Later a b → Later b c → Later a c
  later_trans a b c stays k = k
  later_trans a b c (moves h) stays = moves h
  later_trans a b c (moves {m} {n} h) (moves {n = l} k) = moves (𝓢.moved_trans m n l h k)

  -- where a run from σ is done, each field has stayed or moved
  pub data Ran (σ : Store Mark) : End Mark → Type 0 where
    ran : {τ : Store Mark} {left : ℕ} → ((i : ℕ) → Later (σ i) (τ i)) → Ran σ (done τ left)
    ran-spent : {place : ℕ} → Ran σ (spent place)
    ran-stopped : {why : Why} {place left : ℕ} → Ran σ (stopped why place left)

  pub ran-done : {σ τ : Store Mark} {left : ℕ} → Ran σ (done τ left) → (i : ℕ) → Later (σ i) (τ i)
  ran-done (ran h) = h

  -- ── the ways to go on ─────────────────────────────────────────────────────────────────────

  pub unmoved : {σ : Store Mark} {left : ℕ} → Ran σ (done σ left)
  unmoved = ran (λ i. stays)

  spend-ran : (place fuel : ℕ) {σ : Store Mark} {next : ℕ → End Mark} → ((left : ℕ) → Ran σ (next left)) → Ran σ (spend place fuel next)
  unfolding spend
  spend-ran place zero h = ran-spent
  spend-ran place (suc left) h = h left

  with-ran : {A : Type 0} (x : Result A) (left : ℕ) {σ : Store Mark} {next : A → End Mark} → ((a : A) → Ran σ (next a)) → Ran σ (with x left next)
  unfolding with
  with-ran (gives a) left h = h a
  with-ran (stops why place) left h = ran-stopped

  pub bind-ran : {x : End Mark} {σ : Store Mark} {next : Store Mark → ℕ → End Mark}
      → Ran σ x → ((τ : Store Mark) (left : ℕ) → Ran τ (next τ left)) → Ran σ (bind x next)
  unfolding bind
  bind-ran {σ} (ran {τ} {left} h) next = go (next τ left)
    where
      go : {y : End Mark} → Ran τ y → Ran σ y
      go (ran {τ = υ} k) = ran (λ i. later_trans (σ i) (τ i) (υ i) (h i) (k i))
      go ran-spent = ran-spent
      go ran-stopped = ran-stopped
  bind-ran ran-spent next = ran-spent
  bind-ran ran-stopped next = ran-stopped

  -- both sides keep to it, in any context of the kind
  abbrev pub Keeps : Store Mark → (Context → End Mark) → Type 0
  Keeps σ side = (context : Context) → 𝓢.Inside context → Ran σ (side context)

  pub choose-ran : (b : Bool) {σ : Store Mark} {yes_side no_side : Context → End Mark} → Keeps σ yes_side → Keeps σ no_side → Keeps σ (choose b yes_side no_side)
  unfolding choose
  choose-ran true y n context inside = y context inside
  choose-ran false y n context inside = n context inside

  -- ── the rules ─────────────────────────────────────────────────────────────────────────────

  branch-ran : (place : ℕ) (context : Context) (x : Cell Seen) (left : ℕ) {σ : Store Mark} {yes_side no_side : Context → End Mark}
      → 𝓢.Inside context → Keeps σ yes_side → Keeps σ no_side → Ran σ (branch 𝓜 place context x left yes_side no_side)
  unfolding branch with at
  branch-ran place context (cell v m) left {σ} {yes_side} {no_side} inside y n = go (𝓢.enter-inside context m inside)
    where
      go : {x : Try Context} → Fine 𝓢.Inside x → Ran σ (with (at place x) left (choose (is_true v) yes_side no_side))
      go (good {a} h) = choose-ran (is_true v) y n a h
      go bad = ran-stopped

  tested-ran : (place : ℕ) (a : Exp) (context : Context) (σ : Store Mark) (fuel : ℕ) {yes_side no_side : Context → ℕ → End Mark} → 𝓢.Inside context
      → ((left : ℕ) → Keeps σ (λ c. yes_side c left)) → ((left : ℕ) → Keeps σ (λ c. no_side c left)) → Ran σ (tested 𝓜 place a context σ fuel yes_side no_side)
  unfolding tested
  tested-ran place a context σ fuel inside y n =
      spend-ran place fuel (λ left. with-ran (eval 𝓜 a σ) left (λ x. branch-ran place context x left inside (y left) (n left)))

  updated-ran : (place i : ℕ) (context : Context) (σ : Store Mark) (old : Cell Mark) (x : Cell Seen) (left : ℕ) → 𝓢.Inside context → σ i ≡ old
      → Ran σ (with (updated 𝓜 place context old x) left (λ k. done (put i k σ) left))
  unfolding updated with and_then at
  updated-ran place i context σ (cell w old) (cell v m) left inside is = go (𝓢.store-inside place context old m inside)
    where
      go : {x : Try Mark} → Fine (𝓢.Moved old) x → Ran σ (with (and_then (at place x) (λ k. gives (cell v k))) left (λ k. done (put i k σ) left))
      go (good {a} h) = ran (put-each Later i σ (cell v a) σ (rw is (moves h)) (λ j. stays))
      go bad = ran-stopped

  pub rounds-ran : (place : ℕ) (a : Exp) (body : Context → Store Mark → ℕ → End Mark) → ((σ : Store Mark) (fuel : ℕ) → Keeps σ (λ c. body c σ fuel))
      → (bound : ℕ) (σ : Store Mark) (fuel : ℕ) → Keeps σ (λ c. rounds 𝓜 place a body bound c σ fuel)
  unfolding rounds
  rounds-ran place a body b zero σ fuel context inside = ran-spent
  rounds-ran place a body b (suc bound) σ fuel context inside =
      tested-ran place a context σ fuel inside
      (λ left c in_c. bind-ran (b σ left _ search) (λ τ left. rounds-ran place a body b bound τ left c in_c))
      (λ left c in_c. unmoved)

  pub exec-ran : (c : Cmd) (σ : Store Mark) (fuel : ℕ) → Keeps σ (λ context. exec 𝓜 c context σ fuel)
  unfolding exec_by
  exec-ran (skip place) σ fuel context inside = spend-ran place fuel (λ left. unmoved)
  exec-ran (assign place i b) σ fuel context inside =
      spend-ran place fuel (λ left. with-ran (eval 𝓜 b σ) left (λ x. updated-ran place i context σ (σ i) x left inside refl))
  exec-ran (sequence a b) σ fuel context inside = bind-ran (exec-ran a σ fuel context inside) (λ τ left. exec-ran b τ left context inside)
  exec-ran (if_else place a b c) σ fuel context inside = tested-ran place a context σ fuel inside (λ left. exec-ran b σ left) (λ left. exec-ran c σ left)
  exec-ran (while place a b) σ fuel context inside = rounds-ran place a (exec 𝓜 b) (exec-ran b) fuel σ fuel context inside
