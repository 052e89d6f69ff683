-- Where one marking goes on, another goes on with the same answer: then where a run is done under the first, the run under the second with the same
-- fuel, or more, is done with the same store and the same units; and where both also stop alike, so do their runs. So more fuel changes no run that
-- is done or that stops, and strict mode lies inside permissive mode.
use Prim.Native.Nat.{ℕ, zero, suc, ◌+◌, ◌-◌, ◌≤◌}
use native.Mathlib.Nat.{add-zero, add_comm}
use native.Mathlib.Decide.{dec_le}
use native.Mathlib.Omega.{arith}
use mathlib.Core.Path.{◌≡◌, refl, sym, ap, ◌∙◌}
use mathlib.Core.Bool.{Bool, true, false, true≢false}
use Rattle.value.specs.Values.{is_true}
use Rattle.sheet.specs.Trees.{Exp, constant, field, operator, not, seal, Cmd, skip, assign, sequence, if_else, while}
use Rattle.levels.specs.Lattice.{Lattice}
use Rattle.rules.specs.Ends.{Why, Try, fine, fails, Result, gives, stops, End, done, spent, stopped, at, and_then, with, choose, spend, bind}
use Rattle.rules.specs.Rules.{Marking, put, reading, operated, inverted, sealing, eval, updated, branch, tested, rounds, exec_by, exec}
use Rattle.store.specs.Cells.{Cell, cell, Store}
use Rattle.store.specs.declared.Mode.TheVariants.{Strict, Permissive}
use Rattle.store.specs.Marks.{Mark, level_of}
use Rattle.rules.specs.LevelMarks.{stored, marking}

-- the second goes on wherever the first does; if they are alike, it stops wherever the first does
pub data GoesOn {A : Type 0} (alike : Bool) : Try A → Try A → Type 0 where
  on : {a : A} → GoesOn alike (fine a) (fine a)
  off : {why : Why} → GoesOn alike (fails why) (fails why)
  free : {why : Why} {y : Try A} → alike ≡ false → GoesOn alike (fails why) y

pub record Within {Mark Seen Context : Type 0} (alike : Bool) (𝓜 𝓝 : Marking Mark Seen Context) : Type 0 where
  pub constant-same : 𝓜.constant ≡ 𝓝.constant
  pub sealed-same : 𝓜.sealed ≡ 𝓝.sealed
  pub read_same : (i : ℕ) (m : Mark) → 𝓜.read i m ≡ 𝓝.read i m
  pub join-same : (m n : Seen) → 𝓜.join m n ≡ 𝓝.join m n
  pub enter_on : (context : Context) (m : Seen) → GoesOn alike (𝓜.enter context m) (𝓝.enter context m)
  pub store_on : (place : ℕ) (context : Context) (old : Mark) (m : Seen) → GoesOn alike (𝓜.store place context old m) (𝓝.store place context old m)

-- where the first run is done, so is the second, with the same store and so much more fuel left; if they are alike, where the first stops, so does
-- the second
data Follows {Mark : Type 0} (more : ℕ) (alike : Bool) : End Mark → End Mark → Type 0 where
  done_too : {σ : Store Mark} {f g : ℕ} → g ≡ f + more → Follows more alike (done σ f) (done σ g)
  spent_free : {place : ℕ} {y : End Mark} → Follows more alike (spent place) y
  stopped_too : {why : Why} {place f g : ℕ} → g ≡ f + more → Follows more alike (stopped why place f) (stopped why place g)
  stopped_free : {why : Why} {place left : ℕ} {y : End Mark} → alike ≡ false → Follows more alike (stopped why place left) y

follows_done : {Mark : Type 0} {more left : ℕ} {alike : Bool} {σ : Store Mark} {y : End Mark} → Follows more alike (done σ left) y → y ≡ done σ (left + more)
follows_done (done_too {σ} e) = ap (done σ) e

follows_stopped : {Mark : Type 0} {more left place : ℕ} {why : Why} {y : End Mark} → Follows more true (stopped why place left) y → y ≡ stopped why place (left + more)
follows_stopped (stopped_too {why} {place} e) = ap (stopped why place) e
follows_stopped (stopped_free d) = absurd (true≢false d)

module _ {Mark Seen Context : Type 0} {alike : Bool} {𝓜 𝓝 : Marking Mark Seen Context} (𝓦 : Within alike 𝓜 𝓝) (more : ℕ) where
  -- ── the ways to go on ─────────────────────────────────────────────────────────────────────

  abbrev Too : End Mark → End Mark → Type 0
  Too = Follows more alike

  -- one way to go on follows another, with more fuel
  abbrev FollowsOn : (ℕ → End Mark) → (ℕ → End Mark) → Type 0
  FollowsOn x y = (f g : ℕ) → g ≡ f + more → Too (x f) (y g)

  spend_follows : (place : ℕ) {x y : ℕ → End Mark} → FollowsOn x y → FollowsOn (λ f. spend place f x) (λ g. spend place g y)
  unfolding spend
  spend_follows place h zero g e = spent_free
  spend_follows place h (suc f) zero e = absurd (omega arith)
  spend_follows place h (suc f) (suc g) e = h f g (omega arith)

  with_follows : {A : Type 0} (x : Result A) (f g : ℕ) {k l : A → End Mark} → g ≡ f + more → ((a : A) → Too (k a) (l a)) → Too (with x f k) (with x g l)
  unfolding with
  with_follows (gives a) f g e h = h a
  with_follows (stops why place) f g e h = stopped_too e

  on_follows : {A : Type 0} (place f g : ℕ) {x y : Try A} {k l : A → End Mark} → g ≡ f + more → GoesOn alike x y → ((a : A) → Too (k a) (l a))
      → Too (with (at place x) f k) (with (at place y) g l)
  unfolding with at
  on_follows place f g e (on {a}) h = h a
  on_follows place f g e off h = stopped_too e
  on_follows place f g e (free d) h = stopped_free d

  choose_follows : (b : Bool) (c : Context) {x y x' y' : Context → End Mark} → ((c : Context) → Too (x c) (x' c)) → ((c : Context) → Too (y c) (y' c))
      → Too (choose b x y c) (choose b x' y' c)
  unfolding choose
  choose_follows true c h k = h c
  choose_follows false c h k = k c

  bind_follows : {x y : End Mark} {k l : Store Mark → ℕ → End Mark} → Too x y → ((σ : Store Mark) → FollowsOn (k σ) (l σ)) → Too (bind x k) (bind y l)
  unfolding bind
  bind_follows (done_too {σ} {f} {g} e) h = h σ f g e
  bind_follows spent_free h = spent_free
  bind_follows (stopped_too e) h = stopped_too e
  bind_follows (stopped_free d) h = stopped_free d

  -- ── the rules ─────────────────────────────────────────────────────────────────────────────

  reading-same : (i : ℕ) (c : Cell Mark) → reading 𝓜 i c ≡ reading 𝓝 i c
  unfolding reading
  reading-same i (cell v m) = ap (cell v) (𝓦.read_same i m)

  operated-same : (place op : ℕ) (c d : Cell Seen) → operated 𝓜 place op c d ≡ operated 𝓝 place op c d
  unfolding operated
  operated-same place op (cell v m) (cell w n) = rw (𝓦.join-same m n)

  inverted-same : (c : Cell Seen) → inverted 𝓜 c ≡ inverted 𝓝 c
  unfolding inverted
  inverted-same (cell v m) = refl

  sealing-same : (c : Cell Seen) → sealing 𝓜 c ≡ sealing 𝓝 c
  unfolding sealing
  sealing-same (cell v m) = ap (cell v) 𝓦.sealed-same

  then_same : {A B : Type 0} {x y : Result A} {f g : A → Result B} → x ≡ y → ((a : A) → f a ≡ g a) → and_then x f ≡ and_then y g
  unfolding and_then
  then_same {x = gives a} e h = rw (sym e) (h a)
  then_same {x = stops why place} e h = rw (sym e)

  eval-same : (e : Exp) (σ : Store Mark) → eval 𝓜 e σ ≡ eval 𝓝 e σ
  unfolding eval
  eval-same (constant v) σ = ap (λ (m : Seen). gives (cell v m)) 𝓦.constant-same
  eval-same (field i) σ = ap gives (reading-same i (σ i))
  eval-same (operator place op a b) σ = then_same (eval-same a σ) (λ x. then_same (eval-same b σ) (operated-same place op x))
  eval-same (not a) σ = then_same (eval-same a σ) (λ x. ap gives (inverted-same x))
  eval-same (seal a) σ = then_same (eval-same a σ) (λ x. ap gives (sealing-same x))

  branch_follows : (place : ℕ) (context : Context) (x : Cell Seen) (f g : ℕ) {y n y' n' : Context → End Mark} → g ≡ f + more
      → ((c : Context) → Too (y c) (y' c)) → ((c : Context) → Too (n c) (n' c)) → Too (branch 𝓜 place context x f y n) (branch 𝓝 place context x g y' n')
  unfolding branch
  branch_follows place context (cell v m) f g e h k = on_follows place f g e (𝓦.enter_on context m) (λ c. choose_follows (is_true v) c h k)

  tested_follows : (place : ℕ) (a : Exp) (context : Context) (σ : Store Mark) {y n y' n' : Context → ℕ → End Mark}
      → ((c : Context) → FollowsOn (y c) (y' c)) → ((c : Context) → FollowsOn (n c) (n' c))
      → FollowsOn (λ f. tested 𝓜 place a context σ f y n) (λ g. tested 𝓝 place a context σ g y' n')
  unfolding tested
  tested_follows place a context σ h k =
      spend_follows place (λ f g e. rw (← eval-same a σ) (with_follows (eval 𝓜 a σ) f g e (λ x. branch_follows place context x f g e (λ c. h c f g e) (λ c. k c f g e))))

  updated_follows : (place i : ℕ) (context : Context) (σ : Store Mark) (old : Cell Mark) (x : Cell Seen)
      → FollowsOn (λ f. with (updated 𝓜 place context old x) f (λ k. done (put i k σ) f)) (λ g. with (updated 𝓝 place context old x) g (λ k. done (put i k σ) g))
  unfolding updated with and_then at
  updated_follows place i context σ (cell w old) (cell v m) f g e = go (𝓦.store_on place context old m)
    where
      go : {x y : Try Mark} → GoesOn alike x y
          → Too (with (and_then (at place x) (λ k. gives (cell v k))) f (λ k. done (put i k σ) f))
          (with (and_then (at place y) (λ k. gives (cell v k))) g (λ k. done (put i k σ) g))
      go on = done_too e
      go off = stopped_too e
      go (free d) = stopped_free d

  rounds_follows : (place : ℕ) (a : Exp) (b b' : Context → Store Mark → ℕ → End Mark) → ((c : Context) (σ : Store Mark) → FollowsOn (b c σ) (b' c σ))
      → (m n : ℕ) → n ≡ m + more → (context : Context) (σ : Store Mark) → FollowsOn (rounds 𝓜 place a b m context σ) (rounds 𝓝 place a b' n context σ)
  unfolding rounds
  rounds_follows place a b b' h zero n e context σ f g d = spent_free
  rounds_follows place a b b' h (suc m) zero e context σ f g d = absurd (omega arith)
  rounds_follows place a b b' h (suc m) (suc n) e context σ f g d =
      tested_follows place a context σ (λ c f g d. bind_follows (h _ σ f g d) (rounds_follows place a b b' h m n (omega arith) c)) (λ c f g d. done_too d) f g d

  exec_follows : (c : Cmd) (context : Context) (σ : Store Mark) → FollowsOn (exec 𝓜 c context σ) (exec 𝓝 c context σ)
  unfolding exec_by
  exec_follows (skip place) context σ f g d = spend_follows place (λ f g d. done_too d) f g d
  exec_follows (assign place i b) context σ f g d =
      spend_follows place (λ f g d. rw (← eval-same b σ) (with_follows (eval 𝓜 b σ) f g d (λ x. updated_follows place i context σ (σ i) x f g d))) f g d
  exec_follows (sequence a b) context σ f g d = bind_follows (exec_follows a context σ f g d) (exec_follows b context)
  exec_follows (if_else place a b c) context σ f g d = tested_follows place a context σ (λ k. exec_follows b k σ) (λ k. exec_follows c k σ) f g d
  exec_follows (while place a b) context σ f g d = rounds_follows place a (exec 𝓜 b) (exec 𝓝 b) (exec_follows b) f g d context σ f g d

  pub done-within : (c : Cmd) (context : Context) (σ τ : Store Mark) (fuel left : ℕ) → exec 𝓜 c context σ fuel ≡ done τ left
      → exec 𝓝 c context σ (fuel + more) ≡ done τ (left + more)
  done-within c context σ τ fuel left e = follows_done (rw e at (exec_follows c context σ fuel (fuel + more) refl))

module _ {Mark Seen Context : Type 0} {𝓜 𝓝 : Marking Mark Seen Context} (𝓦 : Within true 𝓜 𝓝) where
  pub stopped-within : (more : ℕ) (c : Cmd) (context : Context) (σ : Store Mark) (fuel : ℕ) (why : Why) (place left : ℕ) → exec 𝓜 c context σ fuel ≡ stopped why place left
      → exec 𝓝 c context σ (fuel + more) ≡ stopped why place (left + more)
  stopped-within more c context σ fuel why place left e = follows_stopped (rw e at (exec_follows 𝓦 more c context σ fuel (fuel + more) refl))

-- ── more fuel ───────────────────────────────────────────────────────────────────────────────

is-done : {Mark : Type 0} → End Mark → Bool
is-done (done σ left) = true
is-done (spent place) = false
is-done (stopped why place left) = false

goes_on : {alike : Bool} {A : Type 0} (x : Try A) → GoesOn alike x x
goes_on (fine a) = on
goes_on (fails why) = off

module _ {Mark Seen Context : Type 0} (𝓜 : Marking Mark Seen Context) where
  within_itself : Within true 𝓜 𝓜
  within_itself = record {
    constant-same = refl;
    sealed-same = refl;
    read_same = λ i m. refl;
    join-same = λ m n. refl;
    enter_on = λ context m. goes_on (𝓜.enter context m);
    store_on = λ place context old m. goes_on (𝓜.store place context old m);
  }

  module _ (c : Cmd) (context : Context) (σ : Store Mark) where
    pub more_fuel : (more : ℕ) (τ : Store Mark) (fuel left : ℕ) → exec 𝓜 c context σ fuel ≡ done τ left → exec 𝓜 c context σ (fuel + more) ≡ done τ (left + more)
    more_fuel more τ fuel left e = done-within within_itself more c context σ τ fuel left e

    pub more_fuel_stopped : (more fuel : ℕ) (why : Why) (place left : ℕ) → exec 𝓜 c context σ fuel ≡ stopped why place left
        → exec 𝓜 c context σ (fuel + more) ≡ stopped why place (left + more)
    more_fuel_stopped more fuel why place left e = stopped-within within_itself more c context σ fuel why place left e

    -- no run is done with one fuel and stops with another
    pub done_or_stopped : (f g f' g' : ℕ) (σ' : Store Mark) (why : Why) (place : ℕ) → exec 𝓜 c context σ f ≡ done σ' f' → exec 𝓜 c context σ g ≡ stopped why place g' → ⊥
    unfolding is-done
    done_or_stopped f g f' g' σ' why place d e =
        let x = more_fuel g σ' f f' d in
        let y = rw (add_comm g f) at (more_fuel_stopped f g why place g' e) in
        true≢false (ap is-done (sym x ∙ y))

    -- with any two fuels, a run that is done ends in one store
    once_ordered : (f g f' g' : ℕ) (σ' τ' : Store Mark) → exec 𝓜 c context σ f ≡ done σ' f' → exec 𝓜 c context σ g ≡ done τ' g' → f ≤ g → σ' ≡ τ'
    once_ordered f g f' g' σ' τ' d e h =
        let s : f + (g - f) ≡ g = omega arith in
        let k = rw s at (more_fuel (g - f) σ' f f' d) in
        cc

    pub done-once : (f g f' g' : ℕ) (σ' τ' : Store Mark) → exec 𝓜 c context σ f ≡ done σ' f' → exec 𝓜 c context σ g ≡ done τ' g' → σ' ≡ τ'
    done-once f g f' g' σ' τ' d e = go (dec_le f g)
      where
        go : Dec (f ≤ g) → σ' ≡ τ'
        go (yes h) = once_ordered f g f' g' σ' τ' d e h
        go (no h) = sym (once_ordered g f g' f' τ' σ' e d (omega arith))

-- ── strict inside permissive ────────────────────────────────────────────────────────────────

module _ (𝓛 : Lattice) where
  stored_on : (x : Bool) (context A : ℕ) (m : Mark) → GoesOn false (stored 𝓛 Strict x context A m) (stored 𝓛 Permissive x context A m)
  unfolding stored
  stored_on true context A m = on
  stored_on false context A m = free refl

  strict-within : Within false (marking 𝓛 Strict) (marking 𝓛 Permissive)
  strict-within = record {
    constant-same = refl;
    sealed-same = refl;
    read_same = λ i m. refl;
    join-same = λ m n. refl;
    enter_on = λ context m. goes_on ((marking 𝓛 Strict).enter context m);
    store_on = λ place context old m. stored_on _ context (level_of old) _;
  }

  pub strict_permissive : (c : Cmd) (context : ℕ) (σ τ : Store Mark) (fuel left : ℕ)
      → exec (marking 𝓛 Strict) c context σ fuel ≡ done τ left → exec (marking 𝓛 Permissive) c context σ fuel ≡ done τ left
  strict_permissive c context σ τ fuel left e = rw (add-zero fuel, add-zero left) at (done-within strict-within 0 c context σ τ fuel left e)
