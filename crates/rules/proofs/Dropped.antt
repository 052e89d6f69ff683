-- A while that drops its joined context ends as one that keeps it. The body ran in a context at or above the test's level, so each field of the test
-- is unchanged, or partial, or at or above that level: where the next test is whole, its level is at or above the earlier one's.
use Prim.Native.Nat.{ℕ, zero, suc}
use mathlib.Core.Path.{◌≡◌, refl, sym, fun_ext}
use mathlib.Core.Bool.{Bool, true, false}
use Rattle.value.specs.Values.{operator_of, is_true}
use Rattle.value.specs.declared.Value.{Value}
use Rattle.sheet.specs.Trees.{Exp, constant, field, operator, not, seal, Cmd, skip, assign, sequence, if_else, while}
use Rattle.levels.specs.Lattice.{Lattice, Laws}
use Rattle.store.specs.Cells.{Cell, cell, Store}
use Rattle.rules.specs.Ends.{Result, gives, stops, End, done, at, with, choose, spend, bind}
use Rattle.rules.specs.Rules.{computed, reading, operated, inverted, sealing, eval, branch, tested, rounds, exec_by, exec}
use Rattle.store.specs.declared.Mode.{Mode}
use Rattle.store.specs.declared.Mode.TheVariants.{Strict, Permissive}
use Rattle.store.specs.Marks.{Mark, whole, partial, level_of}
use Rattle.rules.specs.LevelMarks.{joined, entered, stored, marking}
use Rattle.rules.specs.Dropped.{dropping, exec_dropping, DroppingSame}
use Rattle.rules.proofs.Pairs.{Results, results, at_results, any_fines, then_results}
use Rattle.rules.proofs.Moves.{Fine, good, bad, Moves, Later, stays, moves, Ran, ran, ran-spent, ran-stopped, exec-ran}

module _ (𝓛 : Lattice) (𝓘 : Laws 𝓛) where
  -- a level at or below another adds nothing to it
  absorbs : (c a b : ℕ) → 𝓛.le a b ≡ true → 𝓛.join (𝓛.join c a) b ≡ 𝓛.join c b
  absorbs c a b h =
      let c_up = 𝓘.join_upper_left c b in
      let b_up = 𝓘.join_upper_right c b in
      let ca = 𝓛.join c a in
      𝓘.le_antisym (𝓘.join_in ca b) (𝓘.join_in c b)
      (𝓘.join-least (𝓘.join-least c_up (𝓘.le_trans h b_up)) b_up)
      (𝓘.join-least (𝓘.le_trans (𝓘.join_upper_left c a) (𝓘.join_upper_left ca b)) (𝓘.join_upper_right ca b))

  module _ (mode : Mode) where
    -- ── what a run in a context at or above level a leaves of the fields ────────────────────

    module _ (a : ℕ) where
      data Above : Mark → Type 0 where
        above : {b : ℕ} → 𝓛.le a b ≡ true → Above (whole b)
        part : {b : ℕ} → Above (partial b)

      entered_above : (context : ℕ) (m : Mark) → 𝓛.le a context ≡ true → Fine (λ c. 𝓛.le a c ≡ true) (entered 𝓛 context m)
      unfolding entered
      entered_above context (whole b) h = good (𝓘.le_trans h (𝓘.join_upper_left context b))
      entered_above context (partial b) h = bad

      raised_above : (m : Mark) (context : ℕ) → 𝓛.le a context ≡ true → Above (joined 𝓛 m (whole context))
      unfolding joined
      raised_above (whole b) context h = above (𝓘.le_trans h (𝓘.join_upper_right b context))
      raised_above (partial b) context h = part

      stored_above_lem : (mode : Mode) (x : Bool) (context A : ℕ) (m : Mark) → 𝓛.le a context ≡ true → Fine Above (stored 𝓛 mode x context A m)
      unfolding stored
      stored_above_lem mode true context A m h = good (raised_above m context h)
      stored_above_lem Strict false context A m h = bad
      stored_above_lem Permissive false context A m h = good part

      unfoldable rising : Moves (marking 𝓛 mode)
      rising = record {
        Inside = λ context. 𝓛.le a context ≡ true;
        Moved = λ m n. Above n;
        enter-inside = entered_above;
        store-inside = λ place context old m h. stored_above_lem mode _ context (level_of old) _ h;
        moved_trans = λ k m n h l. l;
      }

      -- ── an expression that is whole before and after: at one level, or at or above a ──────

      data Up : Mark → Mark → Type 0 where
        keeps : {b : ℕ} → Up (whole b) (whole b)
        rises : {m : Mark} {b : ℕ} → 𝓛.le a b ≡ true → Up m (whole b)
        part_before : {b : ℕ} {n : Mark} → Up (partial b) n
        part_after : {m : Mark} {b : ℕ} → Up m (partial b)

      data Ups : Cell Mark → Cell Mark → Type 0 where
        ups : {v w : Value} {m n : Mark} → Up m n → Ups (cell v m) (cell w n)

      up_refl : (m : Mark) → Up m m
      up_refl (whole b) = keeps
      up_refl (partial b) = part_before

      up_join : (m n m' n' : Mark) → Up m n → Up m' n' → Up (joined 𝓛 m m') (joined 𝓛 n n')
      unfolding joined
      up_join m n m' n' keeps keeps = keeps
      up_join m n m' n' (keeps {b}) (rises {b = b'} h) = rises (𝓘.le_trans h (𝓘.join_upper_right b b'))
      up_join m n m' n' keeps part_before = part_before
      up_join m n m' n' keeps part_after = part_after
      up_join m n m' (whole b') (rises {b} h) k = rises (𝓘.le_trans h (𝓘.join_upper_left b b'))
      up_join m n m' (partial b') (rises h) k = part_after
      up_join m n (whole b') n' part_before k = part_before
      up_join m n (partial b') n' part_before k = part_before
      up_join m n m' (whole b') part_after k = part_after
      up_join m n m' (partial b') part_after k = part_after

      above_up : (m n : Mark) → Above n → Up m n
      above_up m n (above h) = rises h
      above_up m n part = part_after

      reading_up : (i : ℕ) {c d : Cell Mark} → Later rising c d → Ups (reading (marking 𝓛 mode) i c) (reading (marking 𝓛 mode) i d)
      unfolding reading rising
      reading_up i {c = cell v m} stays = ups (up_refl m)
      reading_up i (moves {m} {n} h) = ups (above_up m n h)

      operated_up : (place op : ℕ) {c d c' d' : Cell Mark} → Ups c d → Ups c' d'
          → Results Ups (operated (marking 𝓛 mode) place op c c') (operated (marking 𝓛 mode) place op d d')
      unfolding operated
      operated_up place op (ups {v} {w} {m} {n} h) (ups {v = v'} {w = w'} {m = m'} {n = n'} k) =
          then_results (at_results place (any_fines (computed (operator_of op v v')) (computed (operator_of op w w')))) (λ x y z. results (ups (up_join m n m' n' h k)))

      inverted_up : {c d : Cell Mark} → Ups c d → Ups (inverted (marking 𝓛 mode) c) (inverted (marking 𝓛 mode) d)
      unfolding inverted
      inverted_up (ups h) = ups h

      sealing_up : {c d : Cell Mark} → Ups c d → Ups (sealing (marking 𝓛 mode) c) (sealing (marking 𝓛 mode) d)
      unfolding sealing
      sealing_up (ups h) = ups keeps

      eval_up : (e : Exp) {σ τ : Store Mark} → ((i : ℕ) → Later rising (σ i) (τ i)) → Results Ups (eval (marking 𝓛 mode) e σ) (eval (marking 𝓛 mode) e τ)
      unfolding eval
      eval_up (constant v) h = results (ups keeps)
      eval_up (field i) h = results (reading_up i (h i))
      eval_up (operator place op b c) h = then_results (eval_up b h) (λ x y k. then_results (eval_up c h) (λ x' y' l. operated_up place op k l))
      eval_up (not b) h = then_results (eval_up b h) (λ x y k. results (inverted_up k))
      eval_up (seal b) h = then_results (eval_up b h) (λ x y k. results (sealing_up k))

    risen : {a b : ℕ} {v w : Value} → Results (Ups a) (gives (cell v (whole a))) (gives (cell w (whole b))) → 𝓛.le a b ≡ true
    risen {a} (results (ups keeps)) = 𝓘.le_refl a
    risen (results (ups (rises h))) = h

    -- ── two whiles ──────────────────────────────────────────────────────────────────────────

    module _ (place : ℕ) (e : Exp) (c : Cmd) where
      abbrev body : ℕ → Store Mark → ℕ → End Mark
      body = exec (marking 𝓛 mode) c

      -- two contexts that the next whole test makes one
      abbrev Joins : ℕ → ℕ → Store Mark → Type 0
      Joins q context σ = (v : Value) (b : ℕ) → eval (marking 𝓛 mode) e σ ≡ gives (cell v (whole b)) → 𝓛.join q b ≡ 𝓛.join context b

      bind_risen : (b : ℕ) {σ : Store Mark} {x : End Mark} (f g : Store Mark → ℕ → End Mark) → Ran (rising b) σ x
          → ((τ : Store Mark) (left : ℕ) → ((i : ℕ) → Later (rising b) (σ i) (τ i)) → f τ left ≡ g τ left) → bind x f ≡ bind x g
      unfolding bind
      bind_risen b f g (ran {τ} {left} h) same = same τ left h
      bind_risen b f g ran-spent same = refl
      bind_risen b f g ran-stopped same = refl

      -- a test in two contexts, once its unit is spent, and what follows its body
      abbrev onward : ℕ → ℕ → Store Mark → (ℕ → Store Mark → ℕ → End Mark) → Result (Cell Mark) → End Mark
      onward left context σ next x =
          with x left (λ y. branch (marking 𝓛 mode) place context y left (λ k. bind (body k σ left) (next k)) (λ k. done σ left))

      one_round : (left q context : ℕ) (σ : Store Mark) (f g : ℕ → Store Mark → ℕ → End Mark) → Joins q context σ
          → ((v : Value) (b : ℕ) (τ : Store Mark) (rest : ℕ) → eval (marking 𝓛 mode) e σ ≡ gives (cell v (whole b)) → ((i : ℕ) → Later (rising b) (σ i) (τ i))
          → f (𝓛.join context b) τ rest ≡ g (𝓛.join context b) τ rest)
          → onward left q σ f (eval (marking 𝓛 mode) e σ) ≡ onward left context σ g (eval (marking 𝓛 mode) e σ)
      unfolding with branch at entered choose rising
      one_round left q context σ f g joins same = go (eval (marking 𝓛 mode) e σ) refl
        where
          pick : (x : Bool) (v : Value) (b : ℕ) → eval (marking 𝓛 mode) e σ ≡ gives (cell v (whole b))
              → choose x (λ k. bind (body k σ left) (f k)) (λ k. done σ left) (𝓛.join context b)
              ≡ choose x (λ k. bind (body k σ left) (g k)) (λ k. done σ left) (𝓛.join context b)
          pick true v b is =
              bind_risen b (f (𝓛.join context b)) (g (𝓛.join context b)) (exec-ran (rising b) c σ left (𝓛.join context b) (𝓘.join_upper_right context b))
              (λ τ rest h. same v b τ rest is h)
          pick false v b is = refl

          go : (x : Result (Cell Mark)) → eval (marking 𝓛 mode) e σ ≡ x → onward left q σ f x ≡ onward left context σ g x
          go (stops why at-node) is = refl
          go (gives (cell v (partial b))) is = refl
          go (gives (cell v (whole b))) is = rw (joins v b is) (pick (is_true v) v b is)

      same-rounds : (bound q context : ℕ) (σ : Store Mark) (fuel : ℕ) → Joins q context σ
          → rounds (marking 𝓛 mode) place e body bound q σ fuel ≡ dropping (marking 𝓛 mode) place e body bound context σ fuel
      unfolding rounds dropping tested spend
      same-rounds zero q context σ fuel joins = refl
      same-rounds (suc bound) q context σ zero joins = refl
      same-rounds (suc bound) q context σ (suc left) joins =
          one_round left q context σ (rounds (marking 𝓛 mode) place e body bound) (λ k. dropping (marking 𝓛 mode) place e body bound context) joins
          (λ v b τ rest is h. same-rounds bound (𝓛.join context b) context τ rest (λ w b' is'. absorbs context b b' (risen (rw (is, is') at (eval_up b e h)))))

      while-same : (context : ℕ) (σ : Store Mark) (fuel : ℕ)
          → dropping (marking 𝓛 mode) place e body fuel context σ fuel ≡ exec (marking 𝓛 mode) (while place e c) context σ fuel
      unfolding exec_by
      while-same context σ fuel = sym (same-rounds fuel context context σ fuel (λ v b is. refl))

    pointwise : {f g : ℕ → Store Mark → ℕ → End Mark} → ((context : ℕ) (σ : Store Mark) (fuel : ℕ) → f context σ fuel ≡ g context σ fuel) → f ≡ g
    pointwise h = fun_ext (λ context. fun_ext (λ σ. fun_ext (λ fuel. h context σ fuel)))

    same : (c : Cmd) → exec_dropping (marking 𝓛 mode) c ≡ exec (marking 𝓛 mode) c
    unfolding exec_by
    same (skip place) = refl
    same (assign place i b) = refl
    same (sequence a b) = pointwise (λ context σ fuel. rw (same a, same b))
    same (if_else place a b c) = pointwise (λ context σ fuel. rw (same b, same c))
    same (while place a b) = pointwise (λ context σ fuel. rw (same b) (while-same place a b context σ fuel))

pub dropping-same : DroppingSame
dropping-same 𝓛 𝓘 mode c = same 𝓛 𝓘 mode c
