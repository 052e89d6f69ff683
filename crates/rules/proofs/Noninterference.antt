-- Noninterference that does not count stops, for every marking that is `Safe`: two runs of one command in one context, from stores that are
-- alike, each done, end in stores that are alike, with any fuel in each. What is asked of the marking speaks of marks only.
use Prim.Native.Nat.{ℕ, zero, suc}
use mathlib.Core.Path.{◌≡◌, refl}
use mathlib.Core.Bool.{Bool, true, false}
use mathlib.Core.Logic.{◌⊎◌, inl, inr}
use lib.Dec.{eqb}
use Rattle.basis.proofs.Tests.{split}
use Rattle.value.specs.Values.{operator_of, is_true}
use Rattle.value.specs.declared.Value.{Value}
use Rattle.sheet.specs.Trees.{Exp, constant, field, operator, not, seal, Cmd, skip, assign, sequence, if_else, while}
use Rattle.rules.specs.Rules.{Marking, put, computed, reading, operated, inverted, sealing, eval, updated, branch, tested, rounds, exec_by, exec}
use Rattle.store.specs.Cells.{Cell, cell, Store}
use Rattle.rules.specs.Ends.{Result, gives, stops, End, done, at, and_then, choose, bind}
use Rattle.rules.proofs.Pairs.{Fines, Results, results, stops_first, Ends, dones, spent-first, spent-second, stopped-first, stopped-second}
use Rattle.rules.proofs.Pairs.{both_done, at_results, any_fines, then_results, spend-ends, with-ends, bind-ends}
use Rattle.rules.proofs.Moves.{Moves, Later, stays, moves, Ran, ran, ran-spent, ran-stopped, Keeps, unmoved, bind-ran, choose-ran, rounds-ran, exec-ran}

-- Two marks are blind if any two values under them are alike. In a context whose test the reader cannot know, a mark may only move.
pub record Safe {Mark Seen Context : Type 0} (𝓜 : Marking Mark Seen Context) : Type 1 where
  pub Blind : Mark → Mark → Type 0
  pub Blinds : Seen → Seen → Type 0
  pub moving : Moves 𝓜
  -- expressions
  pub read_blind : (i : ℕ) (m n : Mark) → Blind m n → Blinds (𝓜.read i m) (𝓜.read i n)
  pub join-left : (m n k : Seen) → Blinds m n → Blinds (𝓜.join m k) (𝓜.join n k)
  pub join-right : (m n k : Seen) → Blinds m n → Blinds (𝓜.join k m) (𝓜.join k n)
  pub join_both : (m n m' n' : Seen) → Blinds m n → Blinds m' n' → Blinds (𝓜.join m m') (𝓜.join n n')
  pub sealed_blind : Blinds 𝓜.sealed 𝓜.sealed
  -- tests
  pub enter_blind : (context : Context) (m n : Seen) → Blinds m n → Fines (λ a b. moving.Inside a × moving.Inside b) (𝓜.enter context m) (𝓜.enter context n)
  -- assignments of one value, and of two values under blind marks, whatever the old marks
  pub store_same : (place : ℕ) (context : Context) (old old' : Mark) (m : Seen)
      → Fines (λ a b. (a ≡ b) ⊎ Blind a b) (𝓜.store place context old m) (𝓜.store place context old' m)
  pub store_blind : (place : ℕ) (context : Context) (old old' : Mark) (m n : Seen) → Blinds m n
      → Fines Blind (𝓜.store place context old m) (𝓜.store place context old' n)
  -- moves
  pub blind_sym : (m n : Mark) → Blind m n → Blind n m
  pub moved_blind : (m n : Mark) → moving.Moved m n → Blind m n
  pub blind_moved : (m n k : Mark) → Blind m n → moving.Moved n k → Blind m k

-- cells are alike: the same, or their marks are blind
pub data Alike {A : Type 0} (Blind : A → A → Type 0) : Cell A → Cell A → Type 0 where
  same : {c : Cell A} → Alike Blind c c
  blind : {v w : Value} {m n : A} → Blind m n → Alike Blind (cell v m) (cell w n)

same_results : {A : Type 0} {B : A → A → Type 0} (x : Result (Cell A)) → Results (Alike B) x x
same_results (gives c) = results same
same_results (stops why place) = stops_first

module _ {Mark Seen Context : Type 0} (𝓜 : Marking Mark Seen Context) (𝓢 : Safe 𝓜) where
  abbrev Like : Cell Mark → Cell Mark → Type 0
  Like = Alike 𝓢.Blind

  abbrev Likes : Cell Seen → Cell Seen → Type 0
  Likes = Alike 𝓢.Blinds

  abbrev pub AlikeStores : Store Mark → Store Mark → Type 0
  AlikeStores σ τ = (i : ℕ) → Like (σ i) (τ i)

  -- ── expressions ───────────────────────────────────────────────────────────────────────────

  reading_alike : (i : ℕ) {c d : Cell Mark} → Like c d → Likes (reading 𝓜 i c) (reading 𝓜 i d)
  unfolding reading
  reading_alike i same = same
  reading_alike i (blind {m} {n} h) = blind (𝓢.read_blind i m n h)

  -- whatever the values, under marks that are blind
  blind_results : (place op : ℕ) (v w v' w' : Value) {m n : Seen} → 𝓢.Blinds m n
      → Results Likes
      (and_then (at place (computed (operator_of op v v'))) (λ u. gives (cell u m)))
      (and_then (at place (computed (operator_of op w w'))) (λ u. gives (cell u n)))
  blind_results place op v w v' w' h =
      then_results (at_results place (any_fines (computed (operator_of op v v')) (computed (operator_of op w w')))) (λ a b x. results (blind h))

  operated_alike : (place op : ℕ) {c d c' d' : Cell Seen} → Likes c d → Likes c' d' → Results Likes (operated 𝓜 place op c c') (operated 𝓜 place op d d')
  unfolding operated
  operated_alike place op {c} {c'} same same = same_results (operated 𝓜 place op c c')
  operated_alike place op {c = cell v k} {c' = cell v' m} {d' = cell w' n} same (blind h) = blind_results place op v v v' w' (𝓢.join-right m n k h)
  operated_alike place op {c = cell v m} {d = cell w n} {c' = cell v' k} (blind h) same = blind_results place op v w v' v' (𝓢.join-left m n k h)
  operated_alike place op {c = cell v m} {d = cell w n} {c' = cell v' m'} {d' = cell w' n'} (blind h) (blind k) =
      blind_results place op v w v' w' (𝓢.join_both m n m' n' h k)

  inverted_alike : {c d : Cell Seen} → Likes c d → Likes (inverted 𝓜 c) (inverted 𝓜 d)
  unfolding inverted
  inverted_alike same = same
  inverted_alike (blind h) = blind h

  sealing_alike : (c d : Cell Seen) → Likes (sealing 𝓜 c) (sealing 𝓜 d)
  unfolding sealing
  sealing_alike (cell v m) (cell w n) = blind 𝓢.sealed_blind

  eval_alike : (e : Exp) {σ τ : Store Mark} → AlikeStores σ τ → Results Likes (eval 𝓜 e σ) (eval 𝓜 e τ)
  unfolding eval
  eval_alike (constant v) h = results same
  eval_alike (field i) h = results (reading_alike i (h i))
  eval_alike (operator place op a b) h = then_results (eval_alike a h) (λ c d x. then_results (eval_alike b h) (λ c' d' y. operated_alike place op x y))
  eval_alike (not a) h = then_results (eval_alike a h) (λ c d x. results (inverted_alike x))
  eval_alike (seal a) h = then_results (eval_alike a h) (λ c d x. results (sealing_alike c d))

  -- ── assignments ───────────────────────────────────────────────────────────────────────────

  same_or_blind : (v : Value) (a b : Mark) → (a ≡ b) ⊎ 𝓢.Blind a b → Like (cell v a) (cell v b)
  same_or_blind v a b (inl e) = rw e same
  same_or_blind v a b (inr h) = blind h

  updated_alike : (place : ℕ) (context : Context) (old old' : Cell Mark) {c d : Cell Seen} → Likes c d
      → Results Like (updated 𝓜 place context old c) (updated 𝓜 place context old' d)
  unfolding updated
  updated_alike place context (cell w k) (cell w' k') {c = cell v m} same =
      then_results (at_results place (𝓢.store_same place context k k' m)) (λ a b x. results (same_or_blind v a b x))
  updated_alike place context (cell w k) (cell w' k') {c = cell v m} {d = cell v' n} (blind h) =
      then_results (at_results place (𝓢.store_blind place context k k' m n h)) (λ a b x. results (blind x))

  put_alike : (i : ℕ) {c d : Cell Mark} {σ τ : Store Mark} → Like c d → AlikeStores σ τ → AlikeStores (put i c σ) (put i d τ)
  unfolding put
  put_alike i h rest j = split (eqb i j) (λ e. rw e h) (λ e. rw e (rest j))

  -- ── a cell that stayed or moved ───────────────────────────────────────────────────────────

  alike_sym : (c d : Cell Mark) → Like c d → Like d c
  alike_sym c d same = same
  alike_sym c d (blind {m} {n} h) = blind (𝓢.blind_sym m n h)

  alike_moved : (v w : Value) (m n : Mark) (c : Cell Mark) → Like c (cell v m) → 𝓢.moving.Moved m n → Like c (cell w n)
  alike_moved v w m n c same k = blind (𝓢.moved_blind m n k)
  alike_moved v w m n c (blind {m = l} h) k = blind (𝓢.blind_moved l m n h k)

  alike_later : (c d d' : Cell Mark) → Like c d → Later 𝓢.moving d d' → Like c d'
  alike_later c d d' h stays = h
  alike_later c d d' h (moves {v} {w} {m} {n} k) = alike_moved v w m n c h k

  both_later : (c d c' d' : Cell Mark) → Like c d → Later 𝓢.moving c c' → Later 𝓢.moving d d' → Like c' d'
  both_later c d c' d' h k l = alike_sym d' c' (alike_later d' c c' (alike_sym c d' (alike_later c d d' h l)) k)

  -- ── two runs ──────────────────────────────────────────────────────────────────────────────

  abbrev Both : End Mark → End Mark → Type 0
  Both = Ends AlikeStores

  both_ran : {σ τ : Store Mark} {x y : End Mark} → AlikeStores σ τ → Ran 𝓢.moving σ x → Ran 𝓢.moving τ y → Both x y
  both_ran {σ} {τ} h (ran {τ = σ'} k) (ran {τ = τ'} l) = dones (λ i. both_later (σ i) (τ i) (σ' i) (τ' i) (h i) (k i) (l i))
  both_ran h ran-spent l = spent-first
  both_ran h ran-stopped l = stopped-first
  both_ran h (ran k) ran-spent = spent-second
  both_ran h (ran k) ran-stopped = stopped-second

  -- one side of a test, in both runs: in one context it ends alike, and in contexts that the reader cannot know each run only moves its store
  record Side (σ τ : Store Mark) (x y : Context → End Mark) : Type 0 where
    known : (context : Context) → Both (x context) (y context)
    first : Keeps 𝓢.moving σ x
    second : Keeps 𝓢.moving τ y

  choose_both : (b : Bool) (context : Context) {x y x' y' : Context → End Mark} → ((c : Context) → Both (x c) (x' c)) → ((c : Context) → Both (y c) (y' c))
      → Both (choose b x y context) (choose b x' y' context)
  unfolding choose
  choose_both true context h k = h context
  choose_both false context h k = k context

  same_result : {A : Type 0} (x : Result A) → Results (λ a b. a ≡ b) x x
  same_result (gives a) = results refl
  same_result (stops why place) = stops_first

  branch_both : (place : ℕ) (context : Context) (f g : ℕ) {σ τ : Store Mark} {c d : Cell Seen} {x y x' y' : Context → End Mark} → AlikeStores σ τ → Likes c d
      → Side σ τ x x' → Side σ τ y y' → Both (branch 𝓜 place context c f x y) (branch 𝓜 place context d g x' y')
  unfolding branch
  branch_both place context f g {c = cell v m} h same yes_side no_side =
      with-ends f g (same_result (at place (𝓜.enter context m))) (λ a b e. rw e (choose_both (is_true v) b yes_side.known no_side.known))
  branch_both place context f g {c = cell v m} {d = cell w n} h (blind k) yes_side no_side =
      with-ends f g (at_results place (𝓢.enter_blind context m n k)) (λ a b inside.
      both_ran h (choose-ran 𝓢.moving (is_true v) yes_side.first no_side.first a inside.0)
      (choose-ran 𝓢.moving (is_true w) yes_side.second no_side.second b inside.1))

  tested_both : (place : ℕ) (a : Exp) (context : Context) (f g : ℕ) (σ τ : Store Mark) {x y x' y' : Context → ℕ → End Mark} → AlikeStores σ τ
      → ((f g : ℕ) → Side σ τ (λ c. x c f) (λ c. x' c g)) → ((f g : ℕ) → Side σ τ (λ c. y c f) (λ c. y' c g))
      → Both (tested 𝓜 place a context σ f x y) (tested 𝓜 place a context τ g x' y')
  unfolding tested
  tested_both place a context f g σ τ h yes_side no_side =
      spend-ends place f g (λ f g. with-ends f g (eval_alike a h) (λ c d x. branch_both place context f g h x (yes_side f g) (no_side f g)))

  -- what is asked of a while's body
  module _ (place : ℕ) (a : Exp) (body : Context → Store Mark → ℕ → End Mark)
      (keeps : (σ : Store Mark) (fuel : ℕ) → Keeps 𝓢.moving σ (λ c. body c σ fuel))
      (ends : (context : Context) (f g : ℕ) (σ τ : Store Mark) → AlikeStores σ τ → Both (body context σ f) (body context τ g)) where
    again : (bound : ℕ) (c : Context) → 𝓢.moving.Inside c → {σ : Store Mark} {x : End Mark}
        → Ran 𝓢.moving σ x → Ran 𝓢.moving σ (bind x (rounds 𝓜 place a body bound c))
    again bound c inside h = bind-ran 𝓢.moving h (λ τ left. rounds-ran 𝓢.moving place a body keeps bound τ left c inside)

    rounds_both : (m n : ℕ) (context : Context) (f g : ℕ) (σ τ : Store Mark) → AlikeStores σ τ
        → Both (rounds 𝓜 place a body m context σ f) (rounds 𝓜 place a body n context τ g)
    unfolding rounds
    rounds_both zero n context f g σ τ h = spent-first
    rounds_both (suc m) zero context f g σ τ h = spent-second
    rounds_both (suc m) (suc n) context f g σ τ h =
        tested_both place a context f g σ τ h
        (λ f g. record {
          known = λ c. bind-ends (ends _ f g σ τ h) (λ σ τ f g k. rounds_both m n c f g σ τ k);
          first = λ c inside. again m c inside (keeps σ f _ search);
          second = λ c inside. again n c inside (keeps τ g _ search);
        })
        (λ f g. record { known = λ c. dones h; first = λ c inside. unmoved 𝓢.moving; second = λ c inside. unmoved 𝓢.moving })

  side : (c : Cmd) (σ τ : Store Mark) (f g : ℕ) → ((k : Context) → Both (exec 𝓜 c k σ f) (exec 𝓜 c k τ g)) → Side σ τ (λ k. exec 𝓜 c k σ f) (λ k. exec 𝓜 c k τ g)
  side c σ τ f g h = record { known = h; first = exec-ran 𝓢.moving c σ f; second = exec-ran 𝓢.moving c τ g }

  exec_both : (c : Cmd) (context : Context) (f g : ℕ) (σ τ : Store Mark) → AlikeStores σ τ → Both (exec 𝓜 c context σ f) (exec 𝓜 c context τ g)
  unfolding exec_by
  exec_both (skip place) context f g σ τ h = spend-ends place f g (λ f g. dones h)
  exec_both (assign place i b) context f g σ τ h =
      spend-ends place f g (λ f g. with-ends f g (eval_alike b h) (λ c d x.
      with-ends f g (updated_alike place context (σ i) (τ i) x) (λ k l y. dones (put_alike i y h))))
  exec_both (sequence a b) context f g σ τ h = bind-ends (exec_both a context f g σ τ h) (λ σ τ f g k. exec_both b context f g σ τ k)
  exec_both (if_else place a b c) context f g σ τ h =
      tested_both place a context f g σ τ h
      (λ f g. side b σ τ f g (λ k. exec_both b k f g σ τ h))
      (λ f g. side c σ τ f g (λ k. exec_both c k f g σ τ h))
  exec_both (while place a b) context f g σ τ h = rounds_both place a (exec 𝓜 b) (exec-ran 𝓢.moving b) (exec_both b) f g context f g σ τ h

  pub noninterference : (c : Cmd) (context : Context) (f g : ℕ) (σ τ : Store Mark) → AlikeStores σ τ
      → (σ' τ' : Store Mark) (f' g' : ℕ) → exec 𝓜 c context σ f ≡ done σ' f' → exec 𝓜 c context τ g ≡ done τ' g' → AlikeStores σ' τ'
  noninterference c context f g σ τ h σ' τ' f' g' d e = both_done (rw (d, e) at (exec_both c context f g σ τ h))
