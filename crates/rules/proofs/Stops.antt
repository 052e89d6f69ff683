-- Where a run stops: at a place of its command. In nodes that are well formed, the places of the command at node n are n or lower.
use Prim.Native.Nat.{ℕ, zero, suc, ◌≤◌, ◌<◌}
use native.Mathlib.Omega.{arith}
use mathlib.Core.Path.{◌≡◌, refl}
use mathlib.Core.Bool.{Bool, true, false}
use mathlib.Core.List.{List}
use lib.Dec.{eqb, ltb}
use borrow.Author.Tests.{ltb-true, ltb-false}
use Rattle.basis.proofs.Tests.{split}
use Rattle.value.specs.Values.{operator_of, is_true}
use Rattle.value.specs.declared.Value.{Value}
use Rattle.nodes.specs.Nodes.{In, kind_at, slot_at, kinds, held_in}
use Rattle.nodes.specs.Inside.Formed.{WellFormed}
use Rattle.nodes.specs.declared.Held.TheVariants.{Expression, Command}
use Rattle.sheet.specs.Trees.{Exp, constant, field, operator, not, seal, Cmd, skip, assign, sequence, if_else, while}
use Rattle.sheet.specs.Trees.{lower, exp_node, exp_below, exp_at, cmd_at}
use Rattle.sheet.proofs.Trees.{held_there, cmd_at-skip, cmd_at-assign, cmd_at-sequence, cmd_at_if, cmd_at-while}
use Rattle.rules.specs.Ends.{Why, Try, fine, fails, Result, gives, stops, End, done, spent, stopped, at, and_then, with, choose, spend, bind}
use Rattle.rules.specs.Rules.{Marking, computed, operated, eval, updated, branch, tested, rounds, exec_by, exec}
use Rattle.store.specs.Cells.{Cell, cell, Store}

-- ── trees whose places are at most n ────────────────────────────────────────────────────────

pub data ExpUpTo (n : ℕ) : Exp → Type 0 where
  a_constant : {v : Value} → ExpUpTo n (constant v)
  a_field : {i : ℕ} → ExpUpTo n (field i)
  an_operator : {place op : ℕ} {a b : Exp} → place ≤ n → ExpUpTo n a → ExpUpTo n b → ExpUpTo n (operator place op a b)
  a_not : {a : Exp} → ExpUpTo n a → ExpUpTo n (not a)
  a_seal : {a : Exp} → ExpUpTo n a → ExpUpTo n (seal a)

pub data CmdUpTo (n : ℕ) : Cmd → Type 0 where
  a_skip : {place : ℕ} → place ≤ n → CmdUpTo n (skip place)
  an_assign : {place i : ℕ} {b : Exp} → place ≤ n → ExpUpTo n b → CmdUpTo n (assign place i b)
  a_sequence : {a b : Cmd} → CmdUpTo n a → CmdUpTo n b → CmdUpTo n (sequence a b)
  an_if : {place : ℕ} {a : Exp} {b c : Cmd} → place ≤ n → ExpUpTo n a → CmdUpTo n b → CmdUpTo n c → CmdUpTo n (if_else place a b c)
  a_while : {place : ℕ} {a : Exp} {b : Cmd} → place ≤ n → ExpUpTo n a → CmdUpTo n b → CmdUpTo n (while place a b)

lower_upto : {A : Type 0} (P : A → Type 0) (m : ℕ) {tree : ℕ → A} {none : A} → P none → ((w : ℕ) → w < m → P (tree w)) → (w : ℕ) → P (lower m tree none w)
unfolding lower
lower_upto P m p below w = split (ltb w m) (λ e. rw e (below w (ltb-true w m e))) (λ e. rw e p)

module _ (constants s : List ℕ) (n : ℕ) where
  exp_node_upto : (child : ℕ → Exp) → ((w : ℕ) → ExpUpTo n (child w)) → (m kind : ℕ) → m ≤ n → ExpUpTo n (exp_node constants s child m kind)
  unfolding exp_node
  exp_node_upto child below m kind h =
      split (eqb kind 0) (λ e. rw (e, exp_node) a_constant)
      (λ e. split (eqb kind 1) (λ f. rw (e, f, exp_node) a_field)
      (λ f. split (eqb kind 2) (λ g. rw (e, f, g, exp_node) (an_operator h (below (slot_at s m 0)) (below (slot_at s m 1))))
      (λ g. split (eqb kind 3) (λ i. rw (e, f, g, i, exp_node) (a_not (below (slot_at s m 0))))
      (λ i. rw (e, f, g, i, exp_node) (a_seal (below (slot_at s m 0)))))))

  exp_below_upto : (d m : ℕ) → m ≤ n → ExpUpTo n (exp_below constants s d m)
  unfolding exp_below
  exp_below_upto zero m h = a_constant
  exp_below_upto (suc d) m h = exp_node_upto _ (lower_upto (ExpUpTo n) m a_constant (λ w l. exp_below_upto d w (omega arith))) m (kind_at s m) h

  exp_upto : (m : ℕ) → m ≤ n → ExpUpTo n (exp_at constants s m)
  unfolding exp_at
  exp_upto m h = exp_below_upto (suc m) m h

-- a command is of one of five kinds
by_kind : (k : ℕ) → 5 ≤ k → k ≤ 9 → {X : Type 0} → (k ≡ 5 → X) → (k ≡ 6 → X) → (k ≡ 7 → X) → (k ≡ 8 → X) → (k ≡ 9 → X) → X
by_kind k least most is_5 is_6 is_7 is_8 is_9 =
    split (ltb k 6) (λ e. is_5 (omega (arith, ltb-true k 6 e)))
    (λ d. split (ltb k 7) (λ e. is_6 (omega (arith, ltb-false k 6 d, ltb-true k 7 e)))
    (λ d. split (ltb k 8) (λ e. is_7 (omega (arith, ltb-false k 7 d, ltb-true k 8 e)))
    (λ d. split (ltb k 9) (λ e. is_8 (omega (arith, ltb-false k 8 d, ltb-true k 9 e))) (λ d. is_9 (omega (arith, ltb-false k 9 d))))))

module _ (values : List ℕ) {s : List ℕ} {fields constants : ℕ} (nodes : WellFormed s fields constants) (n : ℕ) where
  -- a command, where its children are such
  module _ (m : ℕ) (h : m ≤ n) (i : In s m) (below : (w : ℕ) → w < m → 5 ≤ kind_at s w → CmdUpTo n (cmd_at values s w)) where
    exp_child : (kind k : ℕ) → kind_at s m ≡ kind → k < 3 → held_in kind k ≡ Expression → ExpUpTo n (exp_at values s (slot_at s m k))
    exp_child kind k e l held = exp_upto values s n (slot_at s m k) (omega (arith, (rw held at (held_there nodes m i kind k e l)).lower))

    cmd_child : (kind k : ℕ) → kind_at s m ≡ kind → k < 3 → held_in kind k ≡ Command → CmdUpTo n (cmd_at values s (slot_at s m k))
    cmd_child kind k e l held = let child = rw held at (held_there nodes m i kind k e l) in below (slot_at s m k) child.lower child.least

    cmd_node_upto : 5 ≤ kind_at s m → CmdUpTo n (cmd_at values s m)
    unfolding held_in kinds
    cmd_node_upto sort =
        by_kind (kind_at s m) sort (nodes.kind m i)
        (λ k. rw (cmd_at-skip values nodes m i k) (a_skip h))
        (λ k. rw (cmd_at-assign values nodes m i k) (an_assign h (exp_child 6 1 k (omega arith) refl)))
        (λ k. rw (cmd_at-sequence values nodes m i k) (a_sequence (cmd_child 7 0 k (omega arith) refl) (cmd_child 7 1 k (omega arith) refl)))
        (λ k. rw (cmd_at_if values nodes m i k) (an_if h (exp_child 8 0 k (omega arith) refl) (cmd_child 8 1 k (omega arith) refl) (cmd_child 8 2 k (omega arith) refl)))
        (λ k. rw (cmd_at-while values nodes m i k) (a_while h (exp_child 9 0 k (omega arith) refl) (cmd_child 9 1 k (omega arith) refl)))

  cmd_within_upto : (d m : ℕ) → m < d → m ≤ n → In s m → 5 ≤ kind_at s m → CmdUpTo n (cmd_at values s m)
  cmd_within_upto zero m l h i sort = absurd (omega arith)
  cmd_within_upto (suc d) m l h i sort = cmd_node_upto m h i (λ w lower sort. cmd_within_upto d w (omega arith) (omega arith) (omega arith) sort) sort

pub cmd_upto : (values : List ℕ) {s : List ℕ} {fields constants : ℕ} → WellFormed s fields constants → (n : ℕ) → In s n → 5 ≤ kind_at s n → CmdUpTo n (cmd_at values s n)
cmd_upto values nodes n i sort = cmd_within_upto values nodes n (suc n) n (omega arith) (omega arith) i sort

-- ── runs that stop at such a place ──────────────────────────────────────────────────────────

data ResultUpTo {A : Type 0} (n : ℕ) : Result A → Type 0 where
  upto_gives : {a : A} → ResultUpTo n (gives a)
  upto_stops : {why : Why} {place : ℕ} → place ≤ n → ResultUpTo n (stops why place)

pub data EndUpTo {Mark : Type 0} (n : ℕ) : End Mark → Type 0 where
  upto_done : {σ : Store Mark} {left : ℕ} → EndUpTo n (done σ left)
  upto_spent : {place : ℕ} → place ≤ n → EndUpTo n (spent place)
  upto_stopped : {why : Why} {place left : ℕ} → place ≤ n → EndUpTo n (stopped why place left)

module _ {A : Type 0} {n : ℕ} where
  at_upto : {place : ℕ} → place ≤ n → (x : Try A) → ResultUpTo n (at place x)
  unfolding at
  at_upto h (fine a) = upto_gives
  at_upto h (fails why) = upto_stops h

  and_then_upto : {B : Type 0} {x : Result B} {next : B → Result A} → ResultUpTo n x → ((b : B) → ResultUpTo n (next b)) → ResultUpTo n (and_then x next)
  unfolding and_then
  and_then_upto (upto_gives {a}) h = h a
  and_then_upto (upto_stops p) h = upto_stops p

  with_upto : {B : Type 0} {x : Result B} {next : B → End A} → ResultUpTo n x → (left : ℕ) → ((b : B) → EndUpTo n (next b)) → EndUpTo n (with x left next)
  unfolding with
  with_upto (upto_gives {a}) left h = h a
  with_upto (upto_stops p) left h = upto_stopped p

  spend_upto : {place : ℕ} → place ≤ n → (fuel : ℕ) {next : ℕ → End A} → ((left : ℕ) → EndUpTo n (next left)) → EndUpTo n (spend place fuel next)
  unfolding spend
  spend_upto p zero h = upto_spent p
  spend_upto p (suc left) h = h left

  choose_upto : {C : Type 0} (b : Bool) (c : C) {yes_side no_side : C → End A} → ((c : C) → EndUpTo n (yes_side c)) → ((c : C) → EndUpTo n (no_side c))
      → EndUpTo n (choose b yes_side no_side c)
  unfolding choose
  choose_upto true c y h = y c
  choose_upto false c y h = h c

  bind_upto : {x : End A} {next : Store A → ℕ → End A} → EndUpTo n x → ((σ : Store A) (left : ℕ) → EndUpTo n (next σ left)) → EndUpTo n (bind x next)
  unfolding bind
  bind_upto (upto_done {σ} {left}) h = h σ left
  bind_upto (upto_spent p) h = upto_spent p
  bind_upto (upto_stopped p) h = upto_stopped p

module _ {Mark Seen Context : Type 0} (𝓜 : Marking Mark Seen Context) {n : ℕ} where
  operated_upto : {place : ℕ} → place ≤ n → (op : ℕ) (x y : Cell Seen) → ResultUpTo n (operated 𝓜 place op x y)
  unfolding operated
  operated_upto p op (cell v m) (cell w k) = and_then_upto (at_upto p (computed (operator_of op v w))) (λ u. upto_gives)

  eval_upto : {e : Exp} → ExpUpTo n e → (σ : Store Mark) → ResultUpTo n (eval 𝓜 e σ)
  unfolding eval
  eval_upto a_constant σ = upto_gives
  eval_upto a_field σ = upto_gives
  eval_upto (an_operator {place} {op} p a b) σ = and_then_upto (eval_upto a σ) (λ x. and_then_upto (eval_upto b σ) (operated_upto p op x))
  eval_upto (a_not a) σ = and_then_upto (eval_upto a σ) (λ x. upto_gives)
  eval_upto (a_seal a) σ = and_then_upto (eval_upto a σ) (λ x. upto_gives)

  updated_upto : {place : ℕ} → place ≤ n → (context : Context) (x : Cell Mark) (y : Cell Seen) → ResultUpTo n (updated 𝓜 place context x y)
  unfolding updated
  updated_upto {place} p context (cell w old) (cell v m) = and_then_upto (at_upto p (𝓜.store place context old m)) (λ k. upto_gives)

  branch_upto : {place : ℕ} → place ≤ n → (context : Context) (x : Cell Seen) (left : ℕ) {yes_side no_side : Context → End Mark}
      → ((c : Context) → EndUpTo n (yes_side c)) → ((c : Context) → EndUpTo n (no_side c)) → EndUpTo n (branch 𝓜 place context x left yes_side no_side)
  unfolding branch
  branch_upto p context (cell v m) left y h = with_upto (at_upto p (𝓜.enter context m)) left (λ c. choose_upto (is_true v) c y h)

  module _ {place : ℕ} (p : place ≤ n) {a : Exp} (test : ExpUpTo n a) where
    tested_upto : (context : Context) (σ : Store Mark) (fuel : ℕ) {yes_side no_side : Context → ℕ → End Mark}
        → ((c : Context) (left : ℕ) → EndUpTo n (yes_side c left)) → ((c : Context) (left : ℕ) → EndUpTo n (no_side c left))
        → EndUpTo n (tested 𝓜 place a context σ fuel yes_side no_side)
    unfolding tested
    tested_upto context σ fuel y h = spend_upto p fuel (λ left. with_upto (eval_upto test σ) left (λ x. branch_upto p context x left (λ c. y c left) (λ c. h c left)))

    rounds_upto : {body : Context → Store Mark → ℕ → End Mark} → ((c : Context) (σ : Store Mark) (fuel : ℕ) → EndUpTo n (body c σ fuel))
        → (bound : ℕ) (context : Context) (σ : Store Mark) (fuel : ℕ) → EndUpTo n (rounds 𝓜 place a body bound context σ fuel)
    unfolding rounds
    rounds_upto ends zero context σ fuel = upto_spent p
    rounds_upto ends (suc bound) context σ fuel =
        tested_upto context σ fuel (λ c left. bind_upto (ends _ σ left) (rounds_upto ends bound c)) (λ c left. upto_done)

  -- a run stops at a place of its command
  pub exec_upto : {c : Cmd} → CmdUpTo n c → (context : Context) (σ : Store Mark) (fuel : ℕ) → EndUpTo n (exec 𝓜 c context σ fuel)
  unfolding exec_by
  exec_upto (a_skip p) context σ fuel = spend_upto p fuel (λ left. upto_done)
  exec_upto (an_assign {place} {i} p b) context σ fuel =
      spend_upto p fuel (λ left. with_upto (eval_upto b σ) left (λ x. with_upto (updated_upto p context (σ i) x) left (λ k. upto_done)))
  exec_upto (a_sequence a b) context σ fuel = bind_upto (exec_upto a context σ fuel) (exec_upto b context)
  exec_upto (an_if p a b c) context σ fuel = tested_upto p a context σ fuel (λ k left. exec_upto b k σ left) (λ k left. exec_upto c k σ left)
  exec_upto (a_while p a b) context σ fuel = rounds_upto p a (exec_upto b) fuel context σ fuel
