-- What a run does: document 01, "Values" and "Marks", and document 002, figures 2, 3 and 5, as a total function over trees. The marks are left
-- open: `Marking` lists what a run asks about them, and strict and permissive mode are two lists of answers.
use Rattle.std.specs.Prelude.{ℕ, zero, suc, cond, eqb, Ok, Err}
use Rattle.value.specs.Values.{Computed, operator_of, not_of, is_true}
use Rattle.value.specs.declared.Value.{Value}
use Rattle.value.specs.declared.ArithmeticError.TheVariants.{OutOfRange, DivisorZero}
use Rattle.sheet.specs.Trees.{Exp, constant, field, operator, not, seal, Cmd, skip, assign, sequence, if_else, while}
use Rattle.store.specs.Cells.{Cell, cell, Store}
use Rattle.rules.specs.Ends.{out_of_range, divisor_zero, Try, fine, fails, Result, gives, End, done, spent, at, and_then, with, choose, spend, bind}

-- what a run asks about marks: Mark is what a field carries, Seen what an expression's result carries, Context what a command runs in
pub record Marking (Mark Seen Context : Type 0) : Type 0 where
  -- of a constant; of a seal, whatever stood there; the context a run starts with
  pub constant : Seen
  pub sealed : Seen
  pub start : Context
  -- of a field read, by its number; of an operator
  pub read : ℕ → Mark → Seen
  pub join : Seen → Seen → Seen
  -- the context after a test, or 16
  pub enter : Context → Seen → Try Context
  -- the mark that the assignment at this node leaves on a field with the old mark, or 15
  pub store : ℕ → Context → Mark → Seen → Try Mark

-- field i is given a cell
unfoldable pub put : {Mark : Type 0} → ℕ → Cell Mark → Store Mark → Store Mark
put i c σ j = cond (eqb i j) c (σ j)

-- an operator's result, or why there is none
unfoldable pub computed : Computed → Try Value
computed (Ok v) = fine v
computed (Err (OutOfRange z)) = fails out_of_range
computed (Err DivisorZero) = fails divisor_zero

module _ {Mark Seen Context : Type 0} (𝓜 : Marking Mark Seen Context) where
  unfoldable pub reading : ℕ → Cell Mark → Cell Seen
  reading i (cell v m) = cell v (𝓜.read i m)

  unfoldable pub operated : ℕ → ℕ → Cell Seen → Cell Seen → Result (Cell Seen)
  operated place op (cell v m) (cell w k) = and_then (at place (computed (operator_of op v w))) (λ u. gives (cell u (𝓜.join m k)))

  -- "Not" keeps the mark
  unfoldable pub inverted : Cell Seen → Cell Seen
  inverted (cell v m) = cell (not_of v) m

  unfoldable pub sealing : Cell Seen → Cell Seen
  sealing (cell v m) = cell v 𝓜.sealed

  -- Left is worked out before right, and the first stop met is the one told.
  unfoldable pub eval : Exp → Store Mark → Result (Cell Seen)
  eval (constant v) σ = gives (cell v 𝓜.constant)
  eval (field i) σ = gives (reading i (σ i))
  eval (operator place op a b) σ = and_then (eval a σ) (λ x. and_then (eval b σ) (operated place op x))
  eval (not a) σ = and_then (eval a σ) (λ x. gives (inverted x))
  eval (seal a) σ = and_then (eval a σ) (λ x. gives (sealing x))

  -- a field's new cell
  unfoldable pub updated : ℕ → Context → Cell Mark → Cell Seen → Result (Cell Mark)
  updated place context (cell w old) (cell v m) = and_then (at place (𝓜.store place context old m)) (λ k. gives (cell v k))

  -- the test's value chooses, in the context after the test
  unfoldable pub branch : ℕ → Context → Cell Seen → ℕ → (Context → End Mark) → (Context → End Mark) → End Mark
  branch place context (cell v m) left yes_side no_side = with (at place (𝓜.enter context m)) left (choose (is_true v) yes_side no_side)

  -- a test: its unit, its expression, its context
  unfoldable pub tested : ℕ → Exp → Context → Store Mark → ℕ → (Context → ℕ → End Mark) → (Context → ℕ → End Mark) → End Mark
  tested place a context σ fuel yes_side no_side =
      spend place fuel (λ left. with (eval a σ) left (λ x. branch place context x left (λ c. yes_side c left) (λ c. no_side c left)))

  -- the rounds of a while: the first number bounds them, and the fuel ends them before it does. The joined context is kept.
  unfoldable pub rounds : ℕ → Exp → (Context → Store Mark → ℕ → End Mark) → ℕ → Context → Store Mark → ℕ → End Mark
  rounds place a body zero context σ fuel = spent place
  rounds place a body (suc bound) context σ fuel =
      tested place a context σ fuel (λ c left. bind (body c σ left) (rounds place a body bound c)) (λ c left. done σ left)

  -- how a while goes on, by its place, its test and its body
  abbrev pub Loop : Type 0
  Loop = ℕ → Exp → (Context → Store Mark → ℕ → End Mark) → Context → Store Mark → ℕ → End Mark

  -- a command, by how a while goes on
  unfoldable pub exec_by : Loop → Cmd → Context → Store Mark → ℕ → End Mark
  exec_by loop (skip place) context σ fuel = spend place fuel (λ left. done σ left)
  exec_by loop (assign place i b) context σ fuel =
      spend place fuel (λ left. with (eval b σ) left (λ x. with (updated place context (σ i) x) left (λ k. done (put i k σ) left)))
  exec_by loop (sequence a b) context σ fuel = bind (exec_by loop a context σ fuel) (exec_by loop b context)
  exec_by loop (if_else place a b c) context σ fuel = tested place a context σ fuel (λ k left. exec_by loop b k σ left) (λ k left. exec_by loop c k σ left)
  exec_by loop (while place a b) context σ fuel = loop place a (exec_by loop b) context σ fuel

  -- a while goes on by its rounds, which the fuel bounds
  abbrev pub looping : Loop
  looping place a body context σ fuel = rounds place a body fuel context σ fuel

  abbrev pub exec : Cmd → Context → Store Mark → ℕ → End Mark
  exec = exec_by looping

-- one name that opens the rules, so that worked runs compute
unfoldable pub running : Unit {0}
unfolding put at and_then with choose spend bind computed reading operated inverted sealing eval updated branch tested rounds exec_by
running = tt
