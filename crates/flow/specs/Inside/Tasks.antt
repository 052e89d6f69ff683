-- What a run works on, and what its functions answer, whatever the numbers of marks mean. Only contracts inside the product cite it.
use Rattle.std.specs.Prelude.{ℕ, suc, ◌/◌, ◌≤◌, ◌≡◌, cond, List, length, get_or, eqb, ltb}
use Rattle.basis.specs.Numbers as numbers
use Rattle.value.specs.Values.{is_true}
use Rattle.nodes.specs.Nodes.{In, kind_at, op_at, slot_at}
use Rattle.nodes.specs.Inside.Formed.{WellFormed}
use Rattle.sheet.specs.Trees.{exp_at, cmd_at}
use Rattle.store.specs.Cells.{Store}
use Rattle.rules.specs.Ends.{End, done, spent, stopped, choose}
use Rattle.rules.specs.Rules.{operated, eval, tested, exec}
use Rattle.store.specs.Marks.{mark_of}
use Rattle.store.specs.Stores.{store_of}
use Rattle.marks.specs.Inside.Words.{stop_from, blank, value_in, mark_in, cell_in, work_of, Stops, Goes, left_in, place_in, number_in, why_of, Numbered, Answers}
use Rattle.marks.specs.Inside.Meanings.{meaning}
use Rattle.marks.specs.declared.Cell.{Cell}
use Rattle.marks.specs.declared.Run.{Run}

-- a work store filled from a store: the same cells
pub record Fetched (store : List ℕ) (work : List Cell) : Type 0 where
  pub is : work_of mark_of work ≡ store_of store
  pub long : length work ≡ 64

-- what a run works on: well-formed nodes for the counts, and a cell with a known mark for each field, blank ones beyond
pub record Ready (run : Run) (work : List Cell) : Type 0 where
  pub askable : (meaning run).Askable
  pub fields : ℕ
  pub few-fields : fields ≤ 64
  pub formed : WellFormed run.parts.nodes.now fields (length run.parts.constants.now / 4)
  pub few-nodes : length run.parts.nodes.now ≤ 8192
  pub long : length work ≡ 64
  pub words : (i : ℕ) → (meaning run).KnownMark (get_or work i blank).mark

-- ── expressions ─────────────────────────────────────────────────────────────────────────────

-- node n is an expression
pub record ExpIn (run : Run) (work : List Cell) (n : ℕ) : Type 0 where
  pub ready : Ready run work
  pub inside : In run.parts.nodes.now n
  pub sort : kind_at run.parts.nodes.now n ≤ 4

-- the word r has what the expression at node n gives
abbrev pub Evaluated : Run → List Cell → ℕ → ℕ → Type 0
Evaluated run work n r =
    let 𝓢 = meaning run in
    Answers (cell_in 𝓢.seen_of) (λ w. 𝓢.KnownSeen (mark_in w)) (eval 𝓢.marking (exp_at run.parts.constants.now run.parts.nodes.now n) (work_of 𝓢.mark_of work)) r

-- the word r has what the operator at node n gives on the values in two words
abbrev pub Operated : Run → ℕ → ℕ → ℕ → ℕ → Type 0
Operated run n left right r =
    let 𝓢 = meaning run in
    Answers (cell_in 𝓢.seen_of) (λ w. 𝓢.KnownSeen (mark_in w))
    (operated 𝓢.marking n (op_at run.parts.nodes.now n) (cell_in 𝓢.seen_of left) (cell_in 𝓢.seen_of right)) r

-- ── commands ────────────────────────────────────────────────────────────────────────────────

module _ {Mark : Type 0} where
  -- a stop, with the fuel left; else how the run goes on
  unfoldable pub or_stop : ℕ → ℕ → End Mark → End Mark
  or_stop word left next = cond (ltb word stop_from) next (stopped (why_of (number_in word)) (place_in word) left)

  -- a test's value, with the context after it in the mark's place
  unfoldable pub test_of : {Context : Type 0} → (ℕ → Context) → ℕ → ℕ → (Context → ℕ → End Mark) → (Context → ℕ → End Mark) → End Mark
  test_of of word left yes_side no_side = or_stop word left (choose (is_true (value_in word)) (λ c. yes_side c left) (λ c. no_side c left) (of (mark_in word)))

  -- a run that is done has the fuel left; one that stops has it too
  unfoldable pub stop_of : ℕ → End Mark
  stop_of word = cond (eqb (number_in word) numbers.fuel_spent) (spent (place_in word)) (stopped (why_of (number_in word)) (place_in word) (left_in word))

  unfoldable pub end_of : ℕ → Store Mark → End Mark
  end_of word σ = cond (ltb word stop_from) (done σ (left_in word)) (stop_of word)

-- a stop has a number from 12 to 16, and where the fuel is spent nothing is left
pub record Told (word : ℕ) : Type 0 where
  pub least : numbers.fuel_spent ≤ number_in word
  pub most : number_in word ≤ numbers.partial_test
  pub nothing : number_in word ≡ numbers.fuel_spent → left_in word ≡ 0

-- node n is a command, and the context is known
pub record CmdIn (run : Run) (work : List Cell) (n context : ℕ) : Type 0 where
  pub ready : Ready run work
  pub inside : In run.parts.nodes.now n
  pub sort : 5 ≤ kind_at run.parts.nodes.now n
  pub context-known : (meaning run).KnownContext context

-- the word r has what the test of node n comes to, once its unit is spent
pub record Tested (run : Run) (work : List Cell) (n context r : ℕ) : Type 0 where
  pub is : (left : ℕ) (yes_side no_side : (meaning run).Context → ℕ → End (meaning run).Mark)
      → test_of (meaning run).context_of r left yes_side no_side
      ≡ tested (meaning run).marking n (exp_at run.parts.constants.now run.parts.nodes.now (slot_at run.parts.nodes.now n 0))
      ((meaning run).context_of context) (work_of (meaning run).mark_of work) (suc left) yes_side no_side
  pub context-known : Goes r → (meaning run).KnownContext (mark_in r)
  pub number : Numbered r

-- the word r and the work store have what the assignment at node n comes to, once its unit is spent
pub record Assigned (run : Run) (work : List Cell) (n context : ℕ) (after : List Cell) (r : ℕ) : Type 0 where
  pub is : (left : ℕ) → or_stop r left (done (work_of (meaning run).mark_of after) left)
      ≡ exec (meaning run).marking (cmd_at run.parts.constants.now run.parts.nodes.now n)
      ((meaning run).context_of context) (work_of (meaning run).mark_of work) (suc left)
  pub ready : Ready run after
  pub number : Numbered r

-- the word r and the work store have what the command at node n comes to
pub record Ran (run : Run) (work : List Cell) (n context fuel : ℕ) (after : List Cell) (r : ℕ) : Type 0 where
  pub is : end_of r (work_of (meaning run).mark_of after)
      ≡ exec (meaning run).marking (cmd_at run.parts.constants.now run.parts.nodes.now n)
      ((meaning run).context_of context) (work_of (meaning run).mark_of work) fuel
  pub ready : Ready run after
  pub told : Stops r → Told r
