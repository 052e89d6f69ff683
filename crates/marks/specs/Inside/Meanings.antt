-- What the numbers of marks mean. A run's functions ask about marks by their numbers, through this crate's questions alone, and the run
-- says which marks they are. Nothing else in a run knows: each contract reads "whatever the numbers of this run mean".
use Rattle.std.specs.Prelude.{ℕ, Result as Outcome, ◌<◌, ◌≡◌, true, List}
use Rattle.levels.specs.Levels.{count, right, lowest_of, highest_of}
use Rattle.levels.specs.Lattice.{lattice}
use Rattle.rules.specs.Rules.{Marking}
use Rattle.rules.specs.Ends.{at}
use Rattle.rules.specs.LevelMarks.{marking}
use Rattle.store.specs.Marks.{Mark, mode_of, mark_of, mark_known}
use Rattle.marks.specs.Inside.Words.{Below, Place, Asked}
use Rattle.sections.specs.declared.Parts.{Parts}
use Rattle.marks.specs.declared.Stop.{Stop as Halt}
use Rattle.marks.specs.declared.Run.{Run}

pub record Meaning : Type 1 where
  -- the marks, and the rules' answers about them
  pub Mark : Type 0
  pub Seen : Type 0
  pub Context : Type 0
  pub marking : Marking Mark Seen Context
  -- what the numbers stand for, of a field, of an expression and of a context
  pub mark_of : ℕ → Mark
  pub seen_of : ℕ → Seen
  pub context_of : ℕ → Context
  -- the numbers that a run may meet
  pub KnownMark : ℕ → Type 0
  pub KnownSeen : ℕ → Type 0
  pub KnownContext : ℕ → Type 0
  -- what the questions rely on
  pub Askable : Type 0

-- ── the questions ───────────────────────────────────────────────────────────────────────────

module _ (𝓢 : Meaning) where
  -- the number r stands for the mark s of an expression
  pub record Sees (s : 𝓢.Seen) (r : ℕ) : Type 0 where
    pub is : 𝓢.seen_of r ≡ s
    pub known : 𝓢.KnownSeen r
    pub few : Below r

  abbrev pub Constant : ℕ → Type 0
  Constant r = Sees 𝓢.marking.constant r

  abbrev pub Sealed : ℕ → Type 0
  Sealed r = Sees 𝓢.marking.sealed r

  abbrev pub Read : ℕ → ℕ → ℕ → Type 0
  Read i m r = Sees (𝓢.marking.read i (𝓢.mark_of m)) r

  abbrev pub Joined : ℕ → ℕ → ℕ → Type 0
  Joined m k r = Sees (𝓢.marking.join (𝓢.seen_of m) (𝓢.seen_of k)) r

  -- the context after the test at node n, or a stop there
  abbrev pub Entered : ℕ → ℕ → ℕ → Outcome ℕ Halt → Type 0
  Entered n context m r =
      Asked 𝓢.context_of (λ c. 𝓢.KnownContext c × Below c) (at n (𝓢.marking.enter (𝓢.context_of context) (𝓢.seen_of m))) r

  -- the mark that the assignment at node n leaves, or a stop there
  abbrev pub Stored : ℕ → ℕ → ℕ → ℕ → Outcome ℕ Halt → Type 0
  Stored n context old m r =
      Asked 𝓢.mark_of 𝓢.KnownMark (at n (𝓢.marking.store n (𝓢.context_of context) (𝓢.mark_of old) (𝓢.seen_of m))) r

  -- what each may be asked
  pub record Joins (m k : ℕ) : Type 0 where
    pub askable : 𝓢.Askable
    pub first : 𝓢.KnownSeen m
    pub second : 𝓢.KnownSeen k

  pub record Enters (n context m : ℕ) : Type 0 where
    pub askable : 𝓢.Askable
    pub context-known : 𝓢.KnownContext context
    pub seen : 𝓢.KnownSeen m
    pub few : Place n

  pub record Stores (n context old m : ℕ) : Type 0 where
    pub askable : 𝓢.Askable
    pub context-known : 𝓢.KnownContext context
    pub mark : 𝓢.KnownMark old
    pub seen : 𝓢.KnownSeen m
    pub few : Place n

-- ── levels ──────────────────────────────────────────────────────────────────────────────────

-- the rows of a run's levels
abbrev pub rows_in : Run → List ℕ
rows_in run = run.parts.levels.now

-- right rows, whose lowest and highest level the run names
pub record LevelRun (run : Run) : Type 0 where
  pub order : right (rows_in run) ≡ true
  pub lowest : run.lowest ≡ lowest_of (rows_in run)
  pub highest : run.highest ≡ highest_of (rows_in run)

-- two known marks
pub record TwoMarks (rows : List ℕ) (m k : ℕ) : Type 0 where
  pub first : mark_known (count rows) m ≡ true
  pub second : mark_known (count rows) k ≡ true

-- a context that is a level, and a known mark
pub record Over (rows : List ℕ) (context m : ℕ) : Type 0 where
  pub context-known : context < count rows
  pub mark : mark_known (count rows) m ≡ true

-- the number r stands for the mark m, and is known
abbrev pub StandsFor : List ℕ → Mark → ℕ → Type 0
StandsFor rows m r = (mark_of r ≡ m) × (mark_known (count rows) r ≡ true)

-- ── what the numbers of a run mean ──────────────────────────────────────────────────────────

-- A mark's number is its byte, and a context's number its level.
unfoldable pub meaning : Run → Meaning
meaning run = record {
  Mark = Mark;
  Seen = Mark;
  Context = ℕ;
  marking = marking (lattice (rows_in run)) run.mode;
  mark_of = mark_of;
  seen_of = mark_of;
  context_of = λ c. c;
  KnownMark = λ m. mark_known (count (rows_in run)) m ≡ true;
  KnownSeen = λ m. mark_known (count (rows_in run)) m ≡ true;
  KnownContext = λ c. c < count (rows_in run);
  Askable = LevelRun run;
}

-- the run over the parts of a sheet in a mode, by its number
pub record First (parts : Parts) (mode : ℕ) (run : Run) : Type 0 where
  pub parts-are : run.parts ≡ parts
  pub mode-is : run.mode ≡ mode_of mode
  pub level-run : LevelRun run
