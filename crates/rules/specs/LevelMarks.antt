-- The marks of document 01 in a run, in strict and in permissive mode.
use Rattle.std.specs.Prelude.{ℕ, Bool, true, false}
use Rattle.levels.specs.Lattice.{Lattice}
use Rattle.store.specs.declared.Mode.{Mode}
use Rattle.store.specs.declared.Mode.TheVariants.{Strict, Permissive}
use Rattle.store.specs.Marks.{Mark, whole, partial, level_of}
use Rattle.rules.specs.Ends.{not_below, partial_test, Try, fine, fails}
use Rattle.rules.specs.Rules.{Marking}

module _ (𝓛 : Lattice) where
  -- An operator's mark is the join of both levels, partial if either is.
  unfoldable pub joined : Mark → Mark → Mark
  joined (whole a) (whole b) = whole (𝓛.join a b)
  joined (whole a) (partial b) = partial (𝓛.join a b)
  joined (partial a) (whole b) = partial (𝓛.join a b)
  joined (partial a) (partial b) = partial (𝓛.join a b)

  -- a partial test stops the run; else the body runs in the context joined with the test's level
  unfoldable pub entered : ℕ → Mark → Try ℕ
  entered context (whole a) = fine (𝓛.join context a)
  entered context (partial a) = fails partial_test

  -- If pc lies at or below A: new mark is m joined with pc, and it is partial only if m is. Otherwise strict mode stops, and permissive mode
  -- stores the value with the meet of pc and A, partial, whatever m is.
  unfoldable pub stored : Mode → Bool → ℕ → ℕ → Mark → Try Mark
  stored mode true context A m = fine (joined m (whole context))
  stored Strict false context A m = fails not_below
  stored Permissive false context A m = fine (partial (𝓛.meet context A))

  -- A constant is whole BOT. Seal gives whole TOP. The run starts with context BOT. What an assignment leaves is a rule over pc, the field's mark and m.
  abbrev pub marking_by : (ℕ → Mark → Mark → Try Mark) → Marking Mark Mark ℕ
  marking_by leaves = record {
    constant = whole 𝓛.bot;
    sealed = whole 𝓛.top;
    start = 𝓛.bot;
    read = λ i m. m;
    join = joined;
    enter = entered;
    store = λ place. leaves;
  }

  -- to a field whose mark has level A
  abbrev pub leaving : (Bool → ℕ → ℕ → Mark → Try Mark) → ℕ → Mark → Mark → Try Mark
  leaving rule context old m = rule (𝓛.le context (level_of old)) context (level_of old) m

  abbrev pub marking : Mode → Marking Mark Mark ℕ
  marking mode = marking_by (leaving (stored mode))
