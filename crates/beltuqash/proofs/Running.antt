-- A run once all checks have passed: what it is given, and what its word says.
use Prim.Native.Nat.{ℕ, zero, suc, ◌+◌, ◌-◌, ◌≤◌, ◌<◌}
use native.Mathlib.Omega.{arith}
use mathlib.Core.Path.{◌≡◌, refl, sym, ap, ◌∙◌}
use mathlib.Core.Bool.{true, false}
use mathlib.Core.List.{List, [], ◌∷◌}
use borrow.Author.Tests.{ltb-true, ltb-false, eqb-true, eqb-false}
use lib.Dec.{eqb, ltb}
use lib.ListN.{length, get_or, get_or-eq_default}
use Rattle.basis.specs.Numbers as numbers
use Rattle.basis.proofs.Tests.{split}
use Rattle.levels.specs.Levels.{count, right, lowest_of}
use Rattle.levels.specs.Lattice.{lattice}
use Rattle.levels.proofs.Bounds.{lowest_is}
use Rattle.sections.specs.Sections.{levels_of, fields_of, constants_of, nodes_of}
use Rattle.sheet.specs.Load.{field_count, last_of, program_of}
use Rattle.rules.specs.Ends.{stop_number, out_of_range, divisor_zero, not_below, partial_test, End, done, stopped}
use Rattle.rules.specs.Rules.{exec}
use Rattle.store.specs.Marks.{Mark, mode_of, mark_of}
use Rattle.rules.specs.LevelMarks.{marking}
use Rattle.store.specs.Stores.{mark_at, store_length, store_of}
use Rattle.marks.specs.Inside.Words.{blank, work_of, Goes, Stops, left_in, place_in, number_in, why_of}
use Rattle.marks.specs.Inside.Meanings.{rows_in, LevelRun, meaning, First}
use Rattle.marks.specs.declared.Cell.{Cell as Held}
use Rattle.marks.specs.declared.Run.{Run}
use Rattle.sections.specs.declared.Parts.{Parts}
use Rattle.flow.specs.Inside.Tasks.{Fetched, stop_of, end_of, Told, CmdIn, Ran}
use Rattle.store.proofs.Marks.{known_is, marks-known}
use Rattle.marks.proofs.Marking.{level-mark}
use Rattle.flow.proofs.Fetching.{fetched_mark}
use Rattle.flow.proofs.Ends.{end_done, end_stop}
use Rattle.rules.proofs.Units.{units_done, units_stopped}
use Rattle.basis.specs.Answer.{answer}
use Rattle.beltuqash.specs.Calls.{ended, run_from}
use Rattle.beltuqash.specs.Inside.Given.{Given}
use Rattle.beltuqash.proofs.Checking.{few-fields, nodes-long, fits-long}

-- ── a word that stops ───────────────────────────────────────────────────────────────────────

why_number : (k : ℕ) → k ≤ 3 → stop_number (get_or (out_of_range ∷ divisor_zero ∷ not_below ∷ []) k partial_test) ≡ numbers.out_of_range + k
why_number zero h = refl
why_number (suc zero) h = refl
why_number (suc (suc zero)) h = refl
why_number (suc (suc (suc zero))) h = refl
why_number (suc (suc (suc (suc k)))) h = absurd (omega arith)

number_back : (n : ℕ) → numbers.out_of_range ≤ n → n ≤ numbers.partial_test → stop_number (why_of n) ≡ n
unfolding why_of
number_back n least most = why_number (n - numbers.out_of_range) (omega arith) ∙ omega arith

other_stop : {M : Type 0} (word : ℕ) → eqb (number_in word) numbers.fuel_spent ≡ false → stop_of {Mark = M} word ≡ stopped (why_of (number_in word)) (place_in word) (left_in word)
unfolding stop_of
other_stop word e = rw e

module _ (word fuel : ℕ) (told : Told word) where
  module _ (fields : ℕ) (out : List ℕ) where
    pub stop_answer : (ended fields fuel out (stop_of word)).answer ≡ answer (number_in word) (place_in word) (fuel - left_in word)
    unfolding ended stop_of
    stop_answer =
        split (eqb (number_in word) numbers.fuel_spent)
        (λ e.
        let spent : number_in word ≡ numbers.fuel_spent = eqb-true _ _ e in
        let all : fuel - left_in word ≡ fuel = omega (arith, told.nothing spent) in
        rw (e, spent, all))
        (λ e.
        let other : number_in word ≡ numbers.fuel_spent → ⊥ = eqb-false _ _ e in
        let least = told.least in
        let met : numbers.out_of_range ≤ number_in word = omega arith in
        rw (e, number_back _ met told.most))

    pub stop_out : (ended fields fuel out (stop_of word)).out ≡ out
    unfolding ended stop_of
    stop_out = split (eqb (number_in word) numbers.fuel_spent) (λ e. rw e) (λ e. rw e)

-- ── a run from a store that fits ────────────────────────────────────────────────────────────

-- the run over a sheet in a mode
pub record Starts (sheet : List ℕ) (mode : ℕ) (run : Run) : Type 0 where
  pub levels : rows_in run ≡ levels_of sheet
  pub fields : run.parts.fields.now ≡ fields_of sheet
  pub constants : run.parts.constants.now ≡ constants_of sheet
  pub nodes : run.parts.nodes.now ≡ nodes_of sheet
  pub mode-is : run.mode ≡ mode_of mode
  pub level-run : LevelRun run

pub starts : {sheet : List ℕ} {mode : ℕ} {parts : Parts} {run : Run} → First parts mode run → parts.levels.now ≡ levels_of sheet → parts.fields.now ≡ fields_of sheet
    → parts.constants.now ≡ constants_of sheet → parts.nodes.now ≡ nodes_of sheet → Starts sheet mode run
starts first levels fields constants nodes =
    let are = first.parts-are in
    record {
      levels = ap (λ (p : Parts). p.levels.now) are ∙ levels;
      fields = ap (λ (p : Parts). p.fields.now) are ∙ fields;
      constants = ap (λ (p : Parts). p.constants.now) are ∙ constants;
      nodes = ap (λ (p : Parts). p.nodes.now) are ∙ nodes;
      mode-is = first.mode-is;
      level-run = first.level-run;
    }

bot-is : (rows : List ℕ) → lowest_of rows ≡ (lattice rows).bot
unfolding lattice
bot-is rows = refl

-- a store's mark beyond its fields reads as 0, and 0 is a level
blank-mark : (store : List ℕ) (fields : ℕ) → length store ≡ store_length fields → (i : ℕ) → fields ≤ i → mark_at store i ≡ 0
blank-mark store fields long i beyond = get_or-eq_default store 0 (omega arith)

some_level : (rows : List ℕ) → right rows ≡ true → 0 < count rows
some_level rows h = omega (arith, (lowest_is rows h).level)

-- the last command may be done
pub task_in : {sheet store : List ℕ} {mode fuel room : ℕ} {work : List Held} {run : Run} → Given sheet store mode fuel room → Fetched store work → Starts sheet mode run
    → CmdIn run work (last_of run.parts.nodes.now) run.lowest
unfolding meaning
task_in {sheet} {store} {mode} {fuel} {room} {work} given fetched s =
    let taken = given.taken in
    let loaded = taken.loaded in
    let rows = levels_of sheet in
    let (some, few) = nodes-long sheet loaded in
    record {
      ready = record {
        askable = s.level-run;
        fields = field_count sheet;
        few-fields = few-fields sheet loaded;
        formed = rw (s.nodes, s.constants) loaded.nodes;
        few-nodes = rw s.nodes few;
        long = fetched.long;
        words = λ i. rw (fetched_mark fetched i, s.levels) (split (ltb i (field_count sheet))
            (λ less. marks-known (mode_of mode) (count rows) (field_count sheet) store taken.marks i (ltb-true i _ less))
            (λ more. rw (blank-mark store (field_count sheet) (fits-long _ _ taken.fits) i (ltb-false i _ more)) (level-mark rows loaded.levels 0 (some_level rows loaded.levels)).1));
      };
      inside = rw s.nodes (omega arith);
      sort = rw s.nodes loaded.command;
      context-known = rw (s.level-run.lowest, s.levels) (lowest_is rows loaded.levels).level;
    }

-- the last command was done, on a work store
pub record Done (sheet store : List ℕ) (mode : ℕ) (run : Run) (work : List Held) (fuel : ℕ) (after : List Held) (word : ℕ) : Type 0 where
  pub same : work_of mark_of work ≡ store_of store
  pub starts : Starts sheet mode run
  pub ran : Ran run work (last_of run.parts.nodes.now) run.lowest fuel after word

module _ {sheet store : List ℕ} {mode : ℕ} {run : Run} {work : List Held} {fuel : ℕ} {after : List Held} {word : ℕ} (d : Done sheet store mode run work fuel after word) where
  abbrev executed : End Mark
  executed = exec (marking (lattice (levels_of sheet)) (mode_of mode)) (program_of sheet) (lattice (levels_of sheet)).bot (store_of store) fuel

  runs_as : end_of word (work_of mark_of after) ≡ executed
  unfolding meaning
  runs_as =
      let s = d.starts in
      rw (s.mode-is, s.level-run.lowest, s.levels, s.constants, s.nodes, bot-is (levels_of sheet), d.same) at d.ran.is

  -- every mark is a byte
  pub marks-few : (i : ℕ) → i < field_count sheet → (get_or after i blank).mark < 256
  unfolding meaning
  marks-few i h = omega (arith, (known_is _ _ (d.ran.ready.words i)).0)

  module _ (low : Goes word) where
    ends-done : executed ≡ done (work_of mark_of after) (left_in word)
    ends-done = sym runs_as ∙ end_done word (work_of mark_of after) low

    pub left-done : left_in word ≤ fuel
    left-done = units_done _ _ _ _ fuel _ _ ends-done

    pub runs_done : (out : List ℕ) → run_from sheet store mode fuel out ≡ ended (field_count sheet) fuel out (done (work_of mark_of after) (left_in word))
    unfolding run_from
    runs_done out = ap (ended (field_count sheet) fuel out) ends-done

  module _ (high : Stops word) where
    ends-stopped : executed ≡ stop_of word
    ends-stopped = sym runs_as ∙ end_stop word (work_of mark_of after) high

    pub left-stopped : left_in word ≤ fuel
    left-stopped =
        split (eqb (number_in word) numbers.fuel_spent)
        (λ e. omega (arith, (d.ran.told high).nothing (eqb-true _ _ e)))
        (λ e. units_stopped _ _ _ _ fuel _ _ _ (ends-stopped ∙ other_stop word e))

    pub runs-stopped : (out : List ℕ) → run_from sheet store mode fuel out ≡ ended (field_count sheet) fuel out (stop_of word)
    unfolding run_from
    runs-stopped out = ap (ended (field_count sheet) fuel out) ends-stopped
