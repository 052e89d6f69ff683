-- What demand 2 shuts out, though demand 3 alone would let most of it pass: a monitor that refuses all sheets, runs or requests, a load that passes
-- everything, a call with a fixed answer, a run that hands the start store back, that runs the first command and skips the rest, or that invents its units.
-- A call is what meets its contract: the word that it answers, and the output that it leaves, for everything that comes in.
use Rattle.std.specs.Prelude.{ℕ, ◌+◌, ◌≡◌, List, [], ◌∷◌, ◌++◌, length, get_or, take}
use Rattle.std.proofs.Common.{arith, sym, ap, ◌∙◌}
use Rattle.std.proofs.Math.Path.{refl}
use Rattle.value.specs.Values.{operating}
use Rattle.value.specs.Bytes.{of_bits, bits_of, bytes_of}
use Rattle.basis.specs.Numbers as numbers
use Rattle.basis.specs.declared.answer.Answer.{Answer}
use Rattle.basis.specs.Answer.{word_of, answer_in}
use Rattle.levels.specs.Lattice.{lattice}
use Rattle.sections.specs.Sections.{levels_of}
use Rattle.sheet.specs.Trees.{Cmd, sequence}
use Rattle.sheet.specs.Load.{field_count, program_of}
use Rattle.store.specs.Cells.{Store}
use Rattle.store.specs.Marks.{Mark, whole, mode_of}
use Rattle.store.specs.Stores.{entry_at, store_of, store_bytes}
use Rattle.rules.specs.Ends.{done}
use Rattle.rules.specs.Rules.{exec}
use Rattle.rules.specs.LevelMarks.{marking}
use Rattle.beltuqash.specs.Calls.{load, run, hand_out, Tells, Yields, calling}
use Rattle.beltuqash.proofs.Unique.{word_tells, within-fits, run-within}
use Rattle.secrecy.specs.Flag.{entry, flag_sheet, store_at}

-- the number that a word tells
abbrev number_told : ℕ → ℕ
number_told word = (answer_in word).number

-- ── load ────────────────────────────────────────────────────────────────────────────────────

abbrev Load : (List ℕ → ℕ) → Type 0
Load f = (sheet : List ℕ) → Tells (load sheet) (f sheet)

flag-passes : word_of (load flag_sheet) ≡ 0
unfolding flag_sheet calling
flag-passes = refl

nothing-refused : word_of (load []) ≡ numbers.sheet_length
unfolding calling
nothing-refused = refl

module _ (f : List ℕ → ℕ) (meets : Load f) where
  pub refuses-all-sheets : ((sheet : List ℕ) → number_told (f sheet) ≡ numbers.done → ⊥) → ⊥
  refuses-all-sheets refuses = refuses flag_sheet (omega (arith, meets flag_sheet, flag-passes))

  pub passes_everything : ((sheet : List ℕ) → number_told (f sheet) ≡ numbers.done) → ⊥
  passes_everything passes = omega (arith, passes [], meets [], nothing-refused)

  pub fixed_load : (word : ℕ) → ((sheet : List ℕ) → f sheet ≡ word) → ⊥
  fixed_load word fixed = omega (arith, fixed flag_sheet, fixed [], meets flag_sheet, meets [], flag-passes, nothing-refused)

-- ── run ─────────────────────────────────────────────────────────────────────────────────────

abbrev Run : (List ℕ → List ℕ → ℕ → ℕ → List ℕ → ℕ) → Type 0
Run f = (sheet store : List ℕ) (mode fuel : ℕ) (out : List ℕ) → Tells (run sheet store mode fuel out).answer (f sheet store mode fuel out)

-- number 0 and 6 units, in strict mode at cost 600
flag-runs : word_of (run flag_sheet (store_at 600) 0 1000 (store_at 600)).answer ≡ 25769803776
unfolding flag_sheet store_at operating bits_of bytes_of calling
flag-runs = refl

mode_refused : word_of (run flag_sheet (store_at 600) 2 1000 (store_at 600)).answer ≡ numbers.mode_or_fuel
unfolding calling
mode_refused = refl

-- flag, q and cost at the end of a run: flag and cost as they were
q_at : ℕ → List ℕ
q_at n = (3 ∷ 0 ∷ []) ++ entry (whole 0) 0 ++ entry (whole 0) n ++ entry (whole 1) 600

start_is : store_at 600 ≡ q_at 0
unfolding store_at q_at
start_is = refl

module _ (f : List ℕ → List ℕ → ℕ → ℕ → List ℕ → ℕ) (meets : Run f) where
  pub refuses-all-runs : ((sheet store : List ℕ) (mode fuel : ℕ) (out : List ℕ) → number_told (f sheet store mode fuel out) ≡ numbers.done → ⊥) → ⊥
  refuses-all-runs refuses = refuses flag_sheet (store_at 600) 0 1000 (store_at 600) (omega (arith, meets flag_sheet (store_at 600) 0 1000 (store_at 600), flag-runs))

  pub fixed_run : (word : ℕ) → ((sheet store : List ℕ) (mode fuel : ℕ) (out : List ℕ) → f sheet store mode fuel out ≡ word) → ⊥
  fixed_run word fixed =
      let done : 25769803776 ≡ word = sym (meets _ _ _ _ _ ∙ flag-runs) ∙ fixed _ _ _ _ _ in
      let refused : numbers.mode_or_fuel ≡ word = sym (meets _ _ _ _ _ ∙ mode_refused) ∙ fixed _ _ _ _ _ in
      omega arith

-- with the output that it leaves
abbrev Writer : (List ℕ → List ℕ → ℕ → ℕ → List ℕ → ℕ × List ℕ) → Type 0
Writer f = (sheet store : List ℕ) (mode fuel : ℕ) (out : List ℕ) → Yields (run sheet store mode fuel out) (f sheet store mode fuel out).0 (f sheet store mode fuel out).1

-- the flag sheet at cost 600 leaves q at 1, where it was 0 and its first command leaves it
flag-leaves : (run flag_sheet (store_at 600) 0 1000 (store_at 600)).out ≡ q_at 1
unfolding q_at flag_sheet store_at operating bits_of bytes_of calling
flag-leaves = refl

q_differs : take (length (store_at 600)) (q_at 1) ≡ q_at 0 → ⊥
unfolding q_at store_at operating bits_of bytes_of calling
q_differs e = let same = ap (λ (s : List ℕ). get_or s (entry_at 1 + 1) 0) e in omega (arith, same)

module _ (f : List ℕ → List ℕ → ℕ → ℕ → List ℕ → ℕ × List ℕ) (meets : Writer f) where
  -- of the flag sheet at cost 600, strict
  abbrev came : ℕ × List ℕ
  came = f flag_sheet (store_at 600) 0 1000 (store_at 600)

  finishes : number_told came.0 ≡ numbers.done
  finishes = omega (arith, (meets flag_sheet (store_at 600) 0 1000 (store_at 600)).0, flag-runs)

  leaves : came.1 ≡ q_at 1
  leaves = (meets flag_sheet (store_at 600) 0 1000 (store_at 600)).1 ∙ flag-leaves

  pub start_store_back : ((sheet store : List ℕ) (mode fuel : ℕ) (out : List ℕ) → number_told (f sheet store mode fuel out).0 ≡ numbers.done
      → take (length store) (f sheet store mode fuel out).1 ≡ store)
      → ⊥
  start_store_back back = q_differs (rw leaves at (back flag_sheet (store_at 600) 0 1000 (store_at 600) finishes) ∙ start_is)

  pub first_command_only : ((sheet store : List ℕ) (mode fuel : ℕ) (out : List ℕ) (first rest : Cmd) (σ : Store Mark) (left : ℕ) → program_of sheet ≡ sequence first rest
      → exec (marking (lattice (levels_of sheet)) (mode_of mode)) first (lattice (levels_of sheet)).bot (store_of store) fuel ≡ done σ left
      → number_told (f sheet store mode fuel out).0 ≡ numbers.done → take (length store) (f sheet store mode fuel out).1 ≡ store_bytes σ (field_count sheet))
      → ⊥
  unfolding q_at flag_sheet store_at operating of_bits bits_of bytes_of calling
  first_command_only only = q_differs (rw leaves at (only flag_sheet (store_at 600) 0 1000 (store_at 600) _ _ _ 999 refl refl finishes))

  -- tells other units than the rules spend
  pub units_invented : (sheet store : List ℕ) (mode fuel : ℕ) (out : List ℕ) → ((answer_in (f sheet store mode fuel out).0).units ≡ (run sheet store mode fuel out).answer.units → ⊥) → ⊥
  units_invented sheet store mode fuel out other =
      other (ap (λ (a : Answer). a.units) (ap answer_in (meets sheet store mode fuel out).0 ∙ word_tells _ (within-fits (run-within sheet store mode fuel out))))

-- ── hand-out ────────────────────────────────────────────────────────────────────────────────

abbrev HandOut : (List ℕ → List ℕ → ℕ → List ℕ → List ℕ → ℕ) → Type 0
HandOut f = (sheet store : List ℕ) (reader : ℕ) (request out : List ℕ) → Tells (hand_out sheet store reader request out).answer (f sheet store reader request out)

-- q, asked by a reader at level 0; and a request of no bytes
q_handed_out : word_of (hand_out flag_sheet (store_at 600) 0 (1 ∷ 0 ∷ 1 ∷ 0 ∷ []) (store_at 600)).answer ≡ 0
unfolding flag_sheet store_at operating bits_of bytes_of calling
q_handed_out = refl

request_refused : word_of (hand_out flag_sheet (store_at 600) 0 [] (store_at 600)).answer ≡ numbers.reader_or_request
unfolding flag_sheet store_at operating bits_of bytes_of calling
request_refused = refl

module _ (f : List ℕ → List ℕ → ℕ → List ℕ → List ℕ → ℕ) (meets : HandOut f) where
  pub refuses_all_requests : ((sheet store : List ℕ) (reader : ℕ) (request out : List ℕ) → number_told (f sheet store reader request out) ≡ numbers.done → ⊥) → ⊥
  refuses_all_requests refuses =
      refuses flag_sheet (store_at 600) 0 (1 ∷ 0 ∷ 1 ∷ 0 ∷ []) (store_at 600)
      (omega (arith, meets flag_sheet (store_at 600) 0 (1 ∷ 0 ∷ 1 ∷ 0 ∷ []) (store_at 600), q_handed_out))

  pub fixed_hand_out : (word : ℕ) → ((sheet store : List ℕ) (reader : ℕ) (request out : List ℕ) → f sheet store reader request out ≡ word) → ⊥
  fixed_hand_out word fixed =
      let done : 0 ≡ word = sym (meets _ _ _ _ _ ∙ q_handed_out) ∙ fixed _ _ _ _ _ in
      let refused : numbers.reader_or_request ≡ word = sym (meets _ _ _ _ _ ∙ request_refused) ∙ fixed _ _ _ _ _ in
      omega arith
