-- The shop's calls: what each answers and what it leaves in lent memory, from what comes in. Each is a list of checks, in the order of document 01's table,
-- and what comes after them.
use Rattle.std.specs.Prelude.{ℕ, ◌-◌, ◌≡◌, ◌&&◌, List, [], ◌∷◌, ◌++◌, length, ltb, leb, is_ok}
use Rattle.basis.specs.Numbers as numbers
use Rattle.basis.specs.declared.answer.Answer.{Answer}
use Rattle.basis.specs.Answer.{answer, success, word_of, Outcome}
use Rattle.basis.specs.Checks.{Check, check, all_hold, tells, checked}
use Rattle.levels.specs.Levels.{count}
use Rattle.levels.specs.Lattice.{lattice}
use Rattle.sections.specs.Verdict.{verdict_number, verdict_place}
use Rattle.sections.specs.Sections.{levels_of}
use Rattle.sheet.specs.Load.{field_count, program_of, load_of, judging}
use Rattle.store.specs.declared.Mode.{Mode}
use Rattle.store.specs.declared.Mode.TheVariants.{Permissive}
use Rattle.store.specs.Marks.{Mark, mark_of, mode_of, mark_known}
use Rattle.store.specs.Stores.{store_length, cell_at, store_of, entry_of, store_entries, store_bytes, store_over, store_fits, marks_right}
use Rattle.rules.specs.Ends.{stop_number, End, done, spent, stopped}
use Rattle.rules.specs.Rules.{exec, running}
use Rattle.rules.specs.LevelMarks.{joined, entered, stored, marking}
use Rattle.handout.specs.Requests.{asked_count, request_right}
use Rattle.handout.specs.Answers.{answer_length, answer_over, first_refusing, answering}

-- ── the checks ──────────────────────────────────────────────────────────────────────────────

-- 1 to 7 and 19 to 22: what load tells of a sheet
abbrev pub sheet_checks : List ℕ → List Check
sheet_checks sheet = check (is_ok (load_of sheet)) (verdict_number (load_of sheet)) (verdict_place (load_of sheet)) ∷ []

abbrev pub store_checks : List ℕ → List ℕ → Mode → List Check
store_checks sheet store mode =
    check (store_fits (field_count sheet) store) numbers.store_misfit 0  -- 8: store length or count doesn't fit the sheet
    ∷ check (marks_right mode (count (levels_of sheet)) (field_count sheet) store) numbers.mark_wrong 0  -- 9: a mark above 31 or its level unknown; in a strict run also a partial mark
    ∷ []

-- of a run, whose output has so much room
abbrev pub run_checks : List ℕ → List ℕ → ℕ → ℕ → ℕ → List Check
run_checks sheet store mode fuel room =
    (check (leb mode 1 && leb fuel 1000000) numbers.mode_or_fuel 0 ∷ [])  -- 10: mode not 0 (strict) or 1 (permissive), or fuel over 1,000,000
    ++ sheet_checks sheet
    ++ store_checks sheet store (mode_of mode)
    ++ (check (leb (store_length (field_count sheet)) room) numbers.out_short 0 ∷ [])  -- 11: output shorter than the store

-- 18: where a request is refused, by the sheet's levels and the store; the count if nowhere
abbrev pub refused_position : List ℕ → List ℕ → ℕ → List ℕ → ℕ
refused_position sheet store reader request = first_refusing (lattice (levels_of sheet)) reader (store_of store) request

-- of a request, whose answer has so much room
abbrev pub request_checks : List ℕ → List ℕ → ℕ → List ℕ → ℕ → List Check
request_checks sheet store reader request room =
    check (ltb reader (count (levels_of sheet)) && request_right (field_count sheet) request) numbers.reader_or_request 0  -- 17: reader unknown, request's size, count or a field number wrong
    ∷ check (leb (answer_length request) room) numbers.out_short 0  -- 11: output shorter than the answer
    ∷ check (leb (asked_count request) (refused_position sheet store reader request)) numbers.partial_asked (refused_position sheet store reader request)  -- 18: first such position in the request
    ∷ []

-- of a hand-out; it takes any mark that the sheet knows
abbrev pub hand_out_checks : List ℕ → List ℕ → ℕ → List ℕ → ℕ → List Check
hand_out_checks sheet store reader request room = sheet_checks sheet ++ store_checks sheet store Permissive ++ request_checks sheet store reader request room

-- ── the calls ───────────────────────────────────────────────────────────────────────────────

-- **Load** judges a sheet.
unfoldable pub load : List ℕ → Answer
load sheet = tells (sheet_checks sheet)

-- Success writes exactly the store; later bytes stay. With the fuel used up, all of it is spent.
unfoldable pub ended : ℕ → ℕ → List ℕ → End Mark → Outcome
ended fields fuel out (done σ left) = record { answer = success (fuel - left); out = store_over σ fields out }
ended fields fuel out (spent place) = record { answer = answer numbers.fuel_spent place fuel; out = out }
ended fields fuel out (stopped why place left) = record { answer = answer (stop_number why) place (fuel - left); out = out }

-- a sheet that passes, run from a store that fits it
unfoldable pub run_from : List ℕ → List ℕ → ℕ → ℕ → List ℕ → Outcome
run_from sheet store mode fuel out =
    ended (field_count sheet) fuel out
    (exec (marking (lattice (levels_of sheet)) (mode_of mode)) (program_of sheet) (lattice (levels_of sheet)).bot (store_of store) fuel)

-- **Run** takes sheet, store, mode and fuel and writes a final store.
unfoldable pub run : List ℕ → List ℕ → ℕ → ℕ → List ℕ → Outcome
run sheet store mode fuel out = checked (run_checks sheet store mode fuel (length out)) out (run_from sheet store mode fuel out)

-- Success writes exactly the answer; later bytes stay.
unfoldable pub answered : List ℕ → List ℕ → ℕ → List ℕ → List ℕ → Outcome
answered sheet store reader request out =
    record { answer = success 0; out = answer_over (lattice (levels_of sheet)) reader (store_of store) request out }

-- **Hand-out** takes sheet, store, reader level and request and writes the dealer's answer.
unfoldable pub hand_out : List ℕ → List ℕ → ℕ → List ℕ → List ℕ → Outcome
hand_out sheet store reader request out = checked (hand_out_checks sheet store reader request (length out)) out (answered sheet store reader request out)

-- an answer and the output afterwards are an outcome
abbrev pub Comes : Outcome → Answer → List ℕ → Type 0
Comes outcome answer out = (answer ≡ outcome.answer) × (out ≡ outcome.out)

-- what a call promises: the word that it answers is an answer's,
abbrev pub Tells : Answer → ℕ → Type 0
Tells answer word = word ≡ word_of answer

-- and that word and the lent output afterwards are those of an outcome
abbrev pub Yields : Outcome → ℕ → List ℕ → Type 0
Yields outcome word out = Tells outcome.answer word × (out ≡ outcome.out)

-- `unfolding calling` opens all of the above and what it cites of sheets, marks and stores, so that a call computes on bytes
unfoldable pub calling : Unit {0}
unfolding judging running mode_of joined entered stored mark_of cell_at entry_of store_entries store_bytes store_fits mark_known marks_right answering
    all_hold tells checked load ended run_from run answered hand_out
calling = tt
