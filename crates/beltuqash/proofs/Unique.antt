-- A call's contract leaves one answer: its word, and what it leaves in lent memory, follow from what came in, and the word tells number, place
-- and units apart.
use Prim.Native.Nat.{ℕ, ◌+◌, ◌*◌, ◌/◌, ◌%◌, ◌^◌, ◌≤◌, ◌<◌}
use native.Mathlib.Omega.{arith}
use mathlib.Core.Path.{◌≡◌, sym, ◌∙◌}
use mathlib.Core.Bool.{Bool, true, false, ◌&&◌}
use mathlib.Core.List.{List, ◌++◌}
use lib.ListN.{length, drop}
use lib.Dec.{ltb}
use Rattle.basis.specs.Numbers as numbers
use Rattle.basis.specs.declared.answer.Answer.{Answer}
use Rattle.basis.specs.declared.answer.Refusal.{Refusal}
use Rattle.basis.specs.Answer.{answer, success, refusal, answer_of, verdict_of, word_of, answer_in, Outcome}
use Rattle.basis.specs.Checks.{Check, check, all_hold, tells, checked}
use Rattle.basis.proofs.Numbering.{answer_once, verdict_once}
use Rattle.basis.proofs.Tests.{both, split, first-most}
use Rattle.basis.proofs.Checks.{first_holds, first-fails, tells-success, append-holds, append-fails, no_more, ◌also◌, tells_one, goes_on, refuses}
use Rattle.levels.specs.Levels.{count}
use Rattle.levels.specs.Lattice.{lattice}
use Rattle.std.specs.Prelude.{Result, Ok, Err}
use Rattle.sections.specs.Verdict.{Verdict, verdict_number, verdict_place}
use Rattle.sections.specs.Sections.{levels_of, constants_of, nodes_of}
use Rattle.sections.specs.declared.verdict.Fault.TheVariants.{Unknown, Unused, Range, Sort}
use Rattle.sections.specs.declared.verdict.SheetError.TheVariants.{Length, Count, Levels, Name, Node, Uses, Depth}
use Rattle.sheet.specs.Load.{field_count, last_of, load_of}
use Rattle.sheet.proofs.Loading.{load-placed}
use Rattle.store.specs.declared.Mode.TheVariants.{Permissive}
use Rattle.store.specs.Marks.{Mark, mode_of}
use Rattle.store.specs.Stores.{store_of}
use Rattle.rules.specs.Ends.{stop_number, Why, out_of_range, divisor_zero, not_below, partial_test, End}
use Rattle.rules.specs.LevelMarks.{marking}
use Rattle.rules.proofs.Stops.{EndUpTo, upto_done, upto_spent, upto_stopped, cmd_upto, exec_upto}
use Rattle.handout.specs.Requests.{asked_count, request_right}
use Rattle.handout.specs.Answers.{first_refusing}
use Rattle.handout.proofs.Requesting.{right_has}
use Rattle.beltuqash.specs.Calls.{sheet_checks, store_checks, run_checks, request_checks, load, ended, run_from, run, answered, hand_out, Comes, Tells, Yields}
use Rattle.beltuqash.specs.Inside.Given.{Given}
use Rattle.beltuqash.proofs.Checking.{load_is, run_holds, nodes-long}

-- an answer that the word has room for
pub record Fits (a : Answer) : Type 0 where
  pub number : a.number < 2 ^ 8
  pub place : a.place < 2 ^ 16

-- the word tells number, place and units
pub word_tells : (a : Answer) → Fits a → answer_in (word_of a) ≡ a
word_tells a fits =
    let few = fits.number in
    let small = fits.place in
    let above : word_of a / 2 ^ 8 ≡ a.place + a.units * 2 ^ 24 = omega arith in
    let number_is : word_of a % 2 ^ 8 ≡ a.number = omega arith in
    let place_is : word_of a / 2 ^ 8 % 2 ^ 16 ≡ a.place = rw above (omega arith) in
    let units_is : word_of a / 2 ^ 32 ≡ a.units = omega arith in
    rw (number_is, place_is, units_is)

-- two words that meet a contract are one, and so are two outputs with them
pub tells-once : (answer : Answer) (r s : ℕ) → Tells answer r → Tells answer s → r ≡ s
tells-once answer r s p q = p ∙ sym q

pub yields_once : (outcome : Outcome) (r s : ℕ) (x y : List ℕ) → Yields outcome r x → Yields outcome s y → (r ≡ s) × (x ≡ y)
yields_once outcome r s x y p q = (tells-once outcome.answer r s p.0 q.0, p.1 ∙ sym q.1)

-- and so are two results of a call that gives one, and two outputs with them
pub verdicts_once : (answer : Answer) (r s : Result (Unit {0}) Refusal) → verdict_of r ≡ answer → verdict_of s ≡ answer → r ≡ s
verdicts_once answer r s p q = verdict_once r s (p ∙ sym q)

module _ (outcome : Outcome) (x y : List ℕ) where
  pub comes_once : (r s : Result ℕ Refusal) → Comes outcome (answer_of r) x → Comes outcome (answer_of s) y → (r ≡ s) × (x ≡ y)
  comes_once r s p q = (answer_once r s (p.0 ∙ sym q.0), p.1 ∙ sym q.1)

  pub given-once : (r s : Result (Unit {0}) Refusal) → Comes outcome (verdict_of r) x → Comes outcome (verdict_of s) y → (r ≡ s) × (x ≡ y)
  given-once r s p q = (verdicts_once outcome.answer r s p.0 q.0, p.1 ∙ sym q.1)

-- ── the range of what a call answers ────────────────────────────────────────────────────────

-- a number of the table: at most 22, and never 5
abbrev pub InTable : ℕ → Type 0
InTable number = (number ≤ numbers.node_sort) × (number ≡ 5 → ⊥)

-- with the number of a node or a position in a request as its place, and with at most so many units
pub record Within (fuel : ℕ) (a : Answer) : Type 0 where
  pub number : InTable a.number
  pub place : a.place < 1024
  pub units : a.units ≤ fuel

pub within-fits : {fuel : ℕ} {a : Answer} → Within fuel a → Fits a
within-fits w = record { number = omega (arith, w.number.0); place = omega (arith, w.place) }

verdict_range : (v : Verdict) → InTable (verdict_number v)
verdict_range (Ok none) = (omega arith, λ e. omega arith)
verdict_range (Err Length) = (omega arith, λ e. omega arith)
verdict_range (Err Count) = (omega arith, λ e. omega arith)
verdict_range (Err Levels) = (omega arith, λ e. omega arith)
verdict_range (Err Name) = (omega arith, λ e. omega arith)
verdict_range (Err (Node Unknown n)) = (omega arith, λ e. omega arith)
verdict_range (Err (Node Unused n)) = (omega arith, λ e. omega arith)
verdict_range (Err (Node Range n)) = (omega arith, λ e. omega arith)
verdict_range (Err (Node Sort n)) = (omega arith, λ e. omega arith)
verdict_range (Err Uses) = (omega arith, λ e. omega arith)
verdict_range (Err Depth) = (omega arith, λ e. omega arith)

why_range : (why : Why) → InTable (stop_number why)
why_range out_of_range = (omega arith, λ e. omega arith)
why_range divisor_zero = (omega arith, λ e. omega arith)
why_range not_below = (omega arith, λ e. omega arith)
why_range partial_test = (omega arith, λ e. omega arith)

module _ (sheet : List ℕ) where
  sheet_within : (fuel : ℕ) → Within fuel (refusal (verdict_number (load_of sheet)) (verdict_place (load_of sheet)))
  sheet_within fuel = record { number = verdict_range (load_of sheet); place = load-placed sheet; units = omega arith }

  sheet_refused : (fuel : ℕ) {holds : Bool} → holds ≡ false → Within fuel (refusal (verdict_number (load_of sheet)) (verdict_place (load_of sheet)))
  sheet_refused fuel f = sheet_within fuel

  -- load gives a number up to 22 but 5, with the number of a node as its place and units 0
  pub load-within : Within 0 (load sheet)
  load-within = rw (load_is sheet) (sheet_within 0)

-- a number of the table, at place 0
plain : {fuel : ℕ} {holds : Bool} (number : ℕ) → InTable number → holds ≡ false → Within fuel (refusal number 0)
plain number known f = record { number = known; place = omega arith; units = omega arith }

none_told : {fuel : ℕ} → Within fuel (success 0)
none_told = record { number = (omega arith, λ e. omega arith); place = omega arith; units = omega arith }

-- a call whose checks and whose rest stay within stays within
call_within : (fuel : ℕ) (checks : List Check) (out : List ℕ) (next : Outcome) → (all_hold checks ≡ false → Within fuel (tells checks))
    → (all_hold checks ≡ true → Within fuel next.answer) → Within fuel (checked checks out next).answer
call_within fuel checks out next refused after =
    split (all_hold checks) (λ t. rw (goes_on checks out next t) (after t)) (λ f. rw (refuses checks out next f) (refused f))

-- ── run ─────────────────────────────────────────────────────────────────────────────────────

ended-within : (fields fuel : ℕ) (out : List ℕ) {n : ℕ} {x : End Mark} → EndUpTo n x → n < 1024 → fuel ≤ 1000000 → Within 1000000 (ended fields fuel out x).answer
unfolding ended
ended-within fields fuel out upto_done small few = record { number = (omega arith, λ e. omega arith); place = omega arith; units = omega arith }
ended-within fields fuel out (upto_spent p) small few = record { number = (omega arith, λ e. omega arith); place = omega arith; units = few }
ended-within fields fuel out (upto_stopped {why} p) small few = record { number = why_range why; place = omega arith; units = omega arith }

module _ (sheet store : List ℕ) (mode fuel : ℕ) (out : List ℕ) where
  from_within : Given sheet store mode fuel (length out) → Within 1000000 (run_from sheet store mode fuel out).answer
  unfolding run_from
  from_within given =
      let loaded = given.taken.loaded in
      let nodes = nodes_of sheet in
      let (some, most) = nodes-long sheet loaded in
      let inside : last_of nodes * 8 + 8 ≤ length nodes = omega arith in
      let small : last_of nodes < 1024 = omega arith in
      let places = cmd_upto (constants_of sheet) loaded.nodes (last_of nodes) inside loaded.command in
      ended-within (field_count sheet) fuel out
      (exec_upto (marking (lattice (levels_of sheet)) (mode_of mode)) places (lattice (levels_of sheet)).bot (store_of store) fuel)
      small given.few

  -- run gives a number up to 22 but 5, a node's number as its place, and at most 1,000,000 units
  pub run-within : Within 1000000 (run sheet store mode fuel out).answer
  unfolding run
  run-within =
      call_within 1000000 (run_checks sheet store mode fuel (length out)) out _
      (tells_one (Within 1000000) _
      (plain numbers.mode_or_fuel (omega arith, λ e. omega arith) also sheet_refused sheet 1000000 also plain numbers.store_misfit (omega arith, λ e. omega arith) also plain numbers.mark_wrong (omega arith, λ e. omega arith)
      also plain numbers.out_short (omega arith, λ e. omega arith) also no_more))
      (λ t. from_within (run_holds sheet store mode fuel (length out) t))

-- ── hand-out ────────────────────────────────────────────────────────────────────────────────

module _ (sheet store : List ℕ) (reader : ℕ) (request out : List ℕ) where
  -- a right request asks for at most 64 fields
  place-told : {place : ℕ} {holds : Bool} → place ≤ asked_count request → asked_count request ≤ 64 → holds ≡ false → Within 0 (refusal numbers.partial_asked place)
  place-told most few f = record { number = (omega arith, λ e. omega arith); place = omega arith; units = omega arith }

  -- the checks after 17
  abbrev after_17 : List Check
  after_17 = drop 1 (request_checks sheet store reader request (length out))

  request_within : Within 0 (tells (request_checks sheet store reader request (length out)))
  unfolding first_refusing
  request_within =
      let asked = ltb reader (count (levels_of sheet)) && request_right (field_count sheet) request in
      split asked
      (λ t.
      let few = (right_has _ _ (both (ltb reader (count (levels_of sheet))) _ t).1).few in
      rw (first_holds (check asked numbers.reader_or_request 0) after_17 t).1
      (split (all_hold after_17)
      (λ all. rw (tells-success after_17 all) none_told)
      (λ f. tells_one (Within 0) after_17 (plain numbers.out_short (omega arith, λ e. omega arith) also place-told (first-most _ _) few also no_more) f)))
      (λ f. rw (first-fails (check asked numbers.reader_or_request 0) after_17 f).1 (plain numbers.reader_or_request (omega arith, λ e. omega arith) f))

  -- hand-out gives a number up to 22 but 5, a node's number or a position in the request as its place, and no units
  pub hand_out_within : Within 0 (hand_out sheet store reader request out).answer
  unfolding hand_out answered
  hand_out_within =
      let before = sheet_checks sheet ++ store_checks sheet store Permissive in
      let requests = request_checks sheet store reader request (length out) in
      call_within 0 (before ++ requests) out _
      (λ _. split (all_hold before)
      (λ t. rw (append-holds requests before t).1 request_within)
      (λ f. rw (append-fails requests before f).1
      (tells_one (Within 0) before (sheet_refused sheet 0 also plain numbers.store_misfit (omega arith, λ e. omega arith) also plain numbers.mark_wrong (omega arith, λ e. omega arith) also no_more) f)))
      (λ t. none_told)

-- 5 is never given
pub never_five : (sheet store : List ℕ) (mode fuel reader : ℕ) (request out : List ℕ)
    → ((load sheet).number ≡ 5 → ⊥) × ((run sheet store mode fuel out).answer.number ≡ 5 → ⊥) × ((hand_out sheet store reader request out).answer.number ≡ 5 → ⊥)
never_five sheet store mode fuel reader request out =
    ((load-within sheet).number.1, (run-within sheet store mode fuel out).number.1, (hand_out_within sheet store reader request out).number.1)
