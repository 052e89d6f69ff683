-- What each call tells and leaves: check by check, and then by the run's end or the answer.
use Prim.Native.Nat.{ℕ, ◌-◌}
use native.Mathlib.Omega.{arith}
use mathlib.Core.Path.{◌≡◌, refl, sym, ap, ◌∙◌}
use mathlib.Core.Bool.{Bool, true, false, true≢false}
use mathlib.Core.List.{List, [], ◌++◌}
use mathlib.Core.Logic.{inl, inr}
use lib.ListN.{length, drop}
use lib.Seq.{drop_at}
use Rattle.basis.specs.Numbers as numbers
use Rattle.basis.specs.declared.answer.Answer.{Answer}
use Rattle.basis.specs.Answer.{answer, success, refusal, Outcome}
use Rattle.basis.specs.Checks.{Check, all_hold, checked}
use Rattle.basis.proofs.Tests.{split}
use Rattle.basis.proofs.Checks.{tells-success, no_more, ◌also◌, Each, tells_one, goes_on, refuses}
use Rattle.std.specs.Prelude.{Ok, Err, is_ok}
use Rattle.sections.specs.Verdict.{Verdict, verdict_number, verdict_place}
use Rattle.sections.specs.declared.verdict.Fault.TheVariants.{Unknown, Unused, Range, Sort}
use Rattle.sections.specs.declared.verdict.SheetError.TheVariants.{Length, Count, Levels, Name, Node, Uses, Depth}
use Rattle.sheet.specs.Load.{load_of, field_count}
use Rattle.store.specs.Marks.{Mark}
use Rattle.store.specs.Stores.{store_length, store_bytes}
use Rattle.store.proofs.Entries.{store_length_lem}
use Rattle.rules.specs.Ends.{out_of_range, divisor_zero, not_below, partial_test, End, done, spent, stopped}
use Rattle.beltuqash.specs.Calls.{sheet_checks, run_checks, hand_out_checks, load, ended, run_from, run, answered, hand_out}
use Rattle.beltuqash.proofs.Unique.{load-within, hand_out_within}
use Rattle.secrecy.specs.Outcomes.{among, load_numbers, run_numbers, hand_out_numbers, placed, spending, Told, LoadTells, RunTells, HandOutTells}
use Rattle.secrecy.proofs.Finished.{Finished, finished, given, outcome-is, written}
use Rattle.secrecy.proofs.Answered.{replied}

-- ── numbers ─────────────────────────────────────────────────────────────────────────────────

-- a refusal that comes ahead of a run
pub record Early (given : List ℕ) (a : Answer) : Type 0 where
  pub told : Told given a
  pub early : among spending a.number ≡ false

refused : (given : List ℕ) (number place : ℕ) → among given number ≡ true → among spending number ≡ false → (among placed number ≡ false → place ≡ 0) → Early given (refusal number place)
unfolding among
refused given number place known early no_place = record {
  told = record { number = inr known; success-place = λ e. no_place (rw e refl); no_place = no_place; no_units = λ h. refl };
  early = early;
}

plain : (given : List ℕ) (number : ℕ) → among given number ≡ true → among spending number ≡ false → {holds : Bool} → holds ≡ false → Early given (refusal number 0)
plain given number known early f = refused given number 0 known early (λ h. refl)

-- an end of a run that has a place and units
told_end : (number place units : ℕ) → among run_numbers number ≡ true → among placed number ≡ true → among spending number ≡ true → (number ≡ numbers.done → ⊥)
    → Told run_numbers (answer number place units)
told_end number place units known place-told units_told refused = record {
  number = inr known;
  success-place = λ e. absurd (refused e);
  no_place = λ h. absurd (true≢false (sym place-told ∙ h));
  no_units = λ h. absurd (true≢false (sym units_told ∙ h));
}

told-success : (given : List ℕ) (units : ℕ) → (among spending numbers.done ≡ false → units ≡ 0) → Told given (success units)
told-success given units free = record { number = inl refl; success-place = λ e. refl; no_place = λ h. refl; no_units = free }

-- a sheet that is refused, in any call
verdict_early : (more : List ℕ) (v : Verdict) → is_ok v ≡ false → Early (load_numbers ++ more) (refusal (verdict_number v) (verdict_place v))
unfolding among
verdict_early more (Ok none) f = absurd (true≢false f)
verdict_early more (Err Length) f = refused _ numbers.sheet_length 0 refl refl (λ h. refl)
verdict_early more (Err Count) f = refused _ numbers.count_outside 0 refl refl (λ h. refl)
verdict_early more (Err Levels) f = refused _ numbers.levels_wrong 0 refl refl (λ h. refl)
verdict_early more (Err Name) f = refused _ numbers.name_wrong 0 refl refl (λ h. refl)
verdict_early more (Err (Node Unknown n)) f = refused _ numbers.node_unknown n refl refl (λ h. absurd (true≢false h))
verdict_early more (Err (Node Unused n)) f = refused _ numbers.node_unused n refl refl (λ h. absurd (true≢false h))
verdict_early more (Err (Node Range n)) f = refused _ numbers.node_range n refl refl (λ h. absurd (true≢false h))
verdict_early more (Err (Node Sort n)) f = refused _ numbers.node_sort n refl refl (λ h. absurd (true≢false h))
verdict_early more (Err Uses) f = refused _ numbers.not_used_once 0 refl refl (λ h. refl)
verdict_early more (Err Depth) f = refused _ numbers.too_deep 0 refl refl (λ h. refl)

-- a call whose checks and whose rest are told so
call_told : (given : List ℕ) (checks : List Check) (out : List ℕ) (next : Outcome) → Each (Early given) checks → Told given next.answer
    → Told given (checked checks out next).answer
call_told given checks out next each after =
    split (all_hold checks) (λ t. rw (goes_on checks out next t) after) (λ f. rw (refuses checks out next f) (tells_one (Early given) checks each f).told)

-- ── load ────────────────────────────────────────────────────────────────────────────────────

pub load-tells : LoadTells
unfolding load among
load-tells sheet = (
  split (all_hold (sheet_checks sheet))
      (λ t. rw (tells-success (sheet_checks sheet) t) (told-success load_numbers 0 (λ h. refl)))
      (λ f. (tells_one (Early load_numbers) (sheet_checks sheet) (verdict_early [] (load_of sheet) also no_more) f).told),
  omega (arith, (load-within sheet).units),
)

-- ── run ─────────────────────────────────────────────────────────────────────────────────────

ended-told : (fields fuel : ℕ) (out : List ℕ) (x : End Mark) → Told run_numbers (ended fields fuel out x).answer
unfolding ended among
ended-told fields fuel out (done σ left) = told-success run_numbers (fuel - left) (λ h. absurd (true≢false h))
ended-told fields fuel out (spent place) = told_end numbers.fuel_spent place fuel refl refl refl (λ e. omega arith)
ended-told fields fuel out (stopped out_of_range place left) = told_end numbers.out_of_range place (fuel - left) refl refl refl (λ e. omega arith)
ended-told fields fuel out (stopped divisor_zero place left) = told_end numbers.divisor_zero place (fuel - left) refl refl refl (λ e. omega arith)
ended-told fields fuel out (stopped not_below place left) = told_end numbers.not_below place (fuel - left) refl refl refl (λ e. omega arith)
ended-told fields fuel out (stopped partial_test place left) = told_end numbers.partial_test place (fuel - left) refl refl refl (λ e. omega arith)

-- only a run that is done writes
ended_kept : (fields fuel : ℕ) (out : List ℕ) (x : End Mark) → ((ended fields fuel out x).answer.number ≡ numbers.done → ⊥) → (ended fields fuel out x).out ≡ out
unfolding ended
ended_kept fields fuel out (done σ left) refused = absurd (refused refl)
ended_kept fields fuel out (spent place) refused = refl
ended_kept fields fuel out (stopped why place left) refused = refl

-- a call whose rest writes only if it succeeds writes only then
call_kept : (checks : List Check) (out : List ℕ) (next : Outcome) → ((next.answer.number ≡ numbers.done → ⊥) → next.out ≡ out)
    → ((checked checks out next).answer.number ≡ numbers.done → ⊥) → (checked checks out next).out ≡ out
call_kept checks out next kept refused =
    split (all_hold checks)
    (λ t. let is = goes_on checks out next t in rw is (kept (rw is at refused)))
    (λ f. ap (λ (o : Outcome). o.out) (refuses checks out next f))

module _ (sheet store : List ℕ) (mode fuel : ℕ) (out : List ℕ) where
  run_kept : ((run sheet store mode fuel out).answer.number ≡ numbers.done → ⊥) → (run sheet store mode fuel out).out ≡ out
  unfolding run run_from
  run_kept n = call_kept (run_checks sheet store mode fuel (length out)) out _ (ended_kept (field_count sheet) fuel out _) n

  run-later : Finished sheet store mode fuel out → drop (store_length (field_count sheet)) (run sheet store mode fuel out).out ≡ drop (store_length (field_count sheet)) out
  unfolding ended
  run-later x =
      ap (λ (o : Outcome). drop (store_length (field_count sheet)) o.out) (outcome-is x.checks x.ran)
      ∙ drop_at (store_bytes x.final (field_count sheet)) _ _ (store_length_lem x.final (field_count sheet))

pub run_early : (sheet store : List ℕ) (mode fuel room : ℕ) → Each (Early run_numbers) (run_checks sheet store mode fuel room)
unfolding among
run_early sheet store mode fuel room =
    plain run_numbers numbers.mode_or_fuel refl refl also verdict_early _ (load_of sheet) also plain run_numbers numbers.store_misfit refl refl
    also plain run_numbers numbers.mark_wrong refl refl also plain run_numbers numbers.out_short refl refl also no_more

pub run-tells : RunTells
unfolding run run_from
run-tells sheet store mode fuel out = (
  call_told run_numbers (run_checks sheet store mode fuel (length out)) out _ (run_early sheet store mode fuel (length out)) (ended-told (field_count sheet) fuel out _),
  record {
    refusal = run_kept sheet store mode fuel out;
    room = λ e. (given (finished sheet store mode fuel out e).checks).room-is;
    written = λ e. let x = finished sheet store mode fuel out e in (x.final, written x);
    later = λ e. run-later sheet store mode fuel out (finished sheet store mode fuel out e);
  },
)

-- ── hand-out ────────────────────────────────────────────────────────────────────────────────

pub hand_out_tells : HandOutTells
unfolding hand_out answered among
hand_out_tells sheet store reader request out =
    let checks = hand_out_checks sheet store reader request (length out) in (
      call_told hand_out_numbers checks out _
          (verdict_early _ (load_of sheet) also plain hand_out_numbers numbers.store_misfit refl refl also plain hand_out_numbers numbers.mark_wrong refl refl
          also plain hand_out_numbers numbers.reader_or_request refl refl also plain hand_out_numbers numbers.out_short refl refl
          also (λ f. refused hand_out_numbers numbers.partial_asked _ refl refl (λ h. absurd (true≢false h))) also no_more)
          (told-success hand_out_numbers 0 (λ h. refl)),
      record {
        refusal = λ refused. call_kept checks out _ (λ n. absurd (n refl)) refused;
        room = λ e. (replied sheet reader request store out e).room;
        written = λ e. (replied sheet reader request store out e).written;
        later = λ e. (replied sheet reader request store out e).later;
      },
      omega (arith, (hand_out_within sheet store reader request out).units),
    )
