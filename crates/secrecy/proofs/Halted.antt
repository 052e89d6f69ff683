-- 13 to 16, taken apart: all checks hold, for none of them tells these numbers, and the rules' run is stopped.
use Prim.Native.Nat.{ℕ}
use native.Mathlib.Omega.{arith}
use mathlib.Core.Path.{◌≡◌, refl, sym, ◌∙◌}
use mathlib.Core.Bool.{true, true≢false}
use mathlib.Core.List.{List}
use lib.ListN.{length}
use Rattle.basis.specs.Numbers as numbers
use Rattle.basis.specs.Checks.{all_hold}
use Rattle.basis.proofs.Tests.{split}
use Rattle.basis.proofs.Checks.{tells_one, goes_on, refuses}
use Rattle.sheet.specs.Load.{field_count}
use Rattle.store.specs.Marks.{Mark}
use Rattle.rules.specs.Ends.{stop_number, Why, out_of_range, divisor_zero, not_below, partial_test, End, done, spent, stopped}
use Rattle.beltuqash.specs.Calls.{run_checks, ended, run_from, run}
use Rattle.secrecy.specs.Outcomes.{among, run_numbers, spending}
use Rattle.secrecy.proofs.Finished.{why_some, Passed, executed}
use Rattle.secrecy.proofs.Outcomes.{Early, run_early}

why_unspent : (why : Why) → stop_number why ≡ numbers.fuel_spent → ⊥
why_unspent out_of_range e = omega arith
why_unspent divisor_zero e = omega arith
why_unspent not_below e = omega arith
why_unspent partial_test e = omega arith

why_spending : (why : Why) → among spending (stop_number why) ≡ true
unfolding among
why_spending out_of_range = refl
why_spending divisor_zero = refl
why_spending not_below = refl
why_spending partial_test = refl

module _ (sheet store : List ℕ) (mode fuel : ℕ) (out : List ℕ) where
  pub record Halted : Type 0 where
    pub checks : Passed sheet store mode fuel out
    pub why : Why
    pub place : ℕ
    pub left : ℕ
    pub ran : executed sheet store mode fuel out ≡ stopped why place left

  number-stopped : Passed sheet store mode fuel out → (x : End Mark) → executed sheet store mode fuel out ≡ x → (why : Why)
      → (ended (field_count sheet) fuel out x).answer.number ≡ stop_number why → Halted
  unfolding ended
  number-stopped checks (done σ left) e why n = absurd (why_some why (sym n))
  number-stopped checks (spent place) e why n = absurd (why_unspent why (sym n))
  number-stopped checks (stopped why place left) e _ n = record { checks = checks; why = why; place = place; left = left; ran = e }

  pub halted : (why : Why) → (run sheet store mode fuel out).answer.number ≡ stop_number why → Halted
  unfolding run run_from
  halted why e =
      let checks = run_checks sheet store mode fuel (length out) in
      split (all_hold checks)
      (λ t. number-stopped (record { hold = t }) (executed sheet store mode fuel out) refl why (rw (goes_on checks out _ t) at e))
      (λ f.
      let early = (tells_one (Early run_numbers) checks (run_early sheet store mode fuel (length out)) f).early in
      let number = rw (refuses checks out (ended (field_count sheet) fuel out (executed sheet store mode fuel out)) f) at e in
      absurd (true≢false (sym (why_spending why) ∙ rw number at early)))
