-- What a test comes to, case by case, once its unit is spent: an expression that stops, a test that is refused, and either side.
use Prim.Native.Nat.{ℕ, suc, ◌≤◌}
use native.Mathlib.Omega.{arith}
use mathlib.Core.Path.{◌≡◌, sym, ◌∙◌}
use mathlib.Core.List.{List}
use borrow.Author.Tests.{eqb-true, eqb-false}
use lib.Dec.{eqb}
use Rattle.basis.proofs.Tests.{split}
use Rattle.value.specs.Values.{is_true}
use Rattle.value.specs.declared.Value.{Value}
use Rattle.nodes.specs.Nodes.{In, kind_at, slot_at, kinds, held_in}
use Rattle.nodes.specs.Inside.Formed.{ExpBelow, WellFormed}
use Rattle.sheet.specs.Trees.{Exp}
use Rattle.sheet.proofs.Trees.{held_there}
use Rattle.rules.specs.Ends.{Why, Result, gives, stops, End, stopped, at, with, choose, spend}
use Rattle.rules.specs.Rules.{Marking, eval, branch, tested}
use Rattle.store.specs.Cells.{cell, Store}
use Rattle.marks.specs.Inside.Words.{Below, value_in, mark_in, Holds, Goes, Stops, why_of, Stopped, Met}
use Rattle.marks.specs.declared.Cell.{Cell as Held}
use Rattle.marks.specs.declared.Run.{Run}
use Rattle.marks.specs.Inside.Meanings.{Meaning, meaning}
use Rattle.flow.specs.Inside.Tasks.{ExpIn, Evaluated, CmdIn, Tested}
use Rattle.marks.proofs.Results.{goes_number, answer-gives, answer-stops}
use Rattle.flow.proofs.Ends.{test_stopped, test_side}

-- ── by the rules ────────────────────────────────────────────────────────────────────────────

module _ {Mark Seen Context : Type 0} (𝓜 : Marking Mark Seen Context) (place : ℕ) (e : Exp) (context : Context) (σ : Store Mark) (left : ℕ)
    (yes_side no_side : Context → ℕ → End Mark) where
  abbrev end : End Mark
  end = tested 𝓜 place e context σ (suc left) yes_side no_side

  tested-stops : (why : Why) (there : ℕ) → eval 𝓜 e σ ≡ stops why there → end ≡ stopped why there left
  unfolding tested spend with
  tested-stops why there h = rw h

  module _ (v : Value) (m : Seen) (value : eval 𝓜 e σ ≡ gives (cell v m)) where
    tested-refused : (why : Why) (there : ℕ) → at place (𝓜.enter context m) ≡ stops why there → end ≡ stopped why there left
    unfolding tested spend with branch
    tested-refused why there h = rw (value, h)

    tested_goes : (c : Context) → at place (𝓜.enter context m) ≡ gives c → end ≡ choose (is_true v) (λ c. yes_side c left) (λ c. no_side c left) c
    unfolding tested spend with branch
    tested_goes c h = rw (value, h)

-- ── by the words of a test ──────────────────────────────────────────────────────────────────

module _ (run : Run) (work : List Held) (n context x : ℕ) (evaluated : Evaluated run work (slot_at run.parts.nodes.now n 0) x) where
  abbrev 𝓢 : Meaning
  𝓢 = meaning run

  pub expression_stops : Stops x → Tested run work n context x
  expression_stops large = record {
    is = λ left yes_side no_side. test_stopped _ x left yes_side no_side large ∙ sym (tested-stops _ _ _ _ _ left yes_side no_side _ _ (answer-stops evaluated large));
    context-known = λ small. absurd (omega arith);
    number = evaluated.number;
  }

  module _ (goes : Goes x) where
    abbrev after : Result 𝓢.Context
    after = at n (𝓢.marking.enter (𝓢.context_of context) (𝓢.seen_of (mark_in x)))

    pub test_refused : {number place : ℕ} → Met number × (after ≡ stops (why_of number) place) → {r : ℕ} → Stopped number place 0 r → Tested run work n context r
    test_refused refused {r} made = record {
      is = λ left yes_side no_side. test_stopped _ r left yes_side no_side made.stops
          ∙ rw (made.number_is, made.place_is) (sym (tested-refused _ _ _ _ _ left yes_side no_side _ _ (answer-gives evaluated goes) _ _ refused.1));
      context-known = λ small. absurd (omega (arith, made.stops));
      number = λ _. rw made.number_is refused.0;
    }

    -- the test's value with the context after it
    pub goes_on : {k : ℕ} → (𝓢.KnownContext k × Below k) × (after ≡ gives (𝓢.context_of k)) → {r : ℕ} → Holds (value_in x) k r → Tested run work n context r
    goes_on entered {r} made =
        let few = entered.0.1 in
        let low : Goes r = omega (arith, made.mark-is) in
        record {
          is = λ left yes_side no_side. test_side 𝓢.context_of r left yes_side no_side low
              ∙ rw (made.value, made.mark-is)
              (sym (tested_goes _ _ _ _ _ left yes_side no_side _ _ (answer-gives evaluated goes) _ entered.1));
          context-known = λ _. rw made.mark-is entered.0.0;
          number = goes_number r low;
        }

-- ── the test's expression ───────────────────────────────────────────────────────────────────

test_below : {s : List ℕ} {fields constants : ℕ} → WellFormed s fields constants → (n : ℕ) → In s n → 8 ≤ kind_at s n → ExpBelow s n (slot_at s n 0)
unfolding held_in kinds
test_below {s} nodes n i h =
    let known = nodes.kind n i in
    split (eqb (kind_at s n) 8)
    (λ k. held_there nodes n i 8 0 (eqb-true _ _ k) (omega arith))
    (λ k. held_there nodes n i 9 0 (omega (arith, eqb-false (kind_at s n) 8 k)) (omega arith))

pub test_in : {run : Run} {work : List Held} {n context : ℕ} → CmdIn run work n context → 8 ≤ kind_at run.parts.nodes.now n
    → ExpIn run work (slot_at run.parts.nodes.now n 0)
test_in p h =
    let inside = p.inside in
    let below = test_below p.ready.formed _ inside h in
    record { ready = p.ready; inside = omega (arith, below.lower); sort = below.sort }
