-- How a run goes on and how it ends: results, stops, fuel.
use Rattle.std.specs.Prelude.{ℕ, zero, suc, Bool, true, false}
use Rattle.basis.specs.Numbers as numbers
use Rattle.store.specs.Cells.{Store}

-- why a run stops, but for its fuel
pub data Why : Type 0 where
  out_of_range divisor_zero not_below partial_test : Why

abbrev pub stop_number : Why → ℕ
stop_number out_of_range = numbers.out_of_range  -- result out of range
stop_number divisor_zero = numbers.divisor_zero  -- divisor 0
stop_number not_below = numbers.not_below  -- strict: context not at or below the field's level
stop_number partial_test = numbers.partial_test  -- permissive: partial test

-- an answer, or why there is none
pub data Try (A : Type 0) : Type 0 where
  fine : A → Try A
  fails : Why → Try A

-- a result, or why and where the run stops
pub data Result (A : Type 0) : Type 0 where
  gives : A → Result A
  stops : Why → ℕ → Result A

-- a run's end: the store and the fuel left; fuel used up, and where; or why, where, and the fuel left
pub data End (Mark : Type 0) : Type 0 where
  done : Store Mark → ℕ → End Mark
  spent : ℕ → End Mark
  stopped : Why → ℕ → ℕ → End Mark

module _ {A : Type 0} where
  unfoldable pub at : ℕ → Try A → Result A
  at place (fine a) = gives a
  at place (fails why) = stops why place

  module _ {B : Type 0} where
    -- the first stop met is the one told
    unfoldable pub and_then : Result A → (A → Result B) → Result B
    and_then (gives a) next = next a
    and_then (stops why place) next = stops why place

    unfoldable pub with : Result A → ℕ → (A → End B) → End B
    with (gives a) left next = next a
    with (stops why place) left next = stopped why place left

    -- the context goes to the side that is taken
    unfoldable pub choose : Bool → (A → End B) → (A → End B) → A → End B
    choose true yes_side no_side context = yes_side context
    choose false yes_side no_side context = no_side context

  -- one unit is spent before anything else; with none left the run stops there
  unfoldable pub spend : ℕ → ℕ → (ℕ → End A) → End A
  spend place zero next = spent place
  spend place (suc left) next = next left

  unfoldable pub bind : End A → (Store A → ℕ → End A) → End A
  bind (done σ left) next = next σ left
  bind (spent place) next = spent place
  bind (stopped why place left) next = stopped why place left
