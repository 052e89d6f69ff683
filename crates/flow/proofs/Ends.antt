-- Words that stand for ends and tests, whatever marks there are.
use Prim.Native.Nat.{ℕ, ◌≤◌}
use native.Mathlib.Omega.{arith}
use mathlib.Core.Path.{◌≡◌, ap, ◌∙◌}
use mathlib.Core.Bool.{Bool, true, false}
use borrow.Author.Tests.{lt-ltb, le-ltb, ne_eqb}
use mir.Val.{bool_byte}
use Rattle.basis.specs.Numbers as numbers
use Rattle.value.specs.Values.{is_true}
use Rattle.store.specs.Cells.{Store}
use Rattle.rules.specs.Ends.{End, done, spent, stopped, choose}
use Rattle.marks.specs.Inside.Words.{stop_from, Half, value_in, mark_in, Goes, Stops, left_in, place_in, number_in, why_of, Stopped, Numbered}
use Rattle.flow.specs.Inside.Tasks.{or_stop, test_of, stop_of, end_of, Told}

module _ {Mark : Type 0} where
  -- the end of a run that is done, and of one that stops
  module _ (w : ℕ) (σ : Store Mark) where
    pub end_done : Goes w → end_of w σ ≡ done σ (left_in w)
    unfolding end_of
    end_done h = rw (lt-ltb w stop_from h)

    pub end_stop : Stops w → end_of w σ ≡ stop_of w
    unfolding end_of
    end_stop h = rw (le-ltb w stop_from h)

  -- the end of a run that has only the fuel left to tell
  pub end_left : (left : ℕ) (σ : Store Mark) → Half left → end_of left σ ≡ done σ left
  end_left left σ h =
      let same : left_in left ≡ left = omega arith in
      end_done left σ (omega arith) ∙ ap (done σ) same

  -- a word without a stop, and a stop, with the fuel left
  module _ (w left : ℕ) (next : End Mark) where
    pub or_next : Goes w → or_stop w left next ≡ next
    unfolding or_stop
    or_next h = rw (lt-ltb w stop_from h)

    pub or_stopped : Stops w → or_stop w left next ≡ stopped (why_of (number_in w)) (place_in w) left
    unfolding or_stop
    or_stopped h = rw (le-ltb w stop_from h)

  -- a test that stops, and one that goes on to a side
  module _ {Context : Type 0} (of : ℕ → Context) (w left : ℕ) (yes_side no_side : Context → ℕ → End Mark) where
    pub test_stopped : Stops w → test_of of w left yes_side no_side ≡ stopped (why_of (number_in w)) (place_in w) left
    unfolding test_of
    test_stopped h = or_stopped w left _ h

    pub test_side : Goes w → test_of of w left yes_side no_side ≡ choose (is_true (value_in w)) (λ c. yes_side c left) (λ c. no_side c left) (of (mark_in w))
    unfolding test_of
    test_side h = or_next w left _ h

    pub test_yes : Goes w → is_true (value_in w) ≡ true → test_of of w left yes_side no_side ≡ yes_side (of (mark_in w)) left
    unfolding choose
    test_yes h holds = test_side h ∙ rw holds

    pub test_no : Goes w → is_true (value_in w) ≡ false → test_of of w left yes_side no_side ≡ no_side (of (mark_in w)) left
    unfolding choose
    test_no h fails = test_side h ∙ rw fails

-- whether a test holds, as a number
pub bit-few : (b : Bool) → bool_byte b ≤ 1
bit-few true = omega arith
bit-few false = omega arith

-- the word of a run without fuel
module _ {r place : ℕ} (s : Stopped numbers.fuel_spent place 0 r) where
  pub stop_spent : {Mark : Type 0} → stop_of {Mark = Mark} r ≡ spent place
  unfolding stop_of
  stop_spent = rw (s.number_is, s.place_is)

  pub told-spent : Told r
  told-spent =
      let number = s.number_is in
      record { least = omega arith; most = omega arith; nothing = λ _. s.left_is }

-- a stop's word with the fuel left
module _ {r word left : ℕ} (s : Stopped (number_in word) (place_in word) left r) (large : Stops word) (numbered : Numbered word) where
  pub stop_handed : {Mark : Type 0} → stop_of {Mark = Mark} r ≡ stopped (why_of (number_in word)) (place_in word) left
  unfolding stop_of
  stop_handed =
      let least = (numbered large).0 in
      rw (s.number_is, ne_eqb (number_in word) numbers.fuel_spent (λ spent. omega arith), s.place_is, s.left_is)

  pub told_handed : Told r
  told_handed =
      let (least, most) = numbered large in
      let number = s.number_is in
      record { least = omega arith; most = omega arith; nothing = λ spent. absurd (omega arith) }
