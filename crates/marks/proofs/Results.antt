-- Numbers that answer for results: what they stand for, or a stop.
use Prim.Native.Nat.{ℕ, ◌+◌, ◌*◌, ◌%◌}
use native.Mathlib.Omega.{arith}
use mathlib.Core.Path.{◌≡◌, sym, ◌∙◌}
use mathlib.Core.Bool.{true, false}
use borrow.Author.Tests.{lt-ltb, le-ltb, leb-true, leb-false}
use lib.Dec.{leb}
use lib.IntN.{ℤ}
use mir.Syntax.{w32}
use mir.Val.{SFits}
use mir.Facts.{to_z-of_z, Fits-of_z}
use Rattle.value.specs.Bytes.{of_bits, bits_of}
use Rattle.rules.specs.Ends.{Why, Result, gives, stops}
use Rattle.marks.specs.Inside.Words.{upper_half, stop_from, Half, value_in, Goes, Stops, place_in, number_in, why_of, Stopped, Met, Numbered, result_of, Answers}

-- a value's bits are few, and give the value again
pub bits_few : (z : ℤ) → SFits w32 z → Half (bits_of z)
unfolding bits_of
bits_few z f = (Fits-of_z f).fits

pub value_back : (z : ℤ) (bits mark : ℕ) → SFits w32 z → bits ≡ bits_of z → value_in (bits + mark * upper_half) ≡ record { n = z }
unfolding of_bits bits_of
value_back z bits mark f e =
    let few = bits_few z f in
    let value : (bits + mark * upper_half) % upper_half ≡ bits = omega arith in
    rw (value, e, to_z-of_z f)

-- a word that is tested for a stop
pub stops_so : {w : ℕ} → true ≡ leb stop_from w → Stops w
stops_so e = leb-true _ _ (sym e)

pub goes_so : {w : ℕ} → false ≡ leb stop_from w → Goes w
goes_so e = omega (arith, leb-false _ _ (sym e))

-- ── what a word says ────────────────────────────────────────────────────────────────────────

module _ {A : Type 0} (of : ℕ → A) (w : ℕ) where
  pub result_gives : Goes w → result_of of w ≡ gives (of w)
  unfolding result_of
  result_gives h = rw (lt-ltb w stop_from h)

  pub result_stops : Stops w → result_of of w ≡ stops (why_of (number_in w)) (place_in w)
  unfolding result_of
  result_stops h = rw (le-ltb w stop_from h)

pub goes_number : (r : ℕ) → Goes r → Numbered r
goes_number r h large = absurd (omega arith)

module _ {A : Type 0} {of : ℕ → A} {Known : ℕ → Type 0} {x : Result A} {r : ℕ} where
  -- a word that gives something, and a word made as a stop
  pub answers_gives : Goes r → x ≡ gives (of r) → Known r → Answers of Known x r
  answers_gives goes e known = record { is = result_gives of r goes ∙ sym e; known = λ _. known; number = goes_number r goes }

  pub answers_stops : {number place left : ℕ} → Stopped number place left r → Met number → x ≡ stops (why_of number) place → Answers of Known x r
  answers_stops s met e = record {
    is = result_stops of r s.stops ∙ rw (s.number_is, s.place_is) (sym e);
    known = λ goes. absurd (omega (arith, s.stops));
    number = λ _. rw s.number_is met;
  }

  module _ (p : Answers of Known x r) where
    -- what an answer says
    pub answer-gives : Goes r → x ≡ gives (of r)
    answer-gives goes = sym p.is ∙ result_gives of r goes

    pub answer-stops : Stops r → x ≡ stops (why_of (number_in r)) (place_in r)
    answer-stops large = sym p.is ∙ result_stops of r large

    -- a stop is handed on
    pub hands_on : {B : Type 0} {of' : ℕ → B} {Known' : ℕ → Type 0} {y : Result B} → Stops r
        → ((why : Why) (place : ℕ) → x ≡ stops why place → y ≡ stops why place) → Answers of' Known' y r
    hands_on {B} {of'} large on = record {
      is = result_stops of' r large ∙ sym (on _ _ (answer-stops large));
      known = λ goes. absurd (omega arith);
      number = p.number;
    }
