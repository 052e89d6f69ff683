-- Texts put one after another are one text put.
use Prim.Native.Nat.{ℕ, zero, suc, ◌+◌, ◌*◌, ◌≤◌}
use native.Mathlib.Omega.{arith}
use native.Mathlib.Numerals.{add-one}
use native.Mathlib.Nat.{add-zero, add-suc, suc-add, suc-mul}
use mathlib.Core.Path.{◌≡◌, refl, sym, ap, ◌∙◌}
use mathlib.Core.List.{List, [], ◌∷◌, ◌++◌}
use lib.ListN.{length, take, drop, set, length-append}
use lib.Seq.{sets, length-take-le, sets-eq, take_at}
use Rattle.report.specs.Inside.Putting.{Room, Put}
use Rattle.report.specs.Report.{Begins}
use Rattle.report.specs.Text.{each}

sets-append : (s a b : List ℕ) (at : ℕ) → sets (sets s at a) (at + length a) b ≡ sets s at (a ++ b)
sets-append s [] b at = rw (add-zero at)
sets-append s (x ∷ a) b at = rw (add-suc at (length a), ← suc-add at (length a)) (sets-append (set s at x) a b (suc at))

pub put-none : (s : List ℕ) (at : ℕ) → Put s s at [] at
put-none s at = record { long = refl; bytes = λ room. refl; end_is = λ room. omega arith }

-- a text that is equal to the one put
pub put_as : {s t : List ℕ} {at p : ℕ} {a b : List ℕ} → a ≡ b → Put s t at a p → Put s t at b p
put_as e h = rw e at h

-- where there is room for two texts, there is room for the first, and then for the second
module _ {s t u : List ℕ} {at p q : ℕ} {a b : List ℕ} (first : Put s t at a p) (second : Put t u p b q) (room : Room s at (a ++ b)) where
  room-first : Room s at a
  room-first = omega (arith, length-append a b)

  room-second : Room t p b
  room-second = omega (arith, length-append a b, first.long, first.end_is room-first)

infixl 10 ◌then◌
pub ◌then◌ : {s t u : List ℕ} {at p q : ℕ} {a b : List ℕ} → Put s t at a p → Put t u p b q → Put s u at (a ++ b) q
◌then◌ {s} {t} {u} {at} {p} {q} {a} {b} first second = record {
  long = second.long ∙ first.long;
  bytes = λ room.
      let one = room-first first second room in
      second.bytes (room-second first second room) ∙ rw (first.end_is one, first.bytes one) (sets-append s a b at);
  end_is = λ room. omega (arith, length-append a b, first.end_is (room-first first second room), second.end_is (room-second first second room));
}

-- the texts of several numbers
pub each_none : (text : ℕ → List ℕ) → each 0 text ≡ []
unfolding each
each_none text = refl

pub each_more : (k : ℕ) (text : ℕ → List ℕ) → each k text ++ text k ≡ each (k + 1) text
unfolding each
each_more k text = rw (add-one k) refl

pub each-length : (n m : ℕ) (text : ℕ → List ℕ) → ((k : ℕ) → length (text k) ≤ m) → length (each n text) ≤ n * m
unfolding each
each-length zero m text most = omega arith
each-length (suc n) m text most = omega (arith, length-append (each n text) (text n), each-length n m text most, most n, suc-mul n m)

-- a text put at the start
pub put_begins : {s t text : List ℕ} {end : ℕ} → Put s t 0 text end → length text ≤ length s → Begins t text end
put_begins {s} {t} {text} {end} put long =
    let room : Room s 0 text = omega arith in
    let here : end ≡ 0 + length text = put.end_is room in
    let within : end ≤ length t = omega (arith, put.long) in
    record {
      within = within;
      counted = sym (length-take-le end t within);
      bytes = ap (take end) (put.bytes room ∙ sets-eq text s 0 room) ∙ take_at text (drop (0 + length text) s) end (omega arith);
    }

pub begins_as : {out a b : List ℕ} {end : ℕ} → a ≡ b → Begins out a end → Begins out b end
begins_as e h = rw e at h
