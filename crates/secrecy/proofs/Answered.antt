-- One request on two stores that agree for its reader: where both are answered, no field refuses, and so both answers are the same bytes.
use Prim.Native.Nat.{ℕ, ◌≤◌}
use native.Mathlib.Omega.{arith}
use mathlib.Core.Path.{◌≡◌, sym, ap, ◌∙◌}
use mathlib.Core.Bool.{true}
use mathlib.Core.List.{List}
use borrow.Author.Tests.{eqb-true}
use lib.Dec.{eqb}
use lib.ListN.{length, take, drop}
use lib.Seq.{take_at, drop_at}
use Rattle.basis.specs.Numbers as numbers
use Rattle.basis.specs.Bytes.{word_at}
use Rattle.basis.proofs.Tests.{None, both}
use Rattle.levels.specs.Lattice.{Lattice, lattice}
use Rattle.levels.proofs.Laws.{laws}
use Rattle.sections.specs.Sections.{levels_of}
use Rattle.sheet.specs.Load.{field_count}
use Rattle.store.specs.Stores.{store_length, store_of, store_fits}
use Rattle.rules.specs.Agreement.{StoresAgree}
use Rattle.handout.specs.Requests.{asked_count, field_asked}
use Rattle.handout.specs.Answers.{answer_length, answer_bytes, refuses_at}
use Rattle.handout.proofs.Requesting.{right_has}
use Rattle.handout.proofs.Answering.{none-refuses, entries-length}
use Rattle.handout.proofs.Alike.{answers_alike}
use Rattle.basis.specs.Answer.{Outcome}
use Rattle.basis.proofs.Checks.{past_checks}
use Rattle.beltuqash.specs.Calls.{hand_out_checks, answered, hand_out}
use Rattle.beltuqash.specs.Inside.Given.{Requested}
use Rattle.beltuqash.proofs.Checking.{hand_out_numbered, hand_out_holds}

-- ── number 0, taken apart ───────────────────────────────────────────────────────────────────

abbrev pub order : List ℕ → Lattice
order sheet = lattice (levels_of sheet)

module _ (sheet : List ℕ) (R : ℕ) (request store lent : List ℕ) where
  abbrev pub NoneRefuses : Type 0
  NoneRefuses = None (asked_count request) (refuses_at (order sheet) R (store_of store) request)

  pub record Replied : Type 0 where
    pub requested : Requested sheet store R request
    pub none : NoneRefuses
    pub room : answer_length request ≤ length lent
    pub written : take (answer_length request) (hand_out sheet store R request lent).out ≡ answer_bytes (order sheet) R (store_of store) request
    pub later : drop (answer_length request) (hand_out sheet store R request lent).out ≡ drop (answer_length request) lent

  reply-length : NoneRefuses → length (answer_bytes (order sheet) R (store_of store) request) ≡ answer_length request
  unfolding answer_bytes
  reply-length none = omega (arith, entries-length (order sheet) R (store_of store) request (asked_count request) none)

  pub replied : (hand_out sheet store R request lent).answer.number ≡ numbers.done → Replied
  unfolding hand_out answered
  replied e =
      let checks = hand_out_checks sheet store R request (length lent) in
      let (hold, is) = past_checks checks lent (answered sheet store R request lent) (hand_out_numbered sheet store R request (length lent)) e in
      let (requested, room, first) = hand_out_holds sheet store R request (length lent) hold in
      let none = none-refuses (order sheet) R (store_of store) request first in
      record {
        requested = requested;
        none = none;
        room = room;
        written = ap (λ (x : Outcome). take (answer_length request) x.out) is ∙ take_at _ _ _ (reply-length none);
        later = ap (λ (x : Outcome). drop (answer_length request) x.out) is ∙ drop_at (answer_bytes (order sheet) R (store_of store) request) _ _ (reply-length none);
      }

-- ── two answers ─────────────────────────────────────────────────────────────────────────────

count-is : (fields : ℕ) (store : List ℕ) → store_fits fields store ≡ true → word_at store 0 ≡ fields
unfolding store_fits
count-is fields store e = eqb-true _ _ (both (eqb (length store) (store_length fields)) _ e).1

pub same_bytes : (sheet : List ℕ) (R : ℕ) (request s t lent₁ lent₂ : List ℕ) → StoresAgree (order sheet) R s t
    → (hand_out sheet s R request lent₁).answer.number ≡ numbers.done → (hand_out sheet t R request lent₂).answer.number ≡ numbers.done
    → take (answer_length request) (hand_out sheet s R request lent₁).out ≡ take (answer_length request) (hand_out sheet t R request lent₂).out
same_bytes sheet R request s t lent₁ lent₂ agree e₁ e₂ =
    let x = replied sheet R request s lent₁ e₁ in
    let y = replied sheet R request t lent₂ e₂ in
    let taken = x.requested.taken in
    let known = (right_has (field_count sheet) request x.requested.right_request).known in
    let alike = answers_alike (order sheet) (laws (levels_of sheet) taken.loaded.levels) R (store_of s) (store_of t) request x.none y.none
    (λ i h. agree.fields (field_asked request i) (omega (arith, known i h, count-is (field_count sheet) s taken.fits))) in
    x.written ∙ alike ∙ sym y.written
