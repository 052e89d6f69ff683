-- Each return has the checks that lead to it.
use borrow.Author.Tests.{le-leb, lt-leb, le-ltb, lt-ltb}
use Prim.Native.Nat.{ℕ, ◌/◌, ◌<◌}
use native.Mathlib.Omega.{arith}
use mathlib.Core.Path.{◌≡◌, refl, sym, ap, ◌∙◌}
use mathlib.Core.Bool.{true, ◌&&◌, true≢false}
use mathlib.Core.List.{List}
use lib.Dec.{ltb}
use lib.ListN.{length}
use Rattle.basis.specs.Numbers as numbers
use Rattle.basis.specs.Answer.{refusal, refused}
use Rattle.basis.specs.Checks.{all_hold, tells}
use Rattle.basis.proofs.Tests.{and_of_lem, and_false, is_false}
use Rattle.levels.specs.Levels.{count}
use Rattle.sections.specs.Sections.{levels_of, fields_of}
use Rattle.sheet.specs.Load.{field_count}
use Rattle.handout.specs.Requests.{asked_count, request_right}
use Rattle.handout.specs.Answers.{answer_length}
use Rattle.beltuqash.specs.Calls.{refused_position}
use Rattle.beltuqash.proofs.Checking.{asks_as}
use Rattle.beltuqash.proofs.checks.judge_request.Goals as goal

-- reader and request, as the definition tests them and as the code does
asked_as : (sheet request : List ℕ) (reader : ℕ) {rows fields : List ℕ} → rows ≡ levels_of sheet → fields ≡ fields_of sheet → reader < count rows
    → request_right (length fields / 8) request ≡ true → (ltb reader (count (levels_of sheet)) && request_right (field_count sheet) request) ≡ true
asked_as sheet request reader r f known right =
    and_of_lem (lt-ltb reader _ (rw r at known)) (rw f at right)

pub returns-in_default-clause-told : goal.returns-in_default-clause-told
unfolding all_hold tells
returns-in_default-clause-told c =
    let wrong = is_false _ (λ right. true≢false (sym (c.in_default.ensures.right.1 right))) in
    rw (and_false _ _ (rw c.of-parts.ensures.fields at wrong)) (refl, ap refused c.into.ensures)

pub returns-then-parts-reader-clause-told : goal.returns-then-parts-reader-clause-told
unfolding all_hold tells
returns-then-parts-reader-clause-told c =
    let unknown = le-ltb c.args.reader _ c.if-parts-reader.true in
    rw (rw c.of-parts.ensures.levels at unknown) (refl, ap refused c.into-then-parts-reader.ensures)

pub invariant_of-hand_out : goal.invariant_of-hand_out
invariant_of-hand_out c = rw c.of-parts.ensures.levels (record { order = c.requires.loaded.levels })

pub invariant_of-hand_out-2 : goal.invariant_of-hand_out-2
invariant_of-hand_out-2 c =
    rw (c.of-parts.ensures.levels, c.in-Some.ensures.same.1, c.of-parts.ensures.fields) (record { asks = asks_as c.requires (rw c.of-parts.ensures.levels at c.if-parts-reader.false) })

pub returns-then-room-length-clause-told : goal.returns-then-room-length-clause-told
unfolding all_hold tells
returns-then-room-length-clause-told c =
    let a = c.args in
    let asked = asked_as a.sheet.now a.request.now a.reader c.of-parts.ensures.levels c.of-parts.ensures.fields c.if-parts-reader.false (c.in-Some.ensures.right.0 refl) in
    let long = rw c.in-Some.ensures.same.0 at c.length.ensures in
    let short = lt-leb (answer_length a.request.now) a.room (omega (arith, c.if-room-length.true, long)) in
    rw (asked, short) (refl, ap refused c.into-then-room-length.ensures)

pub returns-in-Some-first_refusing-clause-told : goal.returns-in-Some-first_refusing-clause-told
unfolding all_hold tells
returns-in-Some-first_refusing-clause-told c =
    let a = c.args in
    let asked = asked_as a.sheet.now a.request.now a.reader c.of-parts.ensures.levels c.of-parts.ensures.fields c.if-parts-reader.false (c.in-Some.ensures.right.0 refl) in
    let long = rw c.in-Some.ensures.same.0 at c.length.ensures in
    let room = le-leb (answer_length a.request.now) a.room (omega (arith, c.if-room-length.false, long)) in
    let (first_is, before) = rw (c.of-parts.ensures.levels, c.in-Some.ensures.same.0) at c.in-Some-first_refusing.ensures in
    let position = refused_position a.sheet.now a.store.now a.reader a.request.now in
    let some = lt-leb (asked_count a.request.now) position (omega (arith, first_is, before)) in
    rw (asked, room, some) (refl, ap refused c.at.ensures ∙ ap (refusal numbers.partial_asked) (sym first_is))

pub returns-in-None-clause-told : goal.returns-in-None-clause-told
unfolding all_hold
returns-in-None-clause-told c =
    let a = c.args in
    let asked = asked_as a.sheet.now a.request.now a.reader c.of-parts.ensures.levels c.of-parts.ensures.fields c.if-parts-reader.false (c.in-Some.ensures.right.0 refl) in
    let long = rw c.in-Some.ensures.same.0 at c.length.ensures in
    let room = le-leb (answer_length a.request.now) a.room (omega (arith, c.if-room-length.false, long)) in
    let none_is = rw (c.of-parts.ensures.levels, c.in-Some.ensures.same.0) at c.in-None.ensures in
    let none = le-leb (asked_count a.request.now) (refused_position a.sheet.now a.store.now a.reader a.request.now) (omega (arith, none_is)) in
    rw (asked, room, none) refl
