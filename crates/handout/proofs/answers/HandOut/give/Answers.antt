-- One entry more at each turn; past the last position the answer is written.
use native.Mathlib.Omega.{arith}
use native.Mathlib.Nat.{le_antisymm}
use Prim.Native.Nat.{ℕ, ◌+◌, ◌%◌, ◌≤◌}
use mathlib.Core.Path.{◌≡◌, sym, ap, ap₂, ◌∙◌}
use mathlib.Core.List.{List, ◌∷◌, ◌++◌}
use lib.ListN.{length, set, take, drop, length-take, length-drop}
use lib.Seq.{drop-set-lt}
use Rattle.std.proofs.lemmas.List.{take-append-drop}
use Rattle.std.proofs.lemmas.Slice.{take-put_mid, drop-put_mid}
use Rattle.basis.proofs.Filling.{headed_length, fill_first}
use Rattle.levels.specs.Lattice.{lattice}
use Rattle.store.specs.Stores.{store_of}
use Rattle.handout.specs.Requests.{asked_count}
use Rattle.handout.specs.Answers.{answer_bytes, answer_at, shown, all_shown}
use Rattle.handout.proofs.Answering.{none-refuses, none-shown, one_shown_more}
use Rattle.handout.proofs.answers.HandOut.give.Goals as goal

pub loop-position-init : goal.loop-position-init
loop-position-init c =
    let count = c.count-count.result in
    let z = c.args.out.now in
    record {
      written = ap (take 2) (fill_first count z (omega (arith, c.requires.room))) ∙ ap (λ (l : List ℕ). count ∷ 0 ∷ l) (sym (none-shown _ _ _ _));
      rest = λ k h. drop-set-lt k (set z 0 count) 1 0 (omega arith) ∙ drop-set-lt k z 0 count (omega arith);
    }

pub show-requires-clause-passes : goal.show-requires-clause-passes
show-requires-clause-passes c = rw c.field.ensures.asked (none-refuses _ _ _ _ c.requires.none_refuses _ (omega (arith, c.loop-position-test.true, c.count-count.ensures.asked)))

pub loop-position-preserved : goal.loop-position-preserved
loop-position-preserved c =
    let a = c.args.self.now in
    let at = answer_at c.loop-position.position in
    let now = c.loop-position.out in
    let entry = c.show.new.entry in
    let inside : at + 5 ≤ length now = omega (arith, c.loop-position-test.true, c.count-count.ensures.asked, c.requires.room, c.loop-position.auto.out, headed_length c.count-count.result c.args.out.now) in
    let long : length entry ≡ 5 = omega (arith, c.show.auto.entry, length-take {A = ℕ}, length-drop at now) in
    let shows = c.show.ensures ∙ ap (λ (i : ℕ). shown (lattice a.levels.rows.now) a.reader (store_of a.store.now i)) c.field.ensures.asked in
    record {
      written = take-put_mid at _ now entry _ (omega arith) (omega arith)
          ∙ ap₂ (λ (l m : List ℕ). l ++ m) c.loop-position.invariant.written shows
          ∙ ap (λ (l : List ℕ). c.count-count.result ∷ 0 ∷ l) (one_shown_more (lattice a.levels.rows.now) a.reader (store_of a.store.now) a.request.bytes.now c.loop-position.position);
      rest = λ k h. drop-put_mid at _ now entry k (omega arith) (omega arith) (omega arith) ∙ c.loop-position.invariant.rest k (omega arith);
    }

pub returns : goal.returns
unfolding answer_bytes
returns c =
    let a = c.args.self.now in
    let count = c.count-count.ensures in
    let inv = c.loop-position.invariant in
    let at = answer_at c.loop-position.position in
    let byte : c.count-count.result ≡ asked_count a.request.bytes.now % 256 = omega (arith, count.asked, count.few) in
    let all = le_antisymm c.loop-position.auto.position-end c.loop-position-test.false ∙ count.asked in
    sym (take-append-drop at c.loop-position.out)
    ∙ ap₂ (λ (l m : List ℕ). l ++ m) inv.written (inv.rest at (omega arith))
    ∙ ap₂ (λ (n k : ℕ). n ∷ 0 ∷ (all_shown (lattice a.levels.rows.now) a.reader (store_of a.store.now) a.request.bytes.now k ++ drop (answer_at k) c.args.out.now)) byte all
