-- The count and the entries so far, then what stood there.
use Prim.Native.Nat.{ℕ, ◌≤◌}
use mathlib.Core.Path.{◌≡◌}
use mathlib.Core.List.{◌∷◌}
use lib.ListN.{take, drop}
use Rattle.levels.specs.Lattice.{lattice}
use Rattle.store.specs.Stores.{store_of}
use Rattle.handout.specs.Answers.{answer_at, all_shown}
use Rattle.handout.proofs.answers.HandOut.give.Given as goal

abbrev pub invariant-loop-position : goal.invariant-loop-position
invariant-loop-position l =
    record {
      written : take (answer_at l.position) l.out ≡ l.count ∷ 0 ∷ all_shown (lattice l.self.levels.rows.now) l.self.reader (store_of l.self.store.now) l.self.request.bytes.now l.position;
      rest : (k : ℕ) → answer_at l.position ≤ k → drop k l.out ≡ drop k l.fn.out;
    }
