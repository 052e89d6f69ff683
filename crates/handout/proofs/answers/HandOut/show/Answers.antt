-- The order of the field's level and the reader's says which entry is shown.
use Prim.Native.Nat.{ℕ}
use native.Mathlib.Omega.{arith}
use mathlib.Core.Path.{◌≡◌, refl, sym, ap, ◌∙◌}
use mathlib.Core.List.{List, [], ◌∷◌, ◌++◌, append-nil}
use lib.ListN.{length, set, replicate, drop_of_length-le}
use lib.Seq.{sets, sets-eq}
use Rattle.value.specs.Bytes.{bits_of, bytes_of}
use Rattle.levels.specs.Lattice.{lattice}
use Rattle.store.specs.Marks.{mark_of}
use Rattle.store.specs.Stores.{mark_at, value_of, cell_at}
use Rattle.handout.proofs.Alike.{shown_elsewhere}
use Rattle.handout.proofs.Answering.{shown-below}
use Rattle.handout.proofs.answers.HandOut.show.Goals as goal

-- a byte and a value are all of an entry
whole_entry : (entry bytes : List ℕ) → length entry ≡ 5 → length bytes ≡ 4 → sets (set entry 0 1) 1 bytes ≡ 1 ∷ bytes
whole_entry [] bytes long four = absurd (omega arith)
whole_entry (x ∷ rest) bytes long four =
    sets-eq bytes (1 ∷ rest) 1 (omega arith) ∙ ap (λ (l : List ℕ). (1 ∷ bytes) ++ l) (drop_of_length-le (1 ∷ rest) (omega arith)) ∙ append-nil (1 ∷ bytes)

pub returns-then-at_or_below : goal.returns-then-at_or_below
unfolding cell_at bytes_of
returns-then-at_or_below c =
    let shows = shown-below _ _ _ _ c.requires.passes (sym c.at_or_below.ensures ∙ c.if-at_or_below.true) in
    c.write.ensures ∙ whole_entry c.args.entry.now (bytes_of c.value_at.result.n) c.requires.size refl ∙ rw c.value_at.ensures (sym shows)

pub returns-else-at_or_below : goal.returns-else-at_or_below
unfolding cell_at bits_of bytes_of
returns-else-at_or_below c =
    let a = c.args.self.now in
    c.fill.ensures.after (λ y e. e) ∙ ap (λ (n : ℕ). replicate {A = ℕ} n 0) c.requires.size
    ∙ sym (shown_elsewhere (lattice a.levels.rows.now) a.reader (value_of a.store.now c.args.field) (mark_of (mark_at a.store.now c.args.field)) (sym c.at_or_below.ensures ∙ c.if-at_or_below.false))
