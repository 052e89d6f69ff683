-- The order's own answer, asked about the level of the field's mark and the reader.
use mathlib.Core.Path.{sym, ap, ◌∙◌}
use Prim.Native.Nat.{ℕ}
use Rattle.levels.proofs.Laws.{le-at}
use Rattle.store.specs.declared.Mode.TheVariants.{Permissive}
use Rattle.store.specs.Marks.{level_of, mark_of}
use Rattle.store.proofs.Marks.{known_is, marks-known}
use Rattle.handout.proofs.answers.HandOut.at_or_below.Goals as goal

pub level_of-requires : goal.level_of-requires
level_of-requires c = rw c.mark_at.ensures.0 (known_is _ _ (marks-known Permissive _ _ _ c.args.self.now.asks.marks _ c.requires)).0

-- the level that was asked about is the field's
pub at_or_below-requires : goal.at_or_below-requires
at_or_below-requires c =
    let p = c.args.self.now.asks in
    let known = known_is _ _ (marks-known Permissive _ _ _ p.marks _ c.requires) in
    (rw (c.level_of.ensures.0 ∙ ap (λ (m : ℕ). level_of (mark_of m)) c.mark_at.ensures.0) known.1, p.reader-known)

pub returns : goal.returns
returns c =
    let p = c.args.self.now.asks in
    let known = known_is _ _ (marks-known Permissive _ _ _ p.marks _ c.requires) in
    (rw (c.level_of.ensures.0 ∙ ap (λ (m : ℕ). level_of (mark_of m)) c.mark_at.ensures.0) at c.at_or_below.ensures) ∙ sym (le-at _ _ _ known.1 p.reader-known)
