-- A tree fits where each child's fits with one less.
use Prim.Native.Nat.{ℕ, zero-le}
use native.Mathlib.Omega.{arith}
use mathlib.Core.Path.{sym, ap, ◌∙◌}
use borrow.Author.Tests.{le-leb}
use lib.Dec.{leb}
use Rattle.sheet.proofs.Depths.{no_child, a_child, some-depth, too_deep_lem, one_decides}
use Rattle.sheet.proofs.depth.+child_fits_fits.Goals as goal

-- The slot holds a child, or none, as the code asked.
pub child_fits-returns-then-is_child : goal.child_fits-returns-then-is_child
child_fits-returns-then-is_child t c =
    let asked = sym (rw (c.held_in.ensures, c.kind_of.ensures) at c.is_child.ensures) in
    λ values. rw c.slot.ensures.0 at (c.fits.ensures values)
    ∙ ap (λ (d : ℕ). leb d c.args.most) (sym (a_child values _ _ _ (asked ∙ c.if-is_child.true)))

pub child_fits-returns : goal.child_fits-returns
child_fits-returns t c =
    let asked = sym (rw (c.held_in.ensures, c.kind_of.ensures) at c.is_child.ensures) in
    λ values. sym (ap (λ (d : ℕ). leb d c.args.most) (no_child values _ _ _ (asked ∙ c.if-is_child.false)) ∙ le-leb 0 c.args.most zero-le)

-- ── the three slots of a node ───────────────────────────────────────────────────────────────

pub fits-returns-then-most-eq0 : goal.fits-returns-then-most-eq0
fits-returns-then-most-eq0 t c =
    λ values. sym (rw c.if-most-eq0.true (some-depth values _ c.requires.formed.nodes _ c.requires.inside))

pub fits-returns-then-not-child_fits : goal.fits-returns-then-not-child_fits
fits-returns-then-not-child_fits t c =
    λ values. sym (too_deep_lem values _ c.requires.formed.nodes _ c.requires.inside _ (omega arith) 0 (omega arith)
    (sym (c.child_fits.ensures values) ∙ c.if-not-child_fits.true))

pub fits-returns-then-not-child_fits-2 : goal.fits-returns-then-not-child_fits-2
fits-returns-then-not-child_fits-2 t c =
    λ values. sym (too_deep_lem values _ c.requires.formed.nodes _ c.requires.inside _ (omega arith) 2 (omega arith)
    (sym (c.child_fits-2.ensures values) ∙ c.if-not-child_fits-2.true))

pub fits-returns : goal.fits-returns
fits-returns t c =
    λ values. c.child_fits-3.ensures values
    ∙ one_decides values _ c.requires.formed.nodes _ c.requires.inside _ (omega arith)
    (sym (c.child_fits.ensures values) ∙ c.if-not-child_fits.false)
    (sym (c.child_fits-2.ensures values) ∙ c.if-not-child_fits-2.false)
