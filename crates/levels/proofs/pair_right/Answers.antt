-- The code's test is the definition's, with the rows as they were read.
use mathlib.Core.Path.{◌∙◌}
use borrow.Author.Tests.{lt-ltb, le-ltb}
use Rattle.levels.specs.Levels.{below}
use Rattle.levels.specs.Inside.Judging.{pair_right}
use Rattle.levels.proofs.Rows.{is_some_row}
use Rattle.levels.proofs.pair_right.Goals as goal

pub returns-then-j-i : goal.returns-then-j-i
unfolding pair_right below
returns-then-j-i c = let ordered = rw (c.has.ensures, c.row-row_j.ensures, c.row-row_i.ensures) at c.if-ordered.true in rw (ordered, lt-ltb _ _ c.if-j-i.true)

pub returns-else-j-i : goal.returns-else-j-i
unfolding pair_right below
returns-else-j-i c =
    let ordered = rw (c.has.ensures, c.row-row_j.ensures, c.row-row_i.ensures) at c.if-ordered.true in
    c.is_some.ensures ∙ rw (ordered, le-ltb _ _ c.if-j-i.false) (is_some_row _ _ _ c.with_common_row.ensures)

pub returns-else-ordered : goal.returns-else-ordered
unfolding pair_right below
returns-else-ordered c = let ordered = rw (c.has.ensures, c.row-row_j.ensures, c.row-row_i.ensures) at c.if-ordered.false in rw (c.if-ordered.false, ordered)
