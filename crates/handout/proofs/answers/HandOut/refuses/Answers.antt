-- What was asked is whether the field's mark is partial.
use mathlib.Core.Path.{sym, ◌∙◌}
use Rattle.handout.proofs.Answering.{whole-passes, partial_refuses}
use Rattle.handout.proofs.answers.HandOut.refuses.Goals as goal

pub returns-then-is_partial : goal.returns-then-is_partial
returns-then-is_partial c = c.at_or_below.ensures ∙ sym (partial_refuses _ _ _ _ (rw c.mark_at.ensures.0 at (sym c.is_partial.ensures ∙ c.if-is_partial.true)))

pub returns-else-is_partial : goal.returns-else-is_partial
returns-else-is_partial c = c.if-is_partial.false ∙ sym (whole-passes _ _ _ _ (rw c.mark_at.ensures.0 at (sym c.is_partial.ensures ∙ c.if-is_partial.false)))
