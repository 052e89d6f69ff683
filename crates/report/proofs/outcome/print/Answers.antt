-- Number 0 is done; any other is refused.
use mathlib.Core.Path.{sym}
use Rattle.report.proofs.Putting.{begins_as}
use Rattle.report.proofs.Printing.{printed-done, printed-refused}
use Rattle.report.proofs.outcome.print.Goals as goal

pub print_done-requires : goal.print_done-requires
print_done-requires c =
    let asked = c.requires in
    (asked.0 c.if-answer-eq-DONE.true, asked.1)

pub returns-then-answer-eq-DONE : goal.returns-then-answer-eq-DONE
returns-then-answer-eq-DONE c = begins_as (sym (printed-done _ _ _ c.if-answer-eq-DONE.true)) c.print_done.ensures

pub returns-else-answer-eq-DONE : goal.returns-else-answer-eq-DONE
returns-else-answer-eq-DONE c = begins_as (sym (printed-refused _ _ _ c.if-answer-eq-DONE.false)) c.print_refused.ensures
