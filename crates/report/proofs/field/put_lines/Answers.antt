-- One line more at each turn.
use mathlib.Core.Path.{sym}
use Rattle.report.proofs.Putting.{put-none, put_as, ◌then◌, each_none, each_more}
use Rattle.report.proofs.field.put_lines.Goals as goal

pub loop-i-init : goal.loop-i-init
loop-i-init c = put_as (sym (each_none _)) (put-none _ _)

pub loop-i-preserved : goal.loop-i-preserved
loop-i-preserved c = put_as (each_more _ _) (c.loop-i.invariant then c.put_line-end.ensures)
