-- A zero byte is not put, and any other is.
use mathlib.Core.Path.{sym}
use Rattle.report.proofs.Putting.{put-none, put_as}
use Rattle.report.proofs.Fields.{zero_none, other_one}
use Rattle.report.proofs.field.put_unless_zero.Goals as goal

pub returns-then-byte-eq0 : goal.returns-then-byte-eq0
returns-then-byte-eq0 c = put_as (sym (zero_none _ c.if-byte-eq0.true)) (put-none _ _)

pub returns-else-byte-eq0 : goal.returns-else-byte-eq0
returns-else-byte-eq0 c = put_as (sym (other_one _ c.if-byte-eq0.false)) c.put_byte.ensures
