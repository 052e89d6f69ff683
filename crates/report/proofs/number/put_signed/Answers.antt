-- The digits are those of the number without its sign.
use Rattle.std.proofs.Common.{rules, ◌≡◌, ◌∷◌, [], ◌++◌}
use Rattle.report.specs.Text.{signed, decimal}
use Rattle.report.proofs.Putting.{put_as, ◌then◌}
use Rattle.report.proofs.number.put_signed.Goals.{then-value-lt0, else-value-lt0}
use Rattle.report.proofs.number.put_signed.Goals as goal

pub returns : goal.returns
unfolding signed
returns c =
    elim c.if-value-lt0.branch [
      | then-value-lt0 w ↦ let x : (45 ∷ []) ++ decimal c.unsigned_abs.result ≡ signed c.args.value.n = search rules in put_as x (w.put_byte-digits.ensures then rw (w.out-is, w.digits-is) at c.put_decimal.ensures)
      | else-value-lt0 w ↦ let x : decimal c.unsigned_abs.result ≡ signed c.args.value.n = search rules in put_as x (rw (w.out-is, w.digits-is) at c.put_decimal.ensures)
    ]
