-- Below 10 the one digit is put; from 10 on those of n / 10, which is smaller, and one more.
use Rattle.std.proofs.Common.{arith, sym, ◌%◌, ◌≡◌}
use Rattle.report.proofs.Putting.{put_as, ◌then◌}
use Rattle.report.proofs.Digits.{decimal_one, decimal_more}
use Rattle.report.proofs.number.+put_decimal.Goals.{then-n-ge10, else-n-ge10}
use Rattle.report.proofs.number.+put_decimal.Goals as goal

pub returns : goal.returns
returns t c =
    elim c.if-n-ge10.branch [
      | then-n-ge10 w ↦ put_as (sym (decimal_more c.args.n w.if-n-ge10.true)) (w.put_decimal-last.ensures then rw (w.out-is, w.last-is) at c.put_byte.ensures)
      | else-n-ge10 w ↦ let same : c.args.n % 10 ≡ c.args.n = omega (arith, w.if-n-ge10.false) in
          put_as (sym (decimal_one c.args.n w.if-n-ge10.false)) (rw (w.out-is, w.last-is, same) at c.put_byte.ensures)
    ]
