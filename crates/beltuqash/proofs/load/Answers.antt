-- What is found is what the checks tell; the sheet stays as it was.
use Rattle.basis.proofs.Checks.{judged_told}
use Rattle.beltuqash.specs.Calls.{load}
use Rattle.beltuqash.proofs.load.Goals as goal

pub returns-clause-tells : goal.returns-clause-tells
unfolding load
returns-clause-tells c = judged_told _ _ c.judge_sheet.ensures
