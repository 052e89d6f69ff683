-- What the checks tell is told; where all hold, the run follows. What is only read stays as it was.
use mathlib.Core.Path.{refl}
use Rattle.std.proofs.lemmas.Result.{err_from_is_err_and}
use Rattle.basis.proofs.Checks.{goes_on, refuses}
use Rattle.beltuqash.specs.Calls.{run}
use Rattle.beltuqash.proofs.Checking.{run_holds}
use Rattle.beltuqash.proofs.run.Goals as goal

pub returns-in_err-judge_run-clause-yields : goal.returns-in_err-judge_run-clause-yields
unfolding run
returns-in_err-judge_run-clause-yields c =
    let p = err_from_is_err_and c.from_residual.result c.from_residual.ensures.1 in
    let (fails, told) = c.in_err-judge_run.ensures in
    rw (p.1, p.2, refuses _ _ _ fails) (told, refl)

pub run_from-requires : goal.run_from-requires
run_from-requires c = run_holds _ _ _ _ _ c.in_ok-judge_run.ensures

pub returns-clause-yields : goal.returns-clause-yields
unfolding run
returns-clause-yields c = rw (goes_on _ _ _ c.in_ok-judge_run.ensures) c.run_from.ensures
