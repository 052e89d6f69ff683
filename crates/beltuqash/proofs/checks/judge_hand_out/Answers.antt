-- What the checks of sheet and store tell is told; where all hold, the request's decide.
use mathlib.Core.List.{◌++◌}
use Rattle.std.proofs.lemmas.Result.{err_from_is_err_and}
use Rattle.basis.proofs.Checks.{judge_append, judge_before}
use Rattle.store.specs.declared.Mode.TheVariants.{Permissive}
use Rattle.beltuqash.specs.Calls.{sheet_checks, store_checks, request_checks}
use Rattle.beltuqash.proofs.Checking.{both_hold}
use Rattle.beltuqash.proofs.checks.judge_hand_out.Goals as goal

pub returns-in_err-judge_both-clause-told : goal.returns-in_err-judge_both-clause-told
returns-in_err-judge_both-clause-told c =
    let a = c.args in
    let p = err_from_is_err_and c.from_residual.result c.from_residual.ensures.1 in
    rw (p.1, p.2) (judge_before (sheet_checks a.sheet.now ++ store_checks a.sheet.now a.store.now Permissive) _ _ c.in_err-judge_both.ensures)

pub judge_request-requires : goal.judge_request-requires
judge_request-requires c = both_hold _ _ _ c.in_ok-judge_both.ensures

pub returns-clause-told : goal.returns-clause-told
returns-clause-told c =
    let a = c.args in
    judge_append (sheet_checks a.sheet.now ++ store_checks a.sheet.now a.store.now Permissive) (request_checks a.sheet.now a.store.now a.reader a.request.now a.room)
    c.in_ok-judge_both.ensures c.judge_request.result c.judge_request.ensures.told
