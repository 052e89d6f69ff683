-- What the sheet's checks tell is told; where all hold, the store's decide.
use Rattle.std.proofs.lemmas.Result.{err_from_is_err_and}
use Rattle.basis.proofs.Checks.{judge_append, judge_before}
use Rattle.beltuqash.specs.Calls.{sheet_checks, store_checks}
use Rattle.beltuqash.proofs.Checking.{sheet_holds}
use Rattle.beltuqash.proofs.checks.judge_both.Goals as goal

pub returns-in_err-judge_sheet : goal.returns-in_err-judge_sheet
returns-in_err-judge_sheet c =
    let p = err_from_is_err_and c.from_residual.result c.from_residual.ensures.1 in
    rw (p.1, p.2) (judge_before (sheet_checks c.args.sheet.now) _ _ c.in_err-judge_sheet.ensures)

pub judge_store-requires : goal.judge_store-requires
judge_store-requires c = sheet_holds _ c.in_ok-judge_sheet.ensures

pub returns : goal.returns
returns c =
    let a = c.args in
    judge_append (sheet_checks a.sheet.now) (store_checks a.sheet.now a.store.now a.mode) c.in_ok-judge_sheet.ensures c.judge_store.result c.judge_store.ensures
