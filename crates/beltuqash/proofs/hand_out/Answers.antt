-- What the checks tell is told; where all hold, the answer is written. What is only read stays as it was.
use mathlib.Core.Path.{refl}
use Rattle.std.proofs.lemmas.Result.{err_from_is_err_and}
use Rattle.basis.proofs.Checks.{goes_on, refuses}
use Rattle.beltuqash.specs.Calls.{answered, hand_out}
use Rattle.beltuqash.proofs.Checking.{hand_out_holds}
use Rattle.beltuqash.proofs.hand_out.Goals as goal

pub returns-in_err-judge_hand_out-clause-yields : goal.returns-in_err-judge_hand_out-clause-yields
unfolding hand_out
returns-in_err-judge_hand_out-clause-yields c =
    let p = err_from_is_err_and c.from_residual.result c.from_residual.ensures.1 in
    let (fails, told) = c.in_err-judge_hand_out.ensures.told in
    rw (p.1, p.2, refuses _ _ _ fails) (told, refl)

pub give-requires : goal.give-requires
give-requires c =
    let asked = c.in_ok-judge_hand_out.ensures.asked in
    let (requested, room, none) = hand_out_holds _ _ _ _ _ c.in_ok-judge_hand_out.ensures.told in
    rw (asked.levels, asked.store, asked.reader, asked.request) (record { none_refuses = none; room = room })

pub returns-clause-yields : goal.returns-clause-yields
unfolding hand_out answered
returns-clause-yields c =
    let asked = c.in_ok-judge_hand_out.ensures.asked in
    rw (goes_on _ _ _ c.in_ok-judge_hand_out.ensures.told) (refl, rw (asked.levels, asked.store, asked.reader, asked.request) at c.give.ensures)
