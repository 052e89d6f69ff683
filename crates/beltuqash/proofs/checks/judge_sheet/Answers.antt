-- The number and the place of what is wrong; the place is a node's number, so it fits.
use native.Mathlib.Omega.{arith}
use mathlib.Core.Path.{refl, sym, ap, ap₂, ◌∙◌}
use Rattle.basis.specs.Answer.{refusal, refused}
use Rattle.basis.specs.Checks.{all_hold, tells}
use Rattle.sheet.proofs.Loading.{load-placed}
use Rattle.beltuqash.proofs.checks.judge_sheet.Goals as goal

pub returns-in-Ok : goal.returns-in-Ok
unfolding all_hold
returns-in-Ok c = rw (sym c.in-Ok.ensures) refl

pub overflow_cast-place : goal.overflow_cast-place
overflow_cast-place c = omega (arith, c.place.ensures, (rw (sym c.in-Err.ensures) at (load-placed c.args.sheet.now)))

pub returns-in-Err : goal.returns-in-Err
unfolding all_hold tells
returns-in-Err c = rw (sym c.in-Err.ensures) (refl, ap refused c.at.ensures ∙ ap₂ refusal c.number.ensures c.place.ensures)
