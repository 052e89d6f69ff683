-- The number, the place and the units in the word are those of the end.
use mathlib.Core.Path.{◌≡◌, sym, ◌∙◌}
use Rattle.basis.specs.Numbers.{number_of}
use Rattle.marks.specs.Inside.Words.{number_in}
use Rattle.beltuqash.proofs.Running.{stop_answer}
use Rattle.beltuqash.proofs.runs.stopped.Goals as goal

pub returns : goal.returns
returns c = λ fields out.
    let number_is : number_of c.unwrap.result ≡ number_in c.args.word = rw c.unwrap.ensures at c.try_from.ensures ∙ c.number.ensures in
    rw (number_is, c.place.ensures, c.left.ensures) (sym (stop_answer c.args.word c.args.fuel c.requires.0 fields out))
