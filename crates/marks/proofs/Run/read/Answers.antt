-- A level's mark is read as it stands.
use native.Mathlib.Omega.{arith}
use mathlib.Core.Path.{refl}
use Rattle.marks.specs.Inside.Meanings.{meaning}
use Rattle.store.proofs.Marks.{known_is}
use Rattle.marks.proofs.Run.read.Goals as goal

pub returns : goal.returns
unfolding meaning
returns c = record { is = refl; known = c.requires; few = omega (arith, (known_is _ _ c.requires).0) }
