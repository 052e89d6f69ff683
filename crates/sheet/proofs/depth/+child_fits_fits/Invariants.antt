-- fits asks for the children of its own node, and those for nodes with lower numbers.
use Prim.Native.Nat.{◌+◌, ◌*◌}
use Rattle.sheet.proofs.depth.+child_fits_fits.Given as goal

abbrev pub decreases-child_fits : goal.decreases-child_fits
decreases-child_fits l = l.n * 2

abbrev pub decreases-fits : goal.decreases-fits
decreases-fits l = l.n * 2 + 1
