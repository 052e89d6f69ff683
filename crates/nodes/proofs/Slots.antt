-- A byte that is no kind's number has no slots.
use Prim.Native.Nat.{ℕ, ◌<◌}
use mathlib.Core.Path.{◌≡◌, sym, ap}
use mathlib.Core.List.{List, []}
use lib.ListN.{get_or, get_or-eq_default}
use Rattle.nodes.specs.Nodes.{kinds, held_in}
use Rattle.nodes.specs.declared.Held.{Held}
use Rattle.nodes.specs.declared.Held.TheVariants.{Nothing}

pub held_past : (kind k : ℕ) → 9 < kind → Nothing ≡ held_in kind k
unfolding held_in kinds
held_past kind k h = ap (λ (l : List Held). get_or l k Nothing) (sym (get_or-eq_default kinds [] h))
