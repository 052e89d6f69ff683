-- The test takes one count more at each turn; past the last one it is all of them.
use Prim.Native.Nat.{ℕ, ◌<◌}
use native.Mathlib.Omega.{arith}
use mathlib.Core.Path.{◌≡◌, sym, ap, ◌∙◌}
use mathlib.Core.Bool.{Bool, ◌&&◌}
use lib.Dec.{eqb}
use lib.ListN.{get_or}
use Rattle.std.proofs.lemmas.List.{get_or-take, length-take-le}
use Rattle.basis.specs.Tests.{all}
use Rattle.basis.proofs.Tests.{all_none, all_suc}
use Rattle.nodes.proofs.uses.all_once.Goals as goal

pub loop-uses-init : goal.loop-uses-init
loop-uses-init c = sym (all_none _)

pub loop-uses-preserved : goal.loop-uses-preserved
loop-uses-preserved c =
    let at = c.loop-uses.uses-index in
    let inside : at < c.args.n = omega (arith, length-take-le c.args.n c.args.used.now c.requires) in
    rw (all_suc (λ k. eqb (get_or c.args.used.now k 0) 1) at, get_or-take c.args.n c.args.used.now at 0 inside)
    (ap (λ (once : Bool). once && eqb (get_or c.args.used.now at 0) 1) c.loop-uses.invariant)

pub returns : goal.returns
returns c =
    let last : c.loop-uses.uses-index ≡ c.args.n = omega (arith, length-take-le c.args.n c.args.used.now c.requires) in
    c.loop-uses.invariant ∙ ap (λ (n : ℕ). all n (λ k. eqb (get_or c.args.used.now k 0) 1)) last
