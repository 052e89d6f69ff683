-- A skip leaves what it was given but for its unit; an assignment stops or leaves the field's new word.
use native.Mathlib.Omega.{arith}
use mathlib.Core.Path.{refl, sym, ◌∙◌}
use Rattle.marks.proofs.Results.{stops_so, goes_so}
use Rattle.nodes.specs.declared.kinds.Kind.TheVariants.{Skip}
use Rattle.flow.proofs.Numbered.{is_kind}
use Rattle.flow.proofs.Running.{starts, skip-done, assign-stops, assign-done}
use Rattle.flow.proofs.commands.single.Goals as goal

pub returns-then-eq : goal.returns-then-eq
returns-then-eq c = rw c.done.ensures (skip-done _ _ _ _ _ (starts _ _ _ _ _ c.requires.0 (omega arith)) refl (sym c.known_kind.ensures ∙ is_kind _ Skip c.if-eq.ensures))

pub returns-then-is_stop : goal.returns-then-is_stop
returns-then-is_stop c = assign-stops _ _ _ _ _ (starts _ _ _ _ _ c.requires.0 (omega arith)) refl c.assign-put.ensures (stops_so c.if-is_stop.ensures) c.with_left.ensures

pub returns : goal.returns
returns c = rw c.done-2.ensures (assign-done _ _ _ _ _ (starts _ _ _ _ _ c.requires.0 (omega arith)) refl c.assign-put.ensures (goes_so c.if-is_stop.ensures))
