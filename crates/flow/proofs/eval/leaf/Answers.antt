-- A field has its word's value and mark, a constant its own.
use Prim.Native.Nat.{ℕ, ◌<◌}
use native.Mathlib.Omega.{arith}
use mathlib.Core.Path.{◌≡◌, sym, ◌∙◌}
use Rattle.nodes.specs.Nodes.{kinds, held_in}
use Rattle.sheet.proofs.Trees.{held_there}
use Rattle.nodes.specs.declared.kinds.Kind.TheVariants.{Field}
use Rattle.flow.proofs.Numbered.{is_kind, no_kind}
use Rattle.flow.proofs.Expressions.{held_field, constant_word, field_word}
use Rattle.flow.proofs.eval.leaf.Goals as goal

-- a leaf that is no field is a constant
no_field : {kind got : ℕ} → got ≡ kind → kind < 2 → (got ≡ 1 → ⊥) → kind ≡ 0
no_field is leaf field = omega arith

pub bounds-work-a : goal.bounds-work-a
bounds-work-a c =
    let p = c.requires.0 in
    let few = p.ready.few-fields in
    omega (arith, c.slot-a.ensures.0, held_field p.ready.formed _ p.inside (sym c.known_kind.ensures ∙ is_kind _ Field c.if-eq.ensures))

pub returns-then-eq : goal.returns-then-eq
returns-then-eq c =
    field_word c.requires.0 (sym c.known_kind.ensures ∙ is_kind _ Field c.if-eq.ensures) c.slot-a.ensures.0 c.read.ensures c.new.ensures

pub constant_at-requires : goal.constant_at-requires
unfolding held_in kinds
constant_at-requires c =
    let p = c.requires.0 in
    rw c.slot-a.ensures.0 (held_there p.ready.formed _ p.inside 0 0 (no_field c.known_kind.ensures c.requires.1 (no_kind _ Field c.if-eq.ensures)) (omega arith))

pub returns : goal.returns
returns c =
    constant_word c.requires.0 (no_field c.known_kind.ensures c.requires.1 (no_kind _ Field c.if-eq.ensures)) c.slot-a.ensures.0 c.constant_at.ensures c.constant.ensures c.new-2.ensures
