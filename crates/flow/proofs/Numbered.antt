-- What a test of a node's kind says of its number.
use mathlib.Core.Path.{◌≡◌, refl, sym, ◌∙◌}
use mathlib.Core.Bool.{true, false}
use borrow.Author.Tests.{eqb-true, eqb-false}
use denote.Enum.Declared.{tag_of}
use denote.Enum.Bare.{sameb}
use Rattle.nodes.specs.contracts.kinds.Kind.{the_type}
use Rattle.nodes.specs.declared.kinds.Kind.{Kind}
use Rattle.nodes.specs.declared.kinds.Kind.TheVariants.{Constant, Field, Operator, Not, Seal, Skip, Assign, Sequence, If, While}
use Rattle.nodes.specs.Kinds.{number_of_kind}

-- its place among the kinds is its number
place_is : (kind : Kind) → tag_of the_type kind ≡ number_of_kind kind
place_is Constant = refl
place_is Field = refl
place_is Operator = refl
place_is Not = refl
place_is Seal = refl
place_is Skip = refl
place_is Assign = refl
place_is Sequence = refl
place_is If = refl
place_is While = refl

pub is_kind : (kind other : Kind) → true ≡ sameb the_type kind other → number_of_kind kind ≡ number_of_kind other
is_kind kind other same = sym (place_is kind) ∙ eqb-true _ _ (sym same) ∙ place_is other

pub no_kind : (kind other : Kind) → false ≡ sameb the_type kind other → number_of_kind kind ≡ number_of_kind other → ⊥
no_kind kind other same is = eqb-false _ _ (sym same) (place_is kind ∙ is ∙ sym (place_is other))
