-- The kinds of a node, as the code names them: each has its place among `kinds` for its number.
use Rattle.std.specs.Prelude.{ℕ, ◌≡◌, ◌<◌, Result, MatchResult}
use Rattle.nodes.specs.declared.kinds.Kind.{Kind}
use Rattle.nodes.specs.declared.kinds.Kind.TheVariants.{Constant, Field, Operator, Not, Seal, Skip, Assign, Sequence, If, While}
use Rattle.nodes.specs.declared.kinds.UnknownKind.{UnknownKind}

abbrev pub number_of_kind : Kind → ℕ
number_of_kind Constant = 0
number_of_kind Field = 1
number_of_kind Operator = 2
number_of_kind Not = 3
number_of_kind Seal = 4
number_of_kind Skip = 5
number_of_kind Assign = 6
number_of_kind Sequence = 7
number_of_kind If = 8
number_of_kind While = 9

-- a byte is read as the kind with that number; above 9 there is none
abbrev pub HasKind : ℕ → Result Kind UnknownKind → Type 0
HasKind byte read = MatchResult read (λ kind. number_of_kind kind ≡ byte) (λ e. (e.0 ≡ byte) × (9 < byte))
