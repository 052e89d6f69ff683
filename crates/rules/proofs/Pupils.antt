-- The rules keep secrets and end as published; for two pupils' monitors there are two runs that leak, and for the third a run that ends otherwise, worked out
-- by computing.
use Prim.Native.Nat.{ℕ, zero, suc}
use mathlib.Core.Path.{◌≡◌, refl, sym, ap}
use mathlib.Core.Bool.{Bool, true, true≢false}
use mathlib.Core.List.{List, [], ◌∷◌}
use mathlib.Core.Logic.{inl, inr}
use lib.IntN.{pos}
use Rattle.value.specs.Values.{operating}
use Rattle.value.specs.declared.Value.{Value}
use Rattle.levels.specs.Levels.{right}
use Rattle.levels.specs.Lattice.{lattice, ordering}
use Rattle.levels.proofs.Laws.{laws}
use Rattle.sheet.specs.Trees.{constant, field, operator, Cmd, skip, assign, sequence, if_else, while}
use Rattle.store.specs.Cells.{Cell, cell, Store}
use Rattle.rules.specs.Rules.{running}
use Rattle.store.specs.declared.Mode.TheVariants.{Permissive}
use Rattle.store.specs.Marks.{Mark, whole, partial, is_partial}
use Rattle.rules.specs.LevelMarks.{joined, entered, stored, marking}
use Rattle.rules.specs.Agreement.{Agree, shown, hidden, second_partial}
use Rattle.rules.specs.Pupils.{KeepsSecrets, KeepsToRules, a_kept, old_context_later, never_clean, PupilsCaught, stored_keeping, later_rounds, stored_above}
use Rattle.rules.proofs.Within.{done-once}
use Rattle.rules.proofs.Published.{follows, runs_as_published}
use Rattle.rules.proofs.SafeMarks.{noninterference}

number : ℕ → Value
number n = record { n = pos n }

-- two fields, and all others as the second
fields : Cell Mark → Cell Mark → Store Mark
fields a b zero = a
fields a b (suc i) = b

-- ── A kept ──────────────────────────────────────────────────────────────────────────────────

diamond : List ℕ
diamond = 15 ∷ 0 ∷ 10 ∷ 0 ∷ 12 ∷ 0 ∷ 8 ∷ 0 ∷ []

diamond-right : right diamond ≡ true
unfolding diamond ordering
diamond-right = refl

-- if field 0 then field 1 := 5 else skip, for the reader at level 1: field 0 is whole 1; field 1 is whole 3 in the first store and whole 2 in the second
assigns : Cmd
assigns = if_else 3 (field 0) (assign 1 1 (constant (number 5))) (skip 2)

start : ℕ → Store Mark
start A = fields (cell (number 1) (whole 1)) (cell (number 0) (whole A))

start-agree : (i : ℕ) → Agree (lattice diamond) 1 (start 3 i) (start 2 i)
unfolding start fields diamond ordering
start-agree zero = shown refl
start-agree (suc i) = hidden refl refl

-- whole 1 does not agree with partial 2 for him
apart : Agree (lattice diamond) 1 (cell (number 5) (whole 1)) (cell (number 5) (partial 2)) → ⊥
unfolding diamond ordering number
apart (second_partial (inl e)) = true≢false e
apart (second_partial (inr e)) = true≢false (sym e)

a_kept_leaks : KeepsSecrets a_kept → ⊥
unfolding assigns start fields number diamond ordering running operating joined entered stored_keeping stored
a_kept_leaks keeps =
    apart (keeps (lattice diamond) (laws diamond diamond-right) 1 refl Permissive assigns 0 2 2 (start 3) (start 2) start-agree _ _ 0 0 refl refl 1)

-- ── the old context in later rounds ─────────────────────────────────────────────────────────

two : List ℕ
two = 3 ∷ 0 ∷ 2 ∷ 0 ∷ []

two_right : right two ≡ true
unfolding two ordering
two_right = refl

-- while field 0 do (field 1 := 1; field 0 := field 0 - 1), for the reader at level 0: field 0 is whole 1, at 0 in the first store and at 2 in the
-- second, whose second round stores field 1 as if nothing had been asked
counts : Cmd
counts = while 5 (field 0) (sequence (assign 1 1 (constant (number 1))) (assign 4 0 (operator 3 1 (field 0) (constant (number 1)))))

from : ℕ → Store Mark
from n = fields (cell (number n) (whole 1)) (cell (number 0) (whole 0))

from_agree : (i : ℕ) → Agree (lattice two) 0 (from 0 i) (from 2 i)
unfolding from fields two ordering
from_agree zero = hidden refl refl
from_agree (suc i) = shown refl

-- 0 does not agree with 1 for him
told : Agree (lattice two) 0 (cell (number 0) (whole 0)) (cell (number 1) (whole 0)) → ⊥
unfolding number two ordering
told (hidden e d) = true≢false e

old_context_leaks : KeepsSecrets old_context_later → ⊥
unfolding counts from fields number two ordering running operating joined entered stored later_rounds
old_context_leaks keeps =
    told (keeps (lattice two) (laws two two_right) 0 refl Permissive counts 0 1 7 (from 0) (from 2) from_agree _ _ 0 0 refl refl 1)

-- ── partial as above TOP ────────────────────────────────────────────────────────────────────

-- field 0 := 5, where field 0 is partial 0
cleans : Cmd
cleans = assign 1 0 (constant (number 5))

half : Store Mark
half = fields (cell (number 0) (partial 0)) (cell (number 0) (whole 0))

-- the pupil's monitor leaves it partial, the rules whole
half_closed : Cell Mark → Bool
half_closed (cell v m) = is_partial m

never_clean_unpublished : KeepsToRules never_clean → ⊥
unfolding cleans half half_closed fields number two ordering running joined stored_above stored
never_clean_unpublished keeps =
    let 𝓘 = laws two two_right in
    let x = (runs_as_published (lattice two) 𝓘 Permissive cleans 0 half _).1 (keeps (lattice two) 𝓘 Permissive cleans 0 1 0 half _ refl) in
    let same = done-once (marking (lattice two) Permissive) cleans 0 half x.fuel 1 x.left 0 _ _ x.ends refl in
    true≢false (ap (λ (σ : Store Mark). half_closed (σ 0)) same)

pub pupils_caught : PupilsCaught
pupils_caught = record {
  rules_keep = λ 𝓛 𝓘 R below mode. noninterference 𝓛 𝓘 R below mode;
  rules_published = λ 𝓛 𝓘 mode c context fuel left σ σ'. follows 𝓛 𝓘 mode c context σ σ' fuel left;
  a_kept_leaks = a_kept_leaks;
  old_context_leaks = old_context_leaks;
  never_clean_unpublished = never_clean_unpublished;
}
