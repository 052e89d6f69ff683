-- The count and every level are judged; where they pass, the rows are right exactly if some row has every level.
use borrow.Author.Rules.{rules}
use borrow.Author.Tests.{tests}
use mathlib.Core.Path.{◌≡◌, sym, ◌∙◌}
use mathlib.Core.Bool.{true≢false}
use Prim.Native.Nat.{◌<◌, ◌≤◌}
use Rattle.basis.specs.Tests.{all}
use Rattle.basis.proofs.Tests.{is_false, all-at, all_of}
use Rattle.basis.proofs.Iterators.{range-all}
use Rattle.levels.specs.Levels.{count, right}
use Rattle.levels.specs.Inside.Judging.{level_right}
use Rattle.levels.proofs.Facts.{facts}
use Rattle.levels.proofs.Judging.{level-right, judged}
use Rattle.levels.proofs.Rows.{is_some_row}
use Rattle.levels.proofs.right.Goals as goal
use Rattle.levels.proofs.right.Goals.{then-contains, else-contains}

pub returns-then-all : goal.returns-then-all
returns-then-all c = elim c.if-contains.branch [
  | then-contains w ↦
      let asked : w.all.result ≡ all (count c.args.rows.now) (level_right c.args.rows.now) = range-all _ _ _ w.all.ensures.ran (λ i b q h. search (rules, tests)) in
      let s = c.args.rows.now in
      let limits : (0 < count s) × (count s ≤ 16) = search (rules, tests) in
      c.is_some.ensures ∙ is_some_row s _ _ c.with_row.ensures
      ∙ rw c.full.ensures (judged s limits.0 limits.1 (all-at _ _ (sym asked ∙ sym w.value-is ∙ c.if-all.true)))
  | else-contains w ↦ absurd (true≢false (sym c.if-all.true ∙ w.value-is ∙ w.if-contains.false))
]

pub returns-else-all : goal.returns-else-all
returns-else-all c = c.if-all.false ∙ sym (is_false (right c.args.rows.now) (λ h. elim c.if-contains.branch [
  | then-contains w ↦
      let asked : w.all.result ≡ all (count c.args.rows.now) (level_right c.args.rows.now) = range-all _ _ _ w.all.ensures.ran (λ i b q h. search (rules, tests)) in
      true≢false (sym (all_of _ _ (level-right _ h)) ∙ sym asked ∙ sym w.value-is ∙ c.if-all.false)
  | else-contains w ↦ let few = (facts _ h).few in let some_level = (facts _ h).up.some_level in search (rules, tests)
]))
