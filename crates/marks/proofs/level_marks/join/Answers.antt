-- A mark joined with itself is itself. Else the level is the join of both levels, and the mark is partial if either is.
use Prim.Native.Nat.{ℕ, ◌<◌}
use native.Mathlib.Omega.{arith}
use mathlib.Core.Path.{◌≡◌, sym, ap, ap₂, ◌∙◌}
use mathlib.Core.Bool.{Bool, true, ◌||◌}
use mathlib.Core.List.{List}
use Rattle.levels.specs.Levels.{count, right}
use Rattle.levels.specs.Lattice.{lattice}
use Rattle.levels.proofs.Facts.{facts}
use Rattle.store.specs.Marks.{mark_of}
use Rattle.store.proofs.Marks.{known_is, known_at, mark-whole}
use Rattle.rules.specs.LevelMarks.{joined}
use Rattle.marks.proofs.Marking.{joined_same, joined-whole, joined_partial}
use Rattle.marks.proofs.level_marks.join.Goals as goal

pub returns-then-m-k : goal.returns-then-m-k
returns-then-m-k c =
    let rows = c.args.levels.rows.now in
    let m = c.args.m in
    (joined_same rows m c.args.levels.order c.requires.first ∙ ap (λ (k : ℕ). joined (lattice rows) (mark_of m) (mark_of k)) c.if-m-k.true, c.requires.first)

pub level_of-requires : goal.level_of-requires
level_of-requires c = (known_is _ _ c.requires.first).0

pub level_of-requires-2 : goal.level_of-requires-2
level_of-requires-2 c = (known_is _ _ c.requires.second).0

pub join-level-requires : goal.join-level-requires
join-level-requires c =
    (rw c.level_of.ensures.0 (known_is _ _ c.requires.first).1, rw c.level_of-2.ensures.0 (known_is _ _ c.requires.second).1)

-- the level's number is below 16
level_few : (rows : List ℕ) {level : ℕ} → right rows ≡ true → level < count rows → level < 16
level_few rows order h = omega (arith, h, (facts rows order).few)

pub partial_at-requires : goal.partial_at-requires
partial_at-requires c = level_few c.args.levels.rows.now c.args.levels.order c.join-level.ensures.1

pub returns-then-is_partial : goal.returns-then-is_partial
returns-then-is_partial c =
    let p = c.requires in
    let level_is = rw (c.level_of.ensures.0, c.level_of-2.ensures.0) at c.join-level.ensures.0 in
    let either = ap₂ (λ (b d : Bool). b || d) c.is_partial.ensures c.is_partial-2.ensures in
    let (made, few) = c.partial_at.ensures in
    (made ∙ joined_partial _ _ _ p.first p.second _ level_is (sym either ∙ c.if-is_partial.true), known_at _ _ made few c.join-level.ensures.1)

pub overflow_cast-result : goal.overflow_cast-result
overflow_cast-result c = omega (arith, level_few c.args.levels.rows.now c.args.levels.order c.join-level.ensures.1)

pub returns : goal.returns
returns c =
    let p = c.requires in
    let level_is = rw (c.level_of.ensures.0, c.level_of-2.ensures.0) at c.join-level.ensures.0 in
    let either = ap₂ (λ (b d : Bool). b || d) c.is_partial.ensures c.is_partial-2.ensures in
    let few = level_few c.args.levels.rows.now c.args.levels.order c.join-level.ensures.1 in
    let made = mark-whole _ few in
    (made ∙ joined-whole _ _ _ p.first p.second _ level_is (sym either ∙ c.if-is_partial.false), known_at _ _ made (omega arith) c.join-level.ensures.1)
