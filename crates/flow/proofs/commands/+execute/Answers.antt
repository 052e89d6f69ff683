-- Each call, each return and each turn, by what the command at the node is.
use Prim.Native.Nat.{ℕ, suc, ◌-◌, ◌≤◌}
use native.Mathlib.Omega.{arith}
use mathlib.Core.List.{List}
use mathlib.Core.Path.{◌≡◌, sym, ap, ◌∙◌}
use Rattle.value.specs.Values.{is_true}
use Rattle.nodes.specs.Nodes.{kind_at}
use Rattle.marks.specs.declared.Cell.{Cell as Held}
use Rattle.marks.specs.declared.Run.{Run}
use Rattle.flow.specs.Inside.Tasks.{CmdIn}
use Rattle.marks.proofs.Results.{stops_so, goes_so}
use borrow.Author.Tests.{ltb-true, ltb-false}
use Rattle.nodes.specs.declared.kinds.Kind.TheVariants.{Sequence, If}
use Rattle.flow.proofs.Numbered.{is_kind, no_kind}
use Rattle.flow.proofs.Ends.{bit-few}
use Rattle.flow.proofs.Running.{starts, child, fuel-left, node-few, turn_below, first_stops, second_next, run-spent, at_last}
use Rattle.flow.proofs.Running.{test_stops, side_below, side_next, while-done, body_below, round_stops, round_next}
use Rattle.flow.proofs.commands.+execute.Goals as goal

-- a unit is spent
spent : {left : ℕ} → (left ≡ 0 → ⊥) → left ≡ suc (left - 1)
spent some = omega arith

-- past a sequence, a skip and an assignment there is a test; past an if there is a while
a_test : {kind got : ℕ} → got ≡ kind → (got ≡ 7 → ⊥) → 7 ≤ got → 8 ≤ kind
a_test is sequence single = omega arith

a_while : {run : Run} {work : List Held} {n context got : ℕ} → CmdIn run work n context → got ≡ kind_at run.parts.nodes.now n → 8 ≤ kind_at run.parts.nodes.now n → (got ≡ 8 → ⊥)
    → kind_at run.parts.nodes.now n ≡ 9
a_while command is test if = omega (arith, command.ready.formed.kind _ command.inside)

pub loop-kind-init : goal.loop-kind-init
loop-kind-init t c = starts _ _ _ _ _ c.requires (omega arith)

-- ── a sequence ──────────────────────────────────────────────────────────────────────────────

pub execute-done-requires : goal.execute-done-requires
execute-done-requires t c =
    let seven = sym c.known_kind-kind.ensures ∙ is_kind _ Sequence c.if-eq.ensures in
    let g = c.loop-kind.invariant in
    let lower = g.lower in
    let below = turn_below _ _ _ _ _ g seven 0 (omega arith) in
    (omega (arith, c.slot.ensures.0, below.lower), child g.command (rw c.slot.ensures.0 below) g.command.context-known)

pub returns-then-is_stop : goal.returns-then-is_stop
returns-then-is_stop t c =
    let seven = sym c.known_kind-kind.ensures ∙ is_kind _ Sequence c.if-eq.ensures in
    first_stops _ _ _ _ _ c.loop-kind.invariant seven (rw c.slot.ensures.0 at c.execute-done.ensures) (stops_so c.if-is_stop.ensures)

pub loop-kind-smaller-then-eq : goal.loop-kind-smaller-then-eq
loop-kind-smaller-then-eq t c =
    let seven = sym c.known_kind-kind.ensures ∙ is_kind _ Sequence c.if-eq.ensures in
    let below = turn_below _ _ _ _ _ c.loop-kind.invariant seven 1 (omega arith) in
    omega (arith, c.slot-n.ensures.0, below.lower, c.left-left.ensures, fuel-left c.execute-done.ensures (goes_so c.if-is_stop.ensures))

pub loop-kind-preserved-then-eq : goal.loop-kind-preserved-then-eq
loop-kind-preserved-then-eq t c =
    let seven = sym c.known_kind-kind.ensures ∙ is_kind _ Sequence c.if-eq.ensures in
    rw (c.slot-n.ensures.0, c.left-left.ensures)
    (second_next _ _ _ _ _ c.loop-kind.invariant seven (rw c.slot.ensures.0 at c.execute-done.ensures) (goes_so c.if-is_stop.ensures))

-- ── any other command ───────────────────────────────────────────────────────────────────────

pub stop-requires : goal.stop-requires
stop-requires t c = node-few _ _ _ _ _ c.loop-kind.invariant

pub returns-then-left-eq0 : goal.returns-then-left-eq0
returns-then-left-eq0 t c = run-spent _ _ _ _ _ c.loop-kind.invariant (λ seven. no_kind _ Sequence c.if-eq.ensures (c.known_kind-kind.ensures ∙ seven)) c.if-left-eq0.true c.stop.ensures

pub single-requires : goal.single-requires
single-requires t c =
    let is = c.known_kind-kind.ensures in
    (c.loop-kind.invariant.command, omega (arith, ltb-true _ _ (sym c.if-is_single.ensures)))

pub returns-then-is_single : goal.returns-then-is_single
returns-then-is_single t c =
    let unit = spent c.if-left-eq0.false in
    at_last _ _ _ _ _ c.loop-kind.invariant unit c.single.ensures

-- ── a test ──────────────────────────────────────────────────────────────────────────────────

pub test-got-requires : goal.test-got-requires
test-got-requires t c =
    let test = a_test c.known_kind-kind.ensures (no_kind _ Sequence c.if-eq.ensures) (ltb-false _ _ (sym c.if-is_single.ensures)) in
    (c.loop-kind.invariant.command, test)

pub returns-then-is_stop-2 : goal.returns-then-is_stop-2
returns-then-is_stop-2 t c =
    let unit = spent c.if-left-eq0.false in
    let test = a_test c.known_kind-kind.ensures (no_kind _ Sequence c.if-eq.ensures) (ltb-false _ _ (sym c.if-is_single.ensures)) in
    test_stops _ _ _ _ _ c.loop-kind.invariant unit c.test-got.ensures test (stops_so c.if-is_stop-2.ensures) c.with_left.ensures

pub overflow_sub-holds : goal.overflow_sub-holds
overflow_sub-holds t c = omega (arith, bit-few c.is_true-holds.result)

pub loop-kind-smaller-then-eq-2 : goal.loop-kind-smaller-then-eq-2
loop-kind-smaller-then-eq-2 t c =
    let unit = spent c.if-left-eq0.false in
    let eight = sym c.known_kind-kind.ensures ∙ is_kind _ If c.if-eq-2.ensures in
    let g = c.loop-kind.invariant in
    let below = side_below _ _ _ _ _ g unit c.test-got.ensures (goes_so c.if-is_stop-2.ensures) eight c.is_true-holds.result in
    omega (arith, c.slot-n-then-eq-2.ensures.0, below.lower, unit)

pub loop-kind-preserved-then-eq-2 : goal.loop-kind-preserved-then-eq-2
loop-kind-preserved-then-eq-2 t c =
    let unit = spent c.if-left-eq0.false in
    let eight = sym c.known_kind-kind.ensures ∙ is_kind _ If c.if-eq-2.ensures in
    let holds = sym (c.is_true-holds.ensures ∙ ap is_true c.value.ensures) in
    rw (c.slot-n-then-eq-2.ensures.0, c.mark-context.ensures)
    (side_next _ _ _ _ _ c.loop-kind.invariant unit c.test-got.ensures (goes_so c.if-is_stop-2.ensures) eight
    c.is_true-holds.result holds)

-- ── a while ─────────────────────────────────────────────────────────────────────────────────

pub returns-then-is_stop-3 : goal.returns-then-is_stop-3
returns-then-is_stop-3 t c =
    let unit = spent c.if-left-eq0.false in
    let test = a_test c.known_kind-kind.ensures (no_kind _ Sequence c.if-eq.ensures) (ltb-false _ _ (sym c.if-is_single.ensures)) in
    let nine = a_while c.loop-kind.invariant.command c.known_kind-kind.ensures test (no_kind _ If c.if-eq-2.ensures) in
    let holds = sym (c.is_true-holds.ensures ∙ ap is_true c.value.ensures) in
    round_stops _ _ _ _ _ c.loop-kind.invariant unit c.test-got.ensures (goes_so c.if-is_stop-2.ensures) nine
    (holds ∙ c.if-holds.true) (rw (c.slot-then-holds.ensures.0, c.mark-context.ensures) at c.execute-round.ensures) (stops_so c.if-is_stop-3.ensures)

pub loop-kind-smaller : goal.loop-kind-smaller
loop-kind-smaller t c =
    let unit = spent c.if-left-eq0.false in
    omega (arith, unit, c.left-left-then-holds.ensures, fuel-left c.execute-round.ensures (goes_so c.if-is_stop-3.ensures))

pub loop-kind-preserved : goal.loop-kind-preserved
loop-kind-preserved t c =
    let unit = spent c.if-left-eq0.false in
    let test = a_test c.known_kind-kind.ensures (no_kind _ Sequence c.if-eq.ensures) (ltb-false _ _ (sym c.if-is_single.ensures)) in
    let nine = a_while c.loop-kind.invariant.command c.known_kind-kind.ensures test (no_kind _ If c.if-eq-2.ensures) in
    let holds = sym (c.is_true-holds.ensures ∙ ap is_true c.value.ensures) in
    rw (c.left-left-then-holds.ensures, c.mark-context.ensures)
    (round_next _ _ _ _ _ c.loop-kind.invariant unit c.test-got.ensures (goes_so c.if-is_stop-2.ensures) nine
    (holds ∙ c.if-holds.true) (rw (c.slot-then-holds.ensures.0, c.mark-context.ensures) at c.execute-round.ensures) (goes_so c.if-is_stop-3.ensures))

pub returns-else-holds : goal.returns-else-holds
returns-else-holds t c =
    let unit = spent c.if-left-eq0.false in
    let test = a_test c.known_kind-kind.ensures (no_kind _ Sequence c.if-eq.ensures) (ltb-false _ _ (sym c.if-is_single.ensures)) in
    let nine = a_while c.loop-kind.invariant.command c.known_kind-kind.ensures test (no_kind _ If c.if-eq-2.ensures) in
    let holds = sym (c.is_true-holds.ensures ∙ ap is_true c.value.ensures) in
    rw c.done.ensures (while-done _ _ _ _ _ c.loop-kind.invariant unit c.test-got.ensures (goes_so c.if-is_stop-2.ensures) nine
    (holds ∙ c.if-holds.false))

pub execute-round-requires : goal.execute-round-requires
execute-round-requires t c =
    let unit = spent c.if-left-eq0.false in
    let test = a_test c.known_kind-kind.ensures (no_kind _ Sequence c.if-eq.ensures) (ltb-false _ _ (sym c.if-is_single.ensures)) in
    let nine = a_while c.loop-kind.invariant.command c.known_kind-kind.ensures test (no_kind _ If c.if-eq-2.ensures) in
    let g = c.loop-kind.invariant in
    let lower = g.lower in
    let below = body_below _ _ _ _ _ g unit c.test-got.ensures (goes_so c.if-is_stop-2.ensures) nine in (
      omega (arith, c.slot-then-holds.ensures.0, below.lower),
      child g.command (rw c.slot-then-holds.ensures.0 below) (rw c.mark-context.ensures (c.test-got.ensures.context-known (goes_so c.if-is_stop-2.ensures))),
    )
