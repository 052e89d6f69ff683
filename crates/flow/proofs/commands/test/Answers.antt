-- What the expression gave, and the context after the test.
use native.Mathlib.Omega.{arith}
use Rattle.marks.proofs.Results.{stops_so, goes_so}
use Rattle.flow.proofs.Testing.{expression_stops, test_refused, goes_on, test_in}
use Rattle.flow.proofs.commands.test.Goals as goal

pub expression-x-requires : goal.expression-x-requires
expression-x-requires c = rw c.slot.ensures.0 (test_in c.requires.0 c.requires.1)

pub returns-then-is_stop : goal.returns-then-is_stop
returns-then-is_stop c =
    let gave = rw c.slot.ensures.0 at c.expression-x.ensures in
    expression_stops _ _ _ _ _ gave (stops_so c.if-is_stop.ensures)

pub enter-requires : goal.enter-requires
enter-requires c =
    let p = c.requires.0 in
    let few = p.ready.few-nodes in
    let inside = p.inside in
    let gave = rw c.slot.ensures.0 at c.expression-x.ensures in
    record {
      askable = p.ready.askable;
      context-known = p.context-known;
      seen = rw c.mark.ensures (gave.known (goes_so c.if-is_stop.ensures));
      few = omega arith;
    }

pub returns-in-Ok : goal.returns-in-Ok
returns-in-Ok c =
    let gave = rw c.slot.ensures.0 at c.expression-x.ensures in
    let entered = rw c.mark.ensures at c.in-Ok.ensures in
    goes_on _ _ _ _ _ gave (goes_so c.if-is_stop.ensures) entered (rw c.value.ensures at c.new.ensures)

pub returns-in-Err : goal.returns-in-Err
returns-in-Err c =
    let gave = rw c.slot.ensures.0 at c.expression-x.ensures in
    let refused = rw c.mark.ensures at c.in-Err.ensures in
    test_refused _ _ _ _ _ gave (goes_so c.if-is_stop.ensures) refused c.stop.ensures
