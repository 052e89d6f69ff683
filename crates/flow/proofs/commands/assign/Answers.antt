-- What the expression gave, and the mark that is left on the field.
use native.Mathlib.Omega.{arith}
use Rattle.marks.proofs.Results.{stops_so, goes_so}
use Rattle.flow.proofs.Assigning.{field-few, field-known, source_in, assigned_stops, assigned_refused, assigned_done}
use Rattle.flow.proofs.commands.assign.Goals as goal

pub expression-x-requires : goal.expression-x-requires
expression-x-requires c = rw c.slot.ensures.0 (source_in c.requires.0 c.requires.1)

pub returns-then-is_stop : goal.returns-then-is_stop
returns-then-is_stop c =
    let gave = rw c.slot.ensures.0 at c.expression-x.ensures in
    assigned_stops c.requires.0 c.requires.1 gave (stops_so c.if-is_stop.ensures)

pub bounds-work-a : goal.bounds-work-a
bounds-work-a c = rw c.slot-a.ensures.0 (field-few c.requires.0 c.requires.1)

pub store-requires : goal.store-requires
store-requires c =
    let p = c.requires.0 in
    let few = p.ready.few-nodes in
    let inside = p.inside in
    let gave = rw c.slot.ensures.0 at c.expression-x.ensures in
    record {
      askable = p.ready.askable;
      context-known = p.context-known;
      mark = rw c.slot-a.ensures.0 (field-known p c.requires.1);
      seen = rw c.mark.ensures (gave.known (goes_so c.if-is_stop.ensures));
      few = omega arith;
    }

pub bounds-work-a-in-Ok : goal.bounds-work-a-in-Ok
bounds-work-a-in-Ok c = rw c.slot-a.ensures.0 (field-few c.requires.0 c.requires.1)

pub returns-in-Ok : goal.returns-in-Ok
returns-in-Ok c =
    let gave = rw c.slot.ensures.0 at c.expression-x.ensures in
    let stored = rw (c.slot-a.ensures.0, c.mark.ensures) at c.in-Ok.ensures in
    rw (c.slot-a.ensures.0, c.value.ensures, c.done.ensures) (assigned_done c.requires.0 c.requires.1 gave (goes_so c.if-is_stop.ensures) _ stored)

pub returns-in-Err : goal.returns-in-Err
returns-in-Err c =
    let gave = rw c.slot.ensures.0 at c.expression-x.ensures in
    let refused = rw (c.slot-a.ensures.0, c.mark.ensures) at c.in-Err.ensures in
    assigned_refused c.requires.0 c.requires.1 gave (goes_so c.if-is_stop.ensures) refused c.stop.ensures
