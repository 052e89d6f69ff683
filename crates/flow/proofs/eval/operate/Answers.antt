-- Each arm has what the operator gave, of the words' own values.
use mathlib.Core.Path.{sym}
use Rattle.value.specs.Values.{operator_of}
use Rattle.flow.proofs.Expressions.{operated_word, range_word, zero_word}
use Rattle.flow.proofs.eval.operate.Goals as goal

pub join-requires : goal.join-requires
join-requires c = rw (c.mark.ensures, c.mark-in-Ok.ensures) c.requires.0

pub returns-in-Ok : goal.returns-in-Ok
unfolding operator_of
returns-in-Ok c =
    let a = c.args in
    operated_word a.run.now a.n a.left a.right (sym (rw (c.from.ensures, c.op_of.ensures, c.value.ensures, c.value-2.ensures) at c.in-Ok.ensures))
    (rw (c.mark.ensures, c.mark-in-Ok.ensures) at c.join.ensures) c.new.ensures

pub returns-in-Err-OutOfRange : goal.returns-in-Err-OutOfRange
unfolding operator_of
returns-in-Err-OutOfRange c =
    let a = c.args in
    let e = c.in-Err-OutOfRange in
    range_word a.run.now a.n a.left a.right (sym (rw (c.from.ensures, c.op_of.ensures, c.value.ensures, c.value-2.ensures, e.field-0-is) at e.ensures)) c.stop.ensures

pub returns-in-Err-DivisorZero : goal.returns-in-Err-DivisorZero
unfolding operator_of
returns-in-Err-DivisorZero c =
    let a = c.args in
    let e = c.in-Err-DivisorZero in
    zero_word a.run.now a.n a.left a.right (sym (rw (c.from.ensures, c.op_of.ensures, c.value.ensures, c.value-2.ensures, e.field-0-is) at e.ensures)) c.stop-in-Err-DivisorZero.ensures
