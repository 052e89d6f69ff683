-- One field more at each turn; past the last one the work store is filled.
use native.Mathlib.Omega.{arith}
use mathlib.Core.Path.{◌≡◌, ap, ap₂}
use Rattle.std.proofs.lemmas.List.{drop-replicate}
use Rattle.store.specs.Cells.{cell}
use Rattle.store.specs.Marks.{mark_of}
use Rattle.store.specs.Stores.{cell_at}
use Rattle.flow.proofs.Fetching.{filled_more, fetched}
use Rattle.flow.proofs.work.fetch.Goals as goal

pub loop-field-preserved : goal.loop-field-preserved
unfolding cell_at
loop-field-preserved c =
    filled_more c.args.store.now c.loop-field.held-items _ _ (omega (arith, c.loop-field-test.true, c.loop-field.auto.held-items)) c.loop-field.invariant
    (ap₂ cell c.value_at.ensures (ap mark_of c.mark_at.ensures.0))

pub returns : goal.returns
returns c =
    let fields = c.args.fields in
    let store = c.args.store.now in
    let held = c.loop-field.held-items in
    let all : c.loop-field.field ≡ fields = omega arith in
    rw (c.requires.2, drop-replicate) (fetched store held fields c.requires.0 c.requires.1 (omega arith) (rw all at c.loop-field.invariant))
