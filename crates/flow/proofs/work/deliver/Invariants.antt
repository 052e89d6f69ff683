-- The count, then the entries so far, then what stood there.
use Prim.Native.Nat.{◌%◌}
use mathlib.Core.Path.{◌≡◌}
use Rattle.store.specs.Marks.{mark_of}
use Rattle.store.specs.Stores.{entry_at, store_entries}
use Rattle.marks.specs.Inside.Words.{work_of}
use Rattle.basis.proofs.Filling.{filled}
use Rattle.flow.proofs.work.deliver.Given as goal

abbrev pub invariant-loop-field : goal.invariant-loop-field
invariant-loop-field l = l.out ≡ filled (l.fields % 256) (store_entries (work_of mark_of l.work) l.field) (entry_at l.field) l.initial.out
