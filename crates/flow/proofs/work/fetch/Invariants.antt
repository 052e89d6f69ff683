-- The fields so far.
use Rattle.flow.proofs.Fetching.{Filled}
use Rattle.flow.proofs.work.fetch.Given as goal

abbrev pub invariant-loop-field : goal.invariant-loop-field
invariant-loop-field l = Filled l.store l.held-items l.field
