-- What is left of the input falls with each trial.
use Rattle.std.proofs.Common.{length}
use Rattle.trials.proofs.all_trials.Given as goal

abbrev pub decreases-loop-trial : goal.decreases-loop-trial
decreases-loop-trial g l = length l.rest
