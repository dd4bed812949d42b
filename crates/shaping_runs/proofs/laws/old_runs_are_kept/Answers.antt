use Rattle.shaping_runs.proofs.OldRuns.{same_runs}
use Rattle.shaping_runs.proofs.Settings.{cluster_level-turn}
use Rattle.shaping_runs.proofs.laws.old_runs_are_kept.Goals as goal

pub returns-clause-level : goal.returns-clause-level
returns-clause-level c = cluster_level-turn

pub returns-clause-calls : goal.returns-clause-calls
returns-clause-calls c = same_runs
