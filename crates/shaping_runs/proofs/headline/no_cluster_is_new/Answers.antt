use Rattle.shaping_runs.proofs.RunLaws.{numbers_by, numbers_after}
use Rattle.shaping_runs.proofs.headline.no_cluster_is_new.Goals as goal

pub returns-clause-call : goal.returns-clause-call
returns-clause-call c = numbers_by

pub returns-clause-calls : goal.returns-clause-calls
returns-clause-calls c = numbers_after
