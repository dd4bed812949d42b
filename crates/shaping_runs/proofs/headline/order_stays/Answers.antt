use Rattle.shaping_runs.proofs.RunLaws.{order_by, order_after}
use Rattle.shaping_runs.proofs.headline.order_stays.Goals as goal

pub returns-clause-call : goal.returns-clause-call
returns-clause-call c = order_by

pub returns-clause-calls : goal.returns-clause-calls
returns-clause-calls c = order_after
