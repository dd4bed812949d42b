use Rattle.shaping_runs.proofs.DroppedLemmas.{cores_of-turn, calls_in_order}
use Rattle.shaping_runs.proofs.headline.glyphs_go_only_when_dropped.Goals as goal

pub returns-clause-call : goal.returns-clause-call
returns-clause-call c = cores_of-turn

pub returns-clause-calls : goal.returns-clause-calls
returns-clause-calls c = calls_in_order
