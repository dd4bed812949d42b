use Rattle.shaping_runs.proofs.RunLaws.{flags_after}
use Rattle.shaping_runs.proofs.laws.flags_still_agree.Goals as goal

pub returns : goal.returns
returns c = flags_after
