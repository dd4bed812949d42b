use Rattle.shaping_runs.proofs.RunLaws.{coarse_after}
use Rattle.shaping_runs.proofs.headline.clusters_only_merge.Goals as goal

pub returns : goal.returns
returns c = coarse_after
