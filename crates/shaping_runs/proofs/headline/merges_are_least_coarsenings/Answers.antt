use Rattle.shaping_runs.proofs.HeadlineLemmas.{both-merge_coarsens, merge_shares_by, merge_keeps_by}
use Rattle.shaping_runs.proofs.headline.merges_are_least_coarsenings.Goals as goal

pub returns-clause-merge : goal.returns-clause-merge
returns-clause-merge c = both-merge_coarsens

pub returns-clause-shares : goal.returns-clause-shares
returns-clause-shares c = merge_shares_by

pub returns-clause-keeps : goal.returns-clause-keeps
returns-clause-keeps c = merge_keeps_by
