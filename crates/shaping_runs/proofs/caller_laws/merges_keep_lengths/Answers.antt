use Rattle.shaping_runs.proofs.CallerLaws.{merge_clusters_moves, merge_out_clusters_moves}
use Rattle.shaping_runs.proofs.caller_laws.merges_keep_lengths.Goals as goal

pub returns-clause-merge_clusters : goal.returns-clause-merge_clusters
returns-clause-merge_clusters c = λ start end s. merge_clusters_moves s start end

pub returns-clause-merge_out_clusters : goal.returns-clause-merge_out_clusters
returns-clause-merge_out_clusters c = λ start end s. merge_out_clusters_moves s start end
