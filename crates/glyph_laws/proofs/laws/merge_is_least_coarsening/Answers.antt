use Rattle.glyph_lists.proofs.ClustersLemmas.{IsContiguous-from_monotone}
use Rattle.glyph_lists.proofs.MergesLemmas.{run_merge_is_cluster_merge}
use Rattle.glyph_laws.proofs.laws.merge_is_least_coarsening.Goals as goal

pub returns : goal.returns
returns c = λ l p q in_l mono. run_merge_is_cluster_merge l p q in_l (IsContiguous-from_monotone l mono)
