-- The least cluster of a range, from a walk along it.
use Rattle.glyph_lists.proofs.ClustersLemmas.{length-clusters, length_clusters-append, get_or-clusters}
use Rattle.glyph_lists.proofs.ClustersLemmas.{range_least_more, range_least_one, range_least_last, range_least-whole}
use Rattle.glyph_lists.proofs.ClustersLemmas.{least_nothing}

pub ruleset walks = (
  length-clusters,
  length_clusters-append,
  get_or-clusters,
  range_least_more,
  range_least_one,
  range_least_last,
  range_least-whole,
  least_nothing,
)
