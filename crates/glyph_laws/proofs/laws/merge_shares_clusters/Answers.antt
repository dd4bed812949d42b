use Rattle.glyph_lists.proofs.MergesLemmas.{merge_shares}
use Rattle.glyph_laws.proofs.laws.merge_shares_clusters.Goals as goal

pub returns : goal.returns
returns c = merge_shares
