use Rattle.glyph_lists.proofs.MergesLemmas.{merge_stays, merge_others}
use Rattle.glyph_laws.proofs.laws.merge_changes_clusters_and_masks.Goals as goal

pub returns-clause-stays : goal.returns-clause-stays
returns-clause-stays c = merge_stays

pub returns-clause-others : goal.returns-clause-others
returns-clause-others c = merge_others
