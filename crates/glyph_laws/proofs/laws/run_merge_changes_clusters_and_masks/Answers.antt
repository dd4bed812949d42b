use Rattle.glyph_lists.proofs.MergesLemmas.{run_merge_stays, run_merge_others}
use Rattle.glyph_laws.proofs.laws.run_merge_changes_clusters_and_masks.Goals as goal

pub returns-clause-stays : goal.returns-clause-stays
returns-clause-stays c = run_merge_stays

pub returns-clause-others : goal.returns-clause-others
returns-clause-others c = run_merge_others
