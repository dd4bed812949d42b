use Rattle.shaping_runs.proofs.HeadlineLemmas.{least_after_deletion, least_after_replacement}
use Rattle.shaping_runs.proofs.headline.least_cluster_stays.Goals as goal

pub returns-clause-delete_glyph : goal.returns-clause-delete_glyph
returns-clause-delete_glyph c = least_after_deletion

pub returns-clause-replace_glyphs : goal.returns-clause-replace_glyphs
returns-clause-replace_glyphs c = least_after_replacement
