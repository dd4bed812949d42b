use Rattle.glyph_laws.proofs.NumbersLemmas.{least-run_merge, least-deletion}
use Rattle.glyph_laws.proofs.ReplacementLemmas.{least-replacement}
use Rattle.glyph_laws.proofs.laws.least_cluster_stays.Goals as goal

pub returns-clause-run_merge : goal.returns-clause-run_merge
returns-clause-run_merge c = least-run_merge

pub returns-clause-deletion : goal.returns-clause-deletion
returns-clause-deletion c = least-deletion

pub returns-clause-replacement : goal.returns-clause-replacement
returns-clause-replacement c = least-replacement
