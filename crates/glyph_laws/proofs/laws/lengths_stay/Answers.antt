use Rattle.glyph_lists.proofs.MergesLemmas.{length-cluster_merge, length-run_merge}
use Rattle.glyph_lists.proofs.LengthsLemmas.{length-merge_or_mark, length-deletion}
use Rattle.glyph_laws.proofs.laws.lengths_stay.Goals as goal

pub returns-clause-cluster_merge : goal.returns-clause-cluster_merge
returns-clause-cluster_merge c = length-cluster_merge

pub returns-clause-run_merge : goal.returns-clause-run_merge
returns-clause-run_merge c = length-run_merge

pub returns-clause-merge : goal.returns-clause-merge
returns-clause-merge c = length-merge_or_mark

pub returns-clause-deletion_out : goal.returns-clause-deletion_out
returns-clause-deletion_out c = λ any_order out x rest. (length-deletion any_order out x rest).0

pub returns-clause-deletion_rest : goal.returns-clause-deletion_rest
returns-clause-deletion_rest c = λ any_order out x rest. (length-deletion any_order out x rest).1
